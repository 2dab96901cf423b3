-- Laws of the states and numbers that are picked for one son and the later ones.
use Prim.Native.Nat.{ℕ, ◌≤◌, ◌-◌, max, ◌+◌, min}
use mathlib.Core.Path.{◌≡◌, refl, sym, ◌∙◌}
use mathlib.Core.Bool.{Bool, true, false, true≢false, cond}
use lib.Dec.{leb}
use borrow.Author.Tests.{leb-true, le-leb}
use mathlib.Core.Logic.{◌↔◌, ◌⊎◌, ⊎_elim}
use native.Mathlib.Omega.{arith}
use Rattle.laws.proofs.Cases.{compare_eq, compare_le}
use Rattle.wire.specs.Limits.{no_greatest}
use Rattle.meaning.specs.Sheet.{AtMost, Top, fin, inf}
use Rattle.sizes.specs.Span.{In, Kind, lap, add, eq, Makes, join, plus, son_of}
use Rattle.sizes.proofs.SpanLaws.{Proper, in_meet, meet_join, rest_of, join_in}
use Rattle.spans.specs.declared.kind.Kind.{Kind as KindRead}
use Rattle.spans.specs.declared.kind.Kind.TheVariants.{Lap, Add, Eq}
use Rattle.spans.specs.Held.{top_of, span_of, kind_held}
use Rattle.spans.proofs.HeldLaws.{top_end, top_fin, none_of, some_of, join_none_left, join_none_right, cap_top, less_top}
use Rattle.choosing.specs.Parts.{rest_state, son_state}

-- the first states that can be joined, where the sons may share members or share none
pub first_states : (k : KindRead) → (k ≡ Lap) ⊎ (k ≡ Add) → (f g : Bool)
    → (rest_state (kind_held k) true f g ≡ cond f true (cond g false true)) × (son_state (kind_held k) true f g ≡ cond f false true)
unfolding rest_state son_state
first_states Lap w f g = (refl, refl)
first_states Add w f g = (refl, refl)
first_states Eq w f g = absurd (⊎_elim (λ e. cc) (λ e. cc) w)

-- upper ends as numbers, for a number that is not above the one for no end
pub at_top : (r u : ℕ) → r ≤ no_greatest → (r ≤ u) ↔ AtMost r (top_of u)
at_top r u l =
    compare_eq u no_greatest
    (λ e. rw (e, top_end) (λ h. tt, λ h. l))
    (λ n. rw (top_fin n) (λ h. h, λ h. h))

pub at_plus_top : (r u v : ℕ) → r ≤ no_greatest → (r - u ≤ v) ↔ AtMost r (plus (top_of u) (top_of v))
at_plus_top r u v l =
    compare_eq u no_greatest
    (λ e. rw (e, top_end) (λ h. any (top_of v), λ h. omega arith))
    (λ n. compare_eq v no_greatest
    (λ e. rw (e, top_end, top_fin n) (λ h. tt, λ h. omega arith))
    (λ o. rw (top_fin n, top_fin o) (λ h. omega arith, λ h. omega arith)))
  where
    any : (t : Top) → AtMost r (plus inf t)
    any (fin k) = tt
    any inf = tt

pub proper_of : (l u : ℕ) → l ≤ no_greatest → Proper (span_of l u)
unfolding Proper
proper_of l u b = compare_le l u (λ h. rw (some_of h) ((at_top l u b).0 h)) (λ h. rw (none_of h) tt)

-- the numbers of joined spans
pub in_lap : {l u m v r : ℕ} → l ≤ u → m ≤ v → r ≤ no_greatest → ((max l m ≤ r) × (r - u ≤ v)) ↔ In r (join lap (span_of l u)
    (span_of m v))
unfolding join
in_lap {l} {u} {m} {v} {r} h k b =
    let e = at_plus_top r u v b in
    rw (some_of h, some_of k) (λ w. (w.0, e.0 w.1), λ w. (w.0, e.1 w.1))

pub in_add : {l u m v r : ℕ} → l ≤ u → m ≤ v → r ≤ no_greatest → ((l + m ≤ r) × (r - u ≤ v)) ↔ In r (join add (span_of l u)
    (span_of m v))
unfolding join
in_add {l} {u} {m} {v} {r} h k b =
    let e = at_plus_top r u v b in
    rw (some_of h, some_of k) (λ w. (w.0, e.0 w.1), λ w. (w.0, e.1 w.1))

pub in_some : (l u r : ℕ) → r ≤ no_greatest → ((l ≤ r) × (r ≤ u)) ↔ In r (span_of l u)
in_some l u r b =
    compare_le l u
    (λ h. let e = at_top r u b in rw (some_of h) (λ w. (w.0, e.0 w.1), λ w. (w.0, e.1 w.1)))
    (λ h. rw (none_of h) (λ w. omega arith, λ w. absurd w))

pub in_eq : (l u m v r : ℕ) → r ≤ no_greatest → ((max l m ≤ r) × (r ≤ min u v)) ↔ In r (join eq (span_of l u) (span_of m v))
in_eq l u m v r b =
    let i = in_some l u r b in
    let j = in_some m v r b in
    let k = in_meet r (span_of l u) (span_of m v) in
    rw (← meet_join (span_of l u) (span_of m v)) (
      λ w. k.1 (i.0 (omega arith, omega arith), j.0 (omega arith, omega arith)),
      λ w. let x = i.1 (k.0 w).0 in let y = j.1 (k.0 w).1 in (omega arith, omega arith),
    )

-- spans with nothing in them are joined to nothing
pub in_none : (q : Kind) (l u m v r : ℕ) → In r (join q (span_of l u) (span_of m v)) → (l ≤ u) × (m ≤ v)
in_none q l u m v r h = (
  compare_le l u (λ k. k) (λ k. absurd (rw (join_none_left q (span_of l u) (span_of m v) (none_of k)) at h)),
  compare_le m v (λ k. k) (λ k. absurd (rw (join_none_right q (span_of l u) (span_of m v) (none_of k)) at h)),
)

-- the numbers of the later sons and of the one son
pub numbers_right : (q : Kind) (l u m v r x y : ℕ) → l ≤ no_greatest → m ≤ no_greatest → In r (join q (span_of l u) (span_of m v))
    → x ≡ rest_of q (span_of l u) (span_of m v) r → y ≡ son_of q (span_of l u) (span_of m v) r
    → Makes q x y r × In x (span_of l u) × In y (span_of m v)
numbers_right q l u m v r x y i j h d e =
    let p = join_in q (span_of l u) (span_of m v) r (proper_of l u i) (proper_of m v j) h in
    rw (d, e) (p.2, p.0, p.1)

module _ {l u m v r : ℕ} (h : l ≤ u) (k : m ≤ v) (b : r ≤ no_greatest) where
  pub son_lap : son_of lap (span_of l u) (span_of m v) r ≡ min v r
  unfolding son_of
  son_lap = rw (some_of h, some_of k) (cap_top v r b)

  pub rest_lap : rest_of lap (span_of l u) (span_of m v) r ≡ min u r
  unfolding rest_of
  rest_lap = rw (some_of h, some_of k) (cap_top u r b)

  pub son_add : son_of add (span_of l u) (span_of m v) r ≡ max m (r - u)
  unfolding son_of
  son_add = rw (some_of h, some_of k, less_top r u b)

  pub rest_add : rest_of add (span_of l u) (span_of m v) r ≡ r - max m (r - u)
  unfolding rest_of son_of
  rest_add = rw (some_of h, some_of k, less_top r u b)

  pub son_eq : son_of eq (span_of l u) (span_of m v) r ≡ r
  unfolding son_of
  son_eq = rw (some_of h, some_of k)

  pub rest_eq : rest_of eq (span_of l u) (span_of m v) r ≡ r
  unfolding rest_of
  rest_eq = rw (some_of h, some_of k)

-- a test that stands for the last part of a fact, where the others hold, and where one does not
pub told_then : {P : Type 0} {a b c d : ℕ} → a ≤ b → ((a ≤ b) × (c ≤ d)) ↔ P → (leb c d ≡ true) ↔ P
told_then {c = c} {d = d} h i = (λ e. i.0 (h, leb-true c d e), λ p. le-leb c d (i.1 p).1)

pub told_else : {P : Type 0} {b : Bool} → b ≡ false → (P → ⊥) → (b ≡ true) ↔ P
told_else e n = (λ h. absurd (true≢false (sym h ∙ e)), λ p. absurd (n p))
