-- The spans that two numbers give: `meet`, `hull` and `join` of them by their numbers.
use Prim.Native.Nat.{ℕ, ◌<◌, ◌≤◌, min, max, ◌-◌, ◌+◌}
use mathlib.Core.Path.{◌≡◌, refl, sym, ◌∙◌}
use mathlib.Core.Bool.{Bool, true, false}
use native.Mathlib.Omega.{arith}
use lib.Dec.{ltb}
use borrow.Author.Tests.{lt-leb, le-leb, ne_eqb, lt-ltb, ltb-true, ltb-false}
use Rattle.laws.proofs.Cases.{compare_eq, compare_le}
use Rattle.wire.specs.Limits.{no_greatest, no_end}
use Rattle.meaning.specs.Sheet.{fin, end_of, inf, Top}
use Rattle.meaning.specs.Arranged.{cap}
use Rattle.sizes.specs.Span.{none, span, smaller, larger, less, make, meet, hull, plus, lap, join, add, Span, Kind, eq}
use Rattle.sizes.specs.Fold.{own_to}
use Rattle.sizes.proofs.BoundsLaws.{weight_least, weight_most}
use Rattle.tables.specs.SheetIn.{size_limit}
use Rattle.spans.specs.Held.{span_of, top_of, Room, AlikeBoth}

pub span_eq : {l m u v : ℕ} → l ≡ m → u ≡ v → span_of l u ≡ span_of m v
span_eq d e = rw (d, e)

pub none_of : {l m : ℕ} → m < l → span_of l m ≡ none
unfolding span_of
none_of {l} {m} h = rw (lt-leb l m h)

pub some_of : {l m : ℕ} → l ≤ m → span_of l m ≡ span l (top_of m)
unfolding span_of
some_of {l} {m} h = rw (le-leb l m h)

-- the same, by a test of emptiness
pub none_by : (l m : ℕ) {r : Bool} → r ≡ ltb m l → r ≡ true → span_of l m ≡ none
none_by l m e h = none_of (ltb-true m l (sym e ∙ h))

pub some_by : (l m : ℕ) {r : Bool} → r ≡ ltb m l → r ≡ false → l ≤ m
some_by l m e h = ltb-false m l (sym e ∙ h)

-- upper ends, in records and in tables
pub end_fin : {n h : ℕ} → (h ≡ n → ⊥) → end_of n h ≡ fin h
unfolding end_of
end_fin {n} {h} e = rw (ne_eqb h n e)

pub top_fin : {m : ℕ} → (m ≡ no_greatest → ⊥) → top_of m ≡ fin m
top_fin h = end_fin h

pub top_end : top_of no_greatest ≡ inf
unfolding end_of
top_end = refl

-- the smaller and the larger of two upper ends
pub top_min : {a b : ℕ} → a ≤ no_greatest → b ≤ no_greatest → top_of (min a b) ≡ smaller (top_of a) (top_of b)
top_min {a} {b} h k =
    compare_eq a no_greatest
    (λ e. compare_eq b no_greatest
    (λ d. let m : min a b ≡ no_greatest = omega arith in rw (m, e, d, top_end))
    (λ d. let m : min a b ≡ b = omega arith in rw (m, e, top_end, top_fin d)))
    (λ e. compare_eq b no_greatest
    (λ d. let m : min a b ≡ a = omega arith in rw (m, d, top_end, top_fin e))
    (λ d. rw (top_fin e, top_fin d, top_fin {m = min a b} (λ z. omega arith))))

pub top_max : {a b : ℕ} → a ≤ no_greatest → b ≤ no_greatest → top_of (max a b) ≡ larger (top_of a) (top_of b)
top_max {a} {b} h k =
    compare_eq a no_greatest
    (λ e. compare_eq b no_greatest
    (λ d. let m : max a b ≡ no_greatest = omega arith in rw (m, e, d, top_end))
    (λ d. let m : max a b ≡ no_greatest = omega arith in rw (m, e, top_end, top_fin d)))
    (λ e. compare_eq b no_greatest
    (λ d. let m : max a b ≡ no_greatest = omega arith in rw (m, d, top_end, top_fin e))
    (λ d. rw (top_fin e, top_fin d, top_fin {m = max a b} (λ z. omega arith))))

-- a number cut at an upper end, and less an upper end
pub cap_top : (m n : ℕ) → n ≤ no_greatest → cap (top_of m) n ≡ min m n
cap_top m n h = compare_eq m no_greatest (λ e. rw (e, top_end) (omega arith)) (λ e. rw (top_fin e))

pub less_top : (n m : ℕ) → n ≤ no_greatest → less n (top_of m) ≡ n - m
less_top n m h = compare_eq m no_greatest (λ e. rw (e, top_end) (omega arith)) (λ e. rw (top_fin e))

-- a span is made by writing its ends down
pub make_of : (l m : ℕ) → l ≤ no_greatest → make l (top_of m) ≡ span_of l m
unfolding span_of
make_of l m h =
    compare_eq m no_greatest
    (λ e. rw (e, le-leb l no_greatest h, top_end))
    (λ e. rw (top_fin e))

pub meet_of : (l u m v : ℕ) → l ≤ no_greatest → u ≤ no_greatest → m ≤ no_greatest → v ≤ no_greatest
    → span_of (max l m) (min u v) ≡ meet (span_of l u) (span_of m v)
unfolding meet
meet_of l u m v a b c d =
    compare_le l u
    (λ h. compare_le m v
    (λ k. rw (some_of h, some_of k, ← top_min b d, make_of (max l m) (min u v) (omega arith)))
    (λ k. rw (some_of h, none_of k, none_of {l = max l m} {m = min u v} (omega arith))))
    (λ h. rw (none_of h, none_of {l = max l m} {m = min u v} (omega arith)))

pub hull_ends : (l u m v : ℕ) → u ≤ no_greatest → v ≤ no_greatest → l ≤ u → m ≤ v
    → span_of (min l m) (max u v) ≡ hull (span_of l u) (span_of m v)
unfolding hull
hull_ends l u m v a b h k = rw (some_of h, some_of k, some_of {l = min l m} {m = max u v} (omega arith), top_max a b)

-- a span with room has ends with room
abbrev pub EndRoom : ℕ → Type 0
EndRoom m = (m ≡ no_greatest → ⊥) → m ≤ size_limit

pub room_least : {l m : ℕ} → l ≤ m → Room (span_of l m) → l ≤ size_limit
room_least {l} {m} h r = weight_least l (top_of m) size_limit (rw (some_of h) at r)

pub room_most : {l m : ℕ} → l ≤ m → Room (span_of l m) → EndRoom m
room_most {l} {m} h r e = weight_most l m size_limit (rw (some_of h, top_fin e) at r)

-- the sum of upper ends that have room
pub top_plus : {a b : ℕ} → EndRoom a → EndRoom b → a ≤ no_greatest → b ≤ no_greatest → top_of (min (a + b) no_greatest) ≡ plus (top_of a) (top_of b)
top_plus {a} {b} r t h k =
    compare_eq a no_greatest
    (λ e. let m : min (a + b) no_greatest ≡ no_greatest = omega arith in rw (m, e, top_end) (any (top_of b)))
    (λ e. compare_eq b no_greatest
    (λ d. let m : min (a + b) no_greatest ≡ no_greatest = omega arith in rw (m, d, top_end, top_fin e))
    (λ d. let l = r e in
    let g = t d in
    let m : min (a + b) no_greatest ≡ a + b = omega arith in
    rw (m, top_fin e, top_fin d, top_fin {m = a + b} (λ z. omega arith))))
  where
    any : (t : Top) → inf ≡ plus inf t
    any (fin k) = refl
    any inf = refl

-- joined spans, by their ends
module _ {l u m v : ℕ} (a : u ≤ no_greatest) (b : v ≤ no_greatest) (h : l ≤ u) (k : m ≤ v)
    (r : Room (span_of l u)) (t : Room (span_of m v)) where
  pub lap_of : span_of (max l m) (min (u + v) no_greatest) ≡ join lap (span_of l u) (span_of m v)
  unfolding join
  lap_of = rw (some_of h, some_of k, some_of {l = max l m} {m = min (u + v) no_greatest} (omega arith), top_plus (room_most h r) (room_most k t) a b)

  pub add_of : span_of (l + m) (min (u + v) no_greatest) ≡ join add (span_of l u) (span_of m v)
  unfolding join
  add_of =
      let c = room_least h r in
      let d = room_least k t in
      rw (some_of h, some_of k, some_of {l = l + m} {m = min (u + v) no_greatest} (omega arith), top_plus (room_most h r) (room_most k t) a b)

-- nothing is joined to nothing
pub join_none_left : (q : Kind) (a b : Span) → a ≡ none → join q a b ≡ none
unfolding join
join_none_left q a b e = rw e

pub join_none_right : (q : Kind) (a b : Span) → b ≡ none → join q a b ≡ none
unfolding join
join_none_right q none b e = refl
join_none_right lap (span l u) b e = rw e
join_none_right add (span l u) b e = rw e
join_none_right eq (span l u) b e = rw e

-- equal in each state
pub both : (f h : Bool → Span) → f false ≡ h false → f true ≡ h true → AlikeBoth f h
both f h a b false = a
both f h a b true = b

pub endless_of : (l : ℕ) → l ≤ no_greatest → span_of l no_greatest ≡ span l inf
endless_of l h = rw (some_of h, top_end)

pub finite_of : (l u : ℕ) → l ≤ no_greatest → u < no_greatest → span_of l u ≡ make l (fin u)
finite_of l u h k = sym (make_of l u h) ∙ (rw (top_fin {m = u} (λ e. omega arith)))

-- the own bounds of a group, from the fields of its record
pub own_out_endless : (l h : ℕ) → l ≤ no_end → h ≡ no_end → span_of l no_greatest ≡ own_to l (end_of no_end h) false
unfolding end_of
own_out_endless l h a e = rw e (endless_of l (omega arith))

pub own_out_finite : (l h : ℕ) → l ≤ no_end → h ≤ no_end → (h ≡ no_end → ⊥) → span_of l h ≡ own_to l (end_of no_end h) false
own_out_finite l h a b e = rw (end_fin e) (finite_of l h (omega arith) (omega arith))

pub own_in_endless : (l h n : ℕ) → l ≤ no_end → n ≡ l - 1 → h ≡ no_end → span_of n no_greatest ≡ own_to l (end_of no_end h) true
unfolding end_of
own_in_endless l h n a d e = rw (e, d) (endless_of (l - 1) (omega arith))

pub own_in_zero : (l h : ℕ) → h ≡ 0 → none ≡ own_to l (end_of no_end h) true
unfolding end_of
own_in_zero l h e = rw e

pub own_in_finite : (l h n m : ℕ) → l ≤ no_end → h ≤ no_end → n ≡ l - 1 → m ≡ h - 1 → (h ≡ no_end → ⊥) → (h ≡ 0 → ⊥)
    → span_of n m ≡ own_to l (end_of no_end h) true
own_in_finite l h n m a b d e f g =
    rw (end_fin f, lt-ltb 0 h (omega arith), d, e) (finite_of (l - 1) (h - 1) (omega arith) (omega arith))
