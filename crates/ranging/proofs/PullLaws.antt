-- `pull` of the spans that two numbers each give, by their numbers.
use Prim.Native.Nat.{ℕ, ◌-◌, ◌≤◌, ◌<◌}
use mathlib.Core.Path.{◌≡◌, refl, sym, ap}
use mathlib.Core.Bool.{true, false}
use native.Mathlib.Omega.{arith}
use borrow.Author.Tests.{le-leb, lt-leb}
use Rattle.laws.proofs.Cases.{compare_eq}
use Rattle.wire.specs.Limits.{no_greatest}
use Rattle.meaning.specs.Sheet.{Top, fin, inf}
use Rattle.sizes.specs.Span.{shorter, reaches, Span, none, Kind, pull, span, lap, add, eq, meet}
use Rattle.spans.specs.Held.{top_of, span_of}
use Rattle.spans.proofs.HeldLaws.{top_end, top_fin, less_top, make_of, some_of}
use Rattle.ranging.specs.Pull.{pull_by}

-- an upper end less a number, and whether a number reaches it
pub shorter_end : (u a : ℕ) → u ≡ no_greatest → top_of no_greatest ≡ shorter (top_of u) a
shorter_end u a e = rw (e, top_end)

pub shorter_fin : (u a : ℕ) → u ≤ no_greatest → (u ≡ no_greatest → ⊥) → top_of (u - a) ≡ shorter (top_of u) a
shorter_fin u a h n = rw (top_fin n, top_fin {m = u - a} (λ e. n (omega arith)))

pub reaches_top : (m u : ℕ) → m ≤ no_greatest → m ≤ u → reaches m (top_of u) ≡ true
reaches_top m u h k =
    compare_eq u no_greatest
    (λ e. rw (e, top_end))
    (λ e. rw (top_fin e) (le-leb m u k))

pub reaches_not : (m u : ℕ) → m ≤ no_greatest → u < m → reaches m (top_of u) ≡ false
reaches_not m u h k = rw (top_fin {m = u} (λ e. omega arith)) (lt-leb m u k)

-- nothing is pulled out of nothing, nor with nothing beside it
pub pull_none_left : (q : Kind) (a b : Span) → a ≡ none → pull q a b ≡ none
unfolding pull
pull_none_left q a b e = rw e

pub pull_none_right : (q : Kind) (a b : Span) → b ≡ none → pull q a b ≡ none
unfolding pull
pull_none_right q none b e = refl
pull_none_right lap (span l u) b e = rw e
pull_none_right add (span l u) b e = rw e
pull_none_right eq (span l u) b e = rw e

pub pull_eq_meet : (a b : Span) → pull eq a b ≡ meet a b
unfolding pull meet
pull_eq_meet none b = refl
pull_eq_meet (span l u) none = refl
pull_eq_meet (span l u) (span m v) = refl

pub by_none : (c l u m : ℕ) (v : Top) → m ≤ no_greatest → u < m → pull_by c l (top_of u) m v ≡ none
unfolding pull_by
by_none c l u m v b h = rw (reaches_not m u b h)

pub by_some : (c l u m v w : ℕ) → l ≤ no_greatest → m ≤ no_greatest → m ≤ u → top_of w ≡ shorter (top_of u) c
    → span_of (l - v) w ≡ pull_by c l (top_of u) m (top_of v)
unfolding pull_by
by_some c l u m v w a b h e = rw (reaches_top m u b h, less_top l v a, ← e) (sym (make_of (l - v) w (omega arith)))

shorter_zero : (u : Top) → shorter u 0 ≡ u
shorter_zero (fin a) = ap fin (omega arith)
shorter_zero inf = refl

module _ (l u m v : ℕ) (h : l ≤ u) (k : m ≤ v) where
  -- the sons may share members
  pub by_lap : pull_by 0 l (top_of u) m (top_of v) ≡ pull lap (span_of l u) (span_of m v)
  unfolding pull_by pull
  by_lap = rw (some_of h, some_of k, shorter_zero (top_of u))

  -- the sons share none
  pub by_add : pull_by m l (top_of u) m (top_of v) ≡ pull add (span_of l u) (span_of m v)
  unfolding pull_by pull
  by_add = rw (some_of h, some_of k)
