-- Where every lo and every finite hi is at most B, the ends of every range are at most B times the number of groups less
-- one, or B where there is one group (document 01, "Ranges").
use Prim.Native.Nat.{ℕ, ◌≤◌, suc, zero, ◌-◌, ◌*◌, max}
use mathlib.Core.Bool.{Bool, false}
use mathlib.Core.Logic.{◌⊎◌, inl, inr, ◌↔◌, ⊎_elim}
use native.Mathlib.Omega.{arith}
use native.Mathlib.Nat.{le_refl, mul-le-mul_left}
use Rattle.laws.proofs.Cases.{split}
use Rattle.meaning.specs.Sheet.{Sheet, fin, inf, Group}
use Rattle.meaning.specs.Tree.{Tree, Rooted}
use Rattle.meaning.specs.Sons.{is_son}
use Rattle.meaning.specs.Fits.{Attains}
use Rattle.meaning.proofs.SonLaws.{son_of_law, son_parent}
use Rattle.sizes.specs.Span.{Span, none, span, In, pull}
use Rattle.sizes.specs.Fold.{join_kind, later, Measured, spans_of}
use Rattle.sizes.specs.Ranged.{free, held, Ranged}
use Rattle.sizes.specs.Bounds.{weight}
use Rattle.sizes.proofs.SpanLaws.{Proper}
use Rattle.sizes.proofs.MeasuredLaws.{spans_measured}
use Rattle.sizes.proofs.BoundsLaws.{weight_least, weight_most, weight_meet, weight_pull, Small, span_ends, later_ends}
use Rattle.sizes.proofs.PullLaws.{proper_least}
use Rattle.sizes.proofs.RangedExists.{root_or_son, ranged_exists}
use Rattle.sizes.proofs.RangeExact.{range_attains, range_proper}

-- k is an end of the range of group g: the least, or the greatest, count that sets that fit give it
abbrev pub End : Sheet → ℕ → ℕ → Type 0
End s g k = Attains s g k × (((j : ℕ) → Attains s g j → k ≤ j) ⊎ ((j : ℕ) → Attains s g j → j ≤ k))

-- the least and the greatest number of a span weigh no more than it
end_weight : (a : Span) (k : ℕ) → Proper a → In k a → ((j : ℕ) → In j a → k ≤ j) ⊎ ((j : ℕ) → In j a → j ≤ k) → k ≤ weight a
end_weight none k p i w = absurd i
end_weight (span l u) k p i (inl w) = omega (arith, w l (proper_least l u p), weight_least l u _ (le_refl _))
end_weight (span l (fin u)) k p i (inr w) = omega (arith, weight_most l u _ (le_refl _))
end_weight (span l inf) k p i (inr w) = absurd (omega (arith, w (suc k) (omega arith, tt)))

module _ {s : Sheet} {z : ℕ → Bool → Span} {R : ℕ → Span} {B : ℕ} (t : Tree s) (r : Rooted s) (m : Measured s free z)
    (h : Ranged s z R) (b : Small s B) where
  -- the spans of the fold
  span_limit : (g : ℕ) → Group s g → weight (z g false) ≤ max B (B * (s.size - 1))
  span_limit g q =
      let less : s.size - g ≤ s.size - 1 = omega arith in
      omega (arith, span_ends s free z B t m b g q false, mul-le-mul_left B less)

  later_limit : (p k : ℕ) → Group s p → k ≤ s.size → weight (later s z p k false) ≤ max B (B * (s.size - 1))
  later_limit p k q l =
      let less : s.size - p ≤ s.size - 1 = omega arith in
      omega (arith, later_ends s free z B t m b p k false l, mul-le-mul_left B less)

  -- what the later sons hold, and the ranges from the root down
  held_limit : (p n : ℕ) → Group s p → n ≤ suc s.size → weight (R p) ≤ max B (B * (s.size - 1))
      → weight (held s z R p n) ≤ max B (B * (s.size - 1))
  unfolding held
  held_limit p zero q l w = w
  held_limit p (suc n) q l w =
      split (is_son s p n)
      (λ e. rw e
      (omega (
        arith,
        weight_meet (later s z p (s.size - n) false) (pull (join_kind s p) (held s z R p n) (z n false)),
        weight_pull (join_kind s p) (held s z R p n) (z n false),
        later_limit p (s.size - n) q (omega arith),
        span_limit n (son_of_law s p n (omega arith) e).group,
        held_limit p n q (omega arith) w,
      )))
      (λ e. rw e (held_limit p n q (omega arith) w))

  range_limit : (d g : ℕ) → g ≤ d → Group s g → weight (R g) ≤ max B (B * (s.size - 1))
  range_limit zero g l q = absurd (omega arith)
  range_limit (suc d) g l q =
      root_or_son r g q
      (λ e. rw (e, h.root) (span_limit 1 r.one))
      (λ p k. let i = son_parent t k in
      rw (h.son p g k)
      (omega (
        arith,
        weight_meet (z g false) (pull (join_kind s p) (held s z R p g) (later s z p (s.size - g) false)),
        weight_pull (join_kind s p) (held s z R p g) (later s z p (s.size - g) false),
        span_limit g q,
        later_limit p (s.size - g) i (omega arith),
        held_limit p g i (omega arith) (range_limit d p (omega (arith, t.before g q)) i),
      )))

  range_most : (g : ℕ) → Group s g → weight (R g) ≤ B * max 1 (s.size - 1)
  range_most g q =
      let one : 1 ≤ max 1 (s.size - 1) = omega arith in
      let others : s.size - 1 ≤ max 1 (s.size - 1) = omega arith in
      omega (arith, range_limit g g (le_refl g) q, mul-le-mul_left B one, mul-le-mul_left B others)

-- No end of a range is large.
pub end_limit_law : {s : Sheet} {B : ℕ} → Tree s → Rooted s → Small s B → (g k : ℕ) → Group s g → End s g k
    → k ≤ B * max 1 (s.size - 1)
end_limit_law {s} t r b g k q w =
    let m = spans_measured s free t in
    let h = ranged_exists t r (spans_of s free) in
    let had : (j : ℕ) → In j (h.0 g) ↔ Attains s g j = λ j. range_attains t r m h.1 g j q in
    omega (
      arith,
      end_weight (h.0 g) k (range_proper t r m h.1 g q) ((had k).1 w.0)
          (⊎_elim (λ l. inl (λ j i. l j ((had j).0 i))) (λ l. inr (λ j i. l j ((had j).0 i))) w.1),
      range_most t r m h.1 b g q,
    )
