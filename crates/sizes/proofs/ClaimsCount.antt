-- A sheet with the bounds of one group narrowed: its sizes are those of the sheet that meet the narrower bound.
use Prim.Native.Nat.{ℕ, max, ◌≤◌, ◌+◌}
use mathlib.Core.Path.{◌≡◌, refl}
use mathlib.Core.Bool.{cond, Bool, true, false, false≢true}
use mathlib.Core.Logic.{◌↔◌}
use native.Mathlib.Omega.{arith}
use borrow.Author.Tests.{eqb-true, eq-eqb}
use lib.Dec.{eqb}
use Rattle.laws.specs.Sum.{bit}
use Rattle.meaning.specs.Sheet.{Sheet, fin, Top, inf, AtMost, Group}
use Rattle.sizes.specs.Balanced.{Sizes, Choice}
use Rattle.sizes.specs.Span.{smaller}
use Rattle.sizes.proofs.Possible.{choice_sizes}
use Rattle.sizes.proofs.Rebound.{rebound, group_rebound, sizes_rebound, choice_rebound}

-- the upper end of group g replaced by the smaller of it and k
abbrev pub narrow_hi : Sheet → ℕ → ℕ → Sheet
narrow_hi s g k = rebound s s.lo (λ i. cond (eqb i g) (smaller (s.hi i) (fin k)) (s.hi i))

-- the lower end of group g replaced by the larger of it and k
abbrev pub narrow_lo : Sheet → ℕ → ℕ → Sheet
narrow_lo s g k = rebound s (λ i. cond (eqb i g) (max (s.lo i) k) (s.lo i)) s.hi

-- the narrowed end, where the test x is true
narrowed_hi : (x : Bool) (n k : ℕ) (u : Top) → AtMost n (cond x (smaller u (fin k)) u) ↔ (AtMost n u × (x ≡ true → n ≤ k))
narrowed_hi true n k (fin u) = (λ a. (omega arith, λ e. omega arith), λ w. omega (arith, w.1 refl))
narrowed_hi true n k inf = (λ a. (tt, λ e. a), λ w. w.1 refl)
narrowed_hi false n k u = (λ a. (a, λ e. absurd (false≢true e)), λ w. w.0)

narrowed_lo : (x : Bool) (n k l : ℕ) → (cond x (max l k) l ≤ n) ↔ ((l ≤ n) × (x ≡ true → k ≤ n))
narrowed_lo true n k l = (λ a. (omega arith, λ e. omega arith), λ w. omega (arith, w.1 refl))
narrowed_lo false n k l = (λ a. (a, λ e. absurd (false≢true e)), λ w. w.0)

pub narrow_hi_sizes : {s : Sheet} {f : ℕ → ℕ} (g k : ℕ) → Group s g → Sizes (narrow_hi s g k) f ↔ (Sizes s f × (f g ≤ k))
narrow_hi_sizes {s} {f} g k q = (
  λ z.
      let most : (i : ℕ) → Group s i → AtMost (f i) (s.hi i) × (eqb i g ≡ true → f i ≤ k) =
      λ i j. (narrowed_hi (eqb i g) (f i) k (s.hi i)).0 (z.most i (group_rebound s _ _ _ _ j)) in (
        sizes_rebound s _ _ _ _ z (λ i j. z.least i (group_rebound s _ _ _ _ j)) (λ i j. (most i j).0),
        (most g q).1 (eq-eqb g g refl),
      ),
  λ w.
      sizes_rebound s _ _ _ _ w.0 w.0.least
      (λ i j. (narrowed_hi (eqb i g) (f i) k (s.hi i)).1 (w.0.most i j, λ e. rw (eqb-true i g e) w.1)),
)

pub narrow_lo_sizes : {s : Sheet} {f : ℕ → ℕ} (g k : ℕ) → Group s g → Sizes (narrow_lo s g k) f ↔ (Sizes s f × (k ≤ f g))
narrow_lo_sizes {s} {f} g k q = (
  λ z.
      let least : (i : ℕ) → Group s i → (s.lo i ≤ f i) × (eqb i g ≡ true → k ≤ f i) =
      λ i j. (narrowed_lo (eqb i g) (f i) k (s.lo i)).0 (z.least i (group_rebound s _ _ _ _ j)) in (
        sizes_rebound s _ _ _ _ z (λ i j. (least i j).0) (λ i j. z.most i (group_rebound s _ _ _ _ j)),
        (least g q).1 (eq-eqb g g refl),
      ),
  λ w.
      sizes_rebound s _ _ _ _ w.0
      (λ i j. (narrowed_lo (eqb i g) (f i) k (s.lo i)).1 (w.0.least i j, λ e. rw (eqb-true i g e) w.1))
      w.0.most,
)

-- a choice under a narrowed bound
pub narrow_hi_choice : {s : Sheet} {may : ℕ → Bool → Bool} {f : ℕ → ℕ} {M : ℕ → Bool} (g k : ℕ) → Group s g
    → Choice (narrow_hi s g k) may f M ↔ (Choice s may f M × (f g + bit (M g) ≤ k))
narrow_hi_choice {s} g k q = (
  λ c. let w = (narrow_hi_sizes g k q).0 (choice_sizes c) in (choice_rebound s _ _ _ _ c w.0, w.1),
  λ w. choice_rebound s _ _ _ _ w.0 ((narrow_hi_sizes g k q).1 (choice_sizes w.0, w.1)),
)

pub narrow_lo_choice : {s : Sheet} {may : ℕ → Bool → Bool} {f : ℕ → ℕ} {M : ℕ → Bool} (g k : ℕ) → Group s g
    → Choice (narrow_lo s g k) may f M ↔ (Choice s may f M × (k ≤ f g + bit (M g)))
narrow_lo_choice {s} g k q = (
  λ c. let w = (narrow_lo_sizes g k q).0 (choice_sizes c) in (choice_rebound s _ _ _ _ c w.0, w.1),
  λ w. choice_rebound s _ _ _ _ w.0 ((narrow_lo_sizes g k q).1 (choice_sizes w.0, w.1)),
)
