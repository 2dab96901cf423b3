-- The arrangement is the smallest clinic that fits: no sets that fit have fewer members in the root, and no run leaves the root's
-- (document 02, card 13).
use Prim.Native.Nat.{ℕ, ◌≤◌, zero, suc, ◌+◌}
use mathlib.Core.Path.{◌≡◌}
use native.Mathlib.Omega.{arith}
use native.Mathlib.Nat.{le_refl}
use Rattle.meaning.specs.Sheet.{Sheet, Group}
use Rattle.meaning.specs.Tree.{Tree, Rooted}
use Rattle.meaning.specs.Sets.{Sets, count}
use Rattle.meaning.specs.Fits.{Fits}
use Rattle.meaning.specs.Arranged.{ArrangedBottomUp}
use Rattle.meaning.proofs.SonLaws.{son_parent}
use Rattle.sizes.specs.Balanced.{Balanced}
use Rattle.sizes.specs.Runs.{Starts}
use Rattle.sizes.proofs.RunsLaws.{run_inside}
use Rattle.sizes.proofs.Possible.{fits_sizes}
use Rattle.sizes.proofs.RangedExists.{root_or_son}
use Rattle.sizes.proofs.ArrangedOnce.{part_had}

-- the root of the arrangement has its least bottom-up count, and no sets that fit the whole sheet have fewer
pub arrangement_least : {s : Sheet} → Tree s → Rooted s → s.parent 0 ≡ 0 → {first size : ℕ → ℕ} → ArrangedBottomUp s first size
    → {X : Type 0} {A : Sets X} → Fits s A → size 1 ≤ count A 1
arrangement_least t r o x {A = A} w =
    omega (arith, x.3.root_size, (x.2.counts 1 r.one (count A 1)).1 (part_had t o (fits_sizes w) 1 r.one))

-- every run lies in the root's
module _ {s : Sheet} {f st : ℕ → ℕ} (t : Tree s) (r : Rooted s) (b : Balanced s f) (h : Starts s f st) where
  run_below : (d g : ℕ) → g ≤ d → Group s g → (st 1 ≤ st g) × (st g + f g ≤ st 1 + f 1)
  run_below zero g l q = absurd (omega arith)
  run_below (suc d) g l q =
      root_or_son r g q
      (λ e. rw e (le_refl _, le_refl _))
      (λ p k. omega (arith, run_inside t b h k, run_below d p (omega (arith, t.before g q)) (son_parent t k)))

  pub runs_in_root : (g : ℕ) → Group s g → (st 1 ≤ st g) × (st g + f g ≤ st 1 + f 1)
  runs_in_root g q = run_below g g (le_refl g) q
