-- Laws of starts in document 01's words: stores, and the runs that such starts show.
use Prim.Native.Nat.{ℕ, ◌≤◌}
use mathlib.Core.Path.{◌≡◌, sym}
use native.Mathlib.Omega.{arith}
use native.Mathlib.Nat.{le_of_eq}
use Rattle.laws.proofs.Cases.{compare_eq}
use Rattle.meaning.specs.Sheet.{Sheet, Group}
use Rattle.meaning.specs.Tree.{Tree, Rooted}
use Rattle.sizes.specs.Balanced.{Balanced}
use Rattle.sizes.specs.Runs.{Starts}
use Rattle.sizes.proofs.RunsInWords.{told_starts}
use Rattle.runs.specs.Told.{Told}

-- such starts show sizes that the rules allow
pub told_runs : {s : Sheet} {f first : ℕ → ℕ} → Tree s → Rooted s → Balanced s f → Told s f first → Starts s f first
told_runs {s} {f} {first} t r b w =
    told_starts t b w.son (λ g q e. top g q e)
  where
    top : (g : ℕ) → Group s g → s.parent g ≡ 0 → 1 ≤ first g
    top g q e =
        compare_eq g 1 (λ i. rw i (le_of_eq (sym w.root))) (λ n. absurd (omega (arith, r.rest g q (omega arith))))
