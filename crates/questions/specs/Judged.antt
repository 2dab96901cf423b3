-- Whether some sets that fit answer a question by themselves, with numbers and marks that show such sets.
use Rattle.std.specs.Prelude.{ℕ, Bool, List}
use Rattle.meaning.specs.Sheet.{Sheet}
use Rattle.meaning.specs.Place.{Question}
use Rattle.meaning.specs.Shown.{shown, above}
use Rattle.sizes.specs.Runs.{Starts}
use Rattle.sizes.specs.Witness.{ShownWitness, HasWitness}
use Rattle.tables.specs.Numbers.{number_in}
use Rattle.choosing.specs.Divided.{marked_in}
use Rattle.choosing.specs.Chosen.{Found}
use Rattle.questions.specs.Witnessed.{Witnessed}

-- numbers and marks that some flags allow: they show sets that fit, wherever the runs start
pub record Fitting (s : Sheet) (sizes marks : List ℕ) : Type 0 where
  pub may : ℕ → Bool → Bool
  pub root : Bool
  pub found : Found s may root sizes marks

-- and that answer the question
pub record Showing (s : Sheet) (q : Question) (sizes marks : List ℕ) : Type 0 where
  pub fitting : Fitting s sizes marks
  pub shows : (st : ℕ → ℕ) → Starts s (number_in sizes) st
      → ShownWitness q (shown st (number_in sizes) (marked_in marks) (above s.size st (number_in sizes)))

abbrev pub Judged : Sheet → Question → List ℕ → List ℕ → Bool → Type 0
Judged s q sizes marks x = Witnessed (Showing s q sizes marks) (HasWitness s q) x
