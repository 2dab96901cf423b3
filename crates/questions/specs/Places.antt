-- The question for a place: whether some sets that fit have a member in all groups of one list and in none of another.
use Rattle.std.specs.Prelude.{ℕ, ◌<◌, Bool, List}
use Rattle.meaning.specs.Sheet.{Sheet}
use Rattle.meaning.specs.Sets.{Sets}
use Rattle.meaning.specs.Fits.{Fits, groups_of}
use Rattle.sizes.specs.ClaimsPlace.{AtPlace}
use Rattle.choosing.specs.Divided.{marked_in}
use Rattle.questions.specs.Witnessed.{Witnessed}
use Rattle.questions.specs.Judged.{Fitting}

-- some sets that fit have such a member
abbrev pub PlaceHad : Sheet → List ℕ → List ℕ → Type 0
PlaceHad s ins outs = (A : Sets ℕ) × Fits s A × (j : ℕ) × (j < A.bound) × AtPlace s ins outs (groups_of A j)

-- numbers and marks of sets that fit, of which member 0 is one
pub record PlaceShown (s : Sheet) (ins outs sizes marks : List ℕ) : Type 0 where
  pub fitting : Fitting s sizes marks
  pub placed : AtPlace s ins outs (marked_in marks)

abbrev pub PlaceJudged : Sheet → List ℕ → List ℕ → List ℕ → List ℕ → Bool → Type 0
PlaceJudged s ins outs sizes marks x = Witnessed (PlaceShown s ins outs sizes marks) (PlaceHad s ins outs) x
