-- Sizes of sets that fit, with a condition on them, and the sheets whose table has one bound narrowed.
use Rattle.std.specs.Prelude.{ℕ, ◌≤◌, ◌<◌, ◌+◌, Bool, List}
use Rattle.laws.specs.Sum.{bit}
use Rattle.meaning.specs.Sheet.{Top, AtMost, Sheet}
use Rattle.sizes.specs.Balanced.{Sizes}
use Rattle.sizes.specs.ClaimsMath.{MoreThan}
use Rattle.tables.specs.Numbers.{number_in}
use Rattle.choosing.specs.Divided.{marked_in}
use Rattle.questions.specs.Witnessed.{Witnessed}
use Rattle.questions.specs.Judged.{Fitting}

-- sizes without a condition, with from lo to hi members in group g
abbrev pub Any : (ℕ → ℕ) → Type 0
Any f = Unit {0}

abbrev pub Between : ℕ → ℕ → Top → (ℕ → ℕ) → Type 0
Between g lo hi f = (lo ≤ f g) × AtMost (f g) hi

-- with fewer than lo members in g, and with more than the upper end
abbrev pub CountUnder : ℕ → ℕ → (ℕ → ℕ) → Type 0
CountUnder g lo f = f g < lo

abbrev pub CountOver : ℕ → Top → (ℕ → ℕ) → Type 0
CountOver g hi f = MoreThan (f g) hi

-- the counts that numbers and marks in tables give
abbrev pub counts : List ℕ → List ℕ → ℕ → ℕ
counts sizes marks g = number_in sizes g + bit (marked_in marks g)

-- the tables hold sizes that meet the condition, or there are none
abbrev pub Sized : Sheet → ((ℕ → ℕ) → Type 0) → List ℕ → List ℕ → Bool → Type 0
Sized s P sizes marks x = Witnessed (Fitting s sizes marks × P (counts sizes marks)) ((f : ℕ → ℕ) × Sizes s f × P f) x
