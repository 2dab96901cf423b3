-- The answer to one question about a sheet under flags, and what the measured tables say of it.
use Rattle.std.specs.Prelude.{ℕ, ◌≤◌, ◌≡◌, Bool, true, false, List, length}
use Rattle.meaning.specs.Sheet.{Sheet, Group}
use Rattle.sizes.specs.Balanced.{Choice}
use Rattle.tables.specs.SheetIn.{size_limit}
use Rattle.tables.specs.Numbers.{number_in}
use Rattle.choosing.specs.Divided.{marked_in}

-- the tables of a question about n groups: room for the answer
pub record Asking (n : ℕ) (sizes marks : List ℕ) : Type 0 where
  pub sizes_long : n ≤ length sizes
  pub marks_long : n ≤ length marks

-- numbers and marks that the flags allow, with the root in state c
pub record Found (s : Sheet) (may : ℕ → Bool → Bool) (c : Bool) (sizes marks : List ℕ) : Type 0 where
  pub choice : Choice s may (number_in sizes) (marked_in marks)
  pub top : number_in sizes 1 ≤ size_limit
  pub state : marked_in marks 1 ≡ c
  pub bits : (g : ℕ) → Group s g → number_in marks g ≤ 1

-- they are in the tables, or there are none
pub record Chose (s : Sheet) (may : ℕ → Bool → Bool) (c : Bool) (sizes marks : List ℕ) (r : Bool) : Type 0 where
  pub found : r ≡ true → Found s may c sizes marks
  pub lacking : r ≡ false → (f : ℕ → ℕ) (M : ℕ → Bool) → Choice s may f M → M 1 ≡ c → ⊥
