-- The tables in which `divide` gives out numbers and marks.
use Rattle.std.specs.Prelude.{ℕ, ◌-◌, ◌≤◌, ◌≡◌, Bool, false, List, get_or, length, eqb}
use Rattle.meaning.specs.Sheet.{Sheet, Son, Group}
use Rattle.sizes.specs.Balanced.{Choice}
use Rattle.sizes.specs.Span.{Span}
use Rattle.sizes.specs.Fold.{later, Measured}
use Rattle.tables.specs.Numbers.{number_in}
use Rattle.spans.specs.Held.{AlikeBoth}
use Rattle.spans.specs.declared.pair.Pair.{Pair}
use Rattle.measuring.specs.Pairs.{pair_in}
use Rattle.choosing.specs.declared.parts.Part.{Part}
use Rattle.choosing.specs.Parted.{Parted}

-- whether group g is marked in a table of marks
abbrev pub marked_in : List ℕ → ℕ → Bool
marked_in t g = eqb (get_or t (g - 1) 0) 1

-- the tables of spans hold the fold of the sheet: the spans of each group under some flags, and with each son those of
-- the later sons joined
pub record Folded (s : Sheet) (spans after : List Pair) : Type 0 where
  pub may : ℕ → Bool → Bool
  pub measured : Measured s may (pair_in spans)
  pub followed : (p g : ℕ) → Son s p g → AlikeBoth (pair_in after g) (later s (pair_in spans) p (s.size - g))

-- what is left to the later sons of group g in a table, a number and a state
abbrev pub no_part : Part
no_part = record { number = 0; inn = false }

abbrev pub left_in : List Part → ℕ → ℕ
left_in t g = (get_or t (g - 1) no_part).number

abbrev pub state_in : List Part → ℕ → Bool
state_in t g = (get_or t (g - 1) no_part).inn

-- the tables have room for n groups
pub record RoomFor (n : ℕ) (sizes marks : List ℕ) (left : List Part) : Type 0 where
  pub sizes_long : n ≤ length sizes
  pub marks_long : n ≤ length marks
  pub left_long : n ≤ length left

-- the groups up to i have their numbers and marks
pub record DividedTo (s : Sheet) (z : ℕ → Bool → Span) (sizes marks : List ℕ) (left : List Part) (i : ℕ) : Type 0 where
  pub parted : Parted s z (number_in sizes) (marked_in marks) (left_in left) (state_in left) i
  pub bits : (g : ℕ) → 1 ≤ g → g ≤ i → number_in marks g ≤ 1

-- what `divide` leaves: a choice under any flags that the spans are measured with
pub record Dividend (s : Sheet) (z : ℕ → Bool → Span) (r : ℕ) (c : Bool) (sizes marks : List ℕ) : Type 0 where
  pub choice : (may : ℕ → Bool → Bool) → Measured s may z → Choice s may (number_in sizes) (marked_in marks)
  pub root : number_in sizes 1 ≡ r
  pub state : marked_in marks 1 ≡ c
  pub bits : (g : ℕ) → Group s g → number_in marks g ≤ 1
