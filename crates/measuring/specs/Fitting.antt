-- Whether some sets fit a sheet, and what its tables hold then (document 01, refusal 8).
use Rattle.std.specs.Prelude.{ℕ, ◌-◌, ◌≡◌, Bool, false, true, List, ◌↔◌}
use Rattle.meaning.specs.Sheet.{Sheet, Group, Son}
use Rattle.meaning.specs.Fits.{Possible}
use Rattle.sizes.specs.Span.{Span}
use Rattle.sizes.specs.Fold.{later, Measured}
use Rattle.sizes.specs.Ranged.{free}
use Rattle.tables.specs.declared.groups.Group.{Group as TableGroup}
use Rattle.tables.specs.SheetIn.{sheet_in, Tabled}
use Rattle.spans.specs.declared.pair.Pair.{Pair}
use Rattle.measuring.specs.Pairs.{pair_in}

-- the tables of measuring hold z for the member out of every group: the span of each group, and the joined spans of the
-- brothers after each son
pub record Measures (s : Sheet) (z : ℕ → Bool → Span) (spans after : List Pair) : Type 0 where
  pub spanned : (g : ℕ) → Group s g → pair_in spans g false ≡ z g false
  pub followed : (p g : ℕ) → Son s p g → pair_in after g false ≡ later s z p (s.size - g) false

-- The tables from which the arrangement is taken: measured with every flag free, and some sets fit.
pub record Arrangeable (groups : List TableGroup) (n : ℕ) (spans after : List Pair) : Type 0 where
  pub tabled : Tabled groups n
  pub z : ℕ → Bool → Span
  pub measured : Measured (sheet_in groups n) free z
  pub measures : Measures (sheet_in groups n) z spans after
  pub fit : Possible (sheet_in groups n)

-- r says whether some sets fit, and the tables are measured
pub record PossibleTold (groups : List TableGroup) (n : ℕ) (spans after : List Pair) (r : Bool) : Type 0 where
  pub told : (r ≡ true) ↔ Possible (sheet_in groups n)
  pub measured : Possible (sheet_in groups n) → Arrangeable groups n spans after
