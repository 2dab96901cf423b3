-- The loop's invariant: the groups before n have their sizes.
use Rattle.std.proofs.Common.{◌-◌, ◌≤◌, ℕ, max}
use Rattle.meaning.specs.Arranged.{Arranged}
use Rattle.tables.specs.Numbers.{number_in}
use Rattle.tables.specs.SheetIn.{sheet_in}
use Rattle.measuring.specs.Pairs.{least_in, greatest_in}
use Rattle.ranging.proofs.SizedLaws.{SizedTo}
use Rattle.ranging.proofs.arrange.size_groups.Given as goal

abbrev pub invariant-loop-n : goal.invariant-loop-n
invariant-loop-n l = (l.n ≤ max 2 l.groups.size)
    × ((first f : ℕ → ℕ) → Arranged (sheet_in l.groups.table.now l.groups.size) (least_in l.spans) (greatest_in l.spans) first f
    → SizedTo (sheet_in l.groups.table.now l.groups.size) f (number_in l.sizes) (number_in l.left) (l.n - 1))
