-- The loop's invariant: the groups before n have their ranges.
use Rattle.std.proofs.Common.{◌-◌, ◌≤◌, ℕ, Bool, max}
use Rattle.sizes.specs.Span.{Span}
use Rattle.tables.specs.SheetIn.{sheet_in}
use Rattle.measuring.specs.Fitting.{Measures}
use Rattle.ranging.specs.Table.{span_in}
use Rattle.ranging.proofs.NarrowedLaws.{Narrowed}
use Rattle.ranging.proofs.narrow.narrow.Given as goal

abbrev pub invariant-loop-n : goal.invariant-loop-n
invariant-loop-n l = (l.n ≤ max 2 l.groups.size)
    × ((z : ℕ → Bool → Span) → Measures (sheet_in l.groups.table.now l.groups.size) z l.spans l.after
    → Narrowed (sheet_in l.groups.table.now l.groups.size) z (span_in l.ranges) (span_in l.rest) (l.n - 1))
