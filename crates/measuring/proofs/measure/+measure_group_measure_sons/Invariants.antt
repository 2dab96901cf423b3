-- `measure_sons` calls `measure_group` at a son, whose number is higher, and `measure_group` calls `measure_sons` at the same
-- group: the groups above the number, twice, and one more for `measure_group`. The loop's invariant: the sons after the next one are
-- measured and joined.
use Prim.Native.Nat.{◌+◌, ◌-◌, ◌*◌}
use Rattle.sizes.specs.Fold.{spans_of}
use Rattle.spans.specs.Held.{pair_of}
use Rattle.tables.specs.Names.{meant_number}
use Rattle.tables.specs.SheetIn.{sheet_in}
use Rattle.measuring.specs.Tables.{may_in}
use Rattle.measuring.proofs.DoneLaws.{AtSon}
use Rattle.measuring.proofs.measure.+measure_group_measure_sons.Given as goal

abbrev pub decreases-measure_group : goal.decreases-measure_group
decreases-measure_group l = 2 * (l.reading.now.groups.now.size - l.g.0) + 2

abbrev pub decreases-measure_sons : goal.decreases-measure_sons
decreases-measure_sons l = 2 * (l.reading.now.groups.now.size - l.g.0) + 1

abbrev pub invariant-measure_sons-loop-next : goal.invariant-measure_sons-loop-next
invariant-measure_sons-loop-next l =
    let s = sheet_in l.reading.groups.now.table.now l.reading.groups.now.size in
    AtSon s (spans_of s (may_in l.reading.flags.now)) l.fn.g.0 l.next (pair_of l.sum)
    l.initial.spans l.initial.after l.spans l.after

abbrev pub decreases-measure_sons-loop-next : goal.decreases-measure_sons-loop-next
decreases-measure_sons-loop-next l = meant_number l.next
