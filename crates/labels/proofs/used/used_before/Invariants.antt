-- None of the names passed has the label.
use Rattle.std.proofs.Common.{◌≡◌, false}
use Rattle.wire.specs.SheetFormat.{used, name_of}
use Rattle.tables.specs.RecordsIn.{records_in}
use Rattle.labels.proofs.used.used_before.Given as goal

abbrev pub invariant-loop-at : goal.invariant-loop-at
invariant-loop-at l = used (records_in name_of l.s l.offsets l.at-index) l.label ≡ false
