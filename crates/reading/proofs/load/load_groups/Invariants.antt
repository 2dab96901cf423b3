-- To read what is left from here is to read all, and the table has the groups so far.
use Rattle.std.proofs.Common.{◌≤◌, length}
use Rattle.wire.specs.Capacity.{group_capacity}
use Rattle.wire.specs.SheetFormat.{group_tests, group_of}
use Rattle.tables.specs.Groups.{groups_in}
use Rattle.reading.proofs.Many.{Left}
use Rattle.reading.proofs.load.load_groups.Given as goal

abbrev pub invariant-loop-i : goal.invariant-loop-i
invariant-loop-i l = record {
  room : l.at ≤ length l.s;
  long : group_capacity ≤ length l.groups;
  left : Left group_tests group_of l.s l.from l.count 2 l.i l.at (groups_in l.groups l.i);
}
