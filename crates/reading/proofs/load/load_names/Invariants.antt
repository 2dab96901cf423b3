-- To read what is left from here is to read all, and the tables have the names so far.
use Rattle.std.proofs.Common.{◌+◌, ◌≤◌, length}
use Rattle.wire.specs.Edition.{edition_of}
use Rattle.wire.specs.Limits.{name_limit}
use Rattle.wire.specs.SheetFormat.{name_tests, name_of}
use Rattle.tables.specs.RecordsIn.{records_in}
use Rattle.labels.specs.LabelHash.{AllSeen}
use Rattle.labels.specs.WholeName.{AllWhole}
use Rattle.reading.specs.Loaded.{AllGrouped}
use Rattle.reading.proofs.Many.{Left}
use Rattle.reading.proofs.load.load_names.Given as goal

abbrev pub invariant-loop-i : goal.invariant-loop-i
invariant-loop-i l = record {
  room : l.at ≤ length l.s;
  long : (name_limit ≤ length l.names) × (name_limit ≤ length l.labels);
  left : Left (name_tests (edition_of l.head.edition) l.head.groups) name_of l.s l.from l.head.names (2 + l.head.groups) l.i l.at
      (records_in name_of l.s l.labels l.i);
  grouped : AllGrouped l.s l.names l.labels l.i;
  whole : AllWhole l.s l.labels l.i;
  seen : AllSeen l.s l.seen l.labels l.i;
}
