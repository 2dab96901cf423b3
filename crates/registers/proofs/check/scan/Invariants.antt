-- Nothing is broken at the groups before g, by the rules before `rule`, by the members of the blocks before b.
use Rattle.std.proofs.Common.{◌≡◌, ◌+◌, ◌*◌, None}
use Rattle.tables.specs.SheetIn.{sheet_in}
use Rattle.columns.specs.Columns.{block_members, column_sets}
use Rattle.registers.proofs.ScanLaws.{ClearGroups, ClearRules, ClearMembers}
use Rattle.registers.proofs.check.scan.Given as goal

abbrev pub invariant-loop-b : goal.invariant-loop-b
invariant-loop-b l = record {
  fits : l.broken ≡ None;
  members : ClearMembers l.number l.columns.words.now l.joined.some.now l.joined.two.now l.group.0 l.parent.0 (block_members * l.b);
}

abbrev pub invariant-loop-rule : goal.invariant-loop-rule
invariant-loop-rule l = record {
  fits : l.broken ≡ None;
  rules : ClearRules (sheet_in l.groups.table.now l.groups.size) (column_sets l.columns.words.now l.fn.members) l.g (l.rule-index + 1);
}

abbrev pub invariant-scan : goal.invariant-scan
invariant-scan l = record {
  fits : l.broken ≡ None;
  groups : ClearGroups (sheet_in l.groups.table.now l.groups.size) (column_sets l.columns.words.now l.fn.members) l.g;
}
