-- The loop's invariant: the groups before i have their starts.
use Rattle.std.proofs.Common.{◌-◌, ◌≤◌, max}
use Rattle.tables.specs.Numbers.{number_in}
use Rattle.tables.specs.SheetIn.{sheet_in}
use Rattle.runs.specs.Started.{Started}
use Rattle.runs.proofs.starts.start_runs.Given as goal

abbrev pub invariant-loop-i : goal.invariant-loop-i
invariant-loop-i l = (l.i ≤ max 2 l.groups.size) × Started (sheet_in l.groups.table.now l.groups.size) (number_in l.sizes)
    (number_in l.firsts) (number_in l.ends) (l.i - 1)
