-- `columns::counts::count_groups` meets its contract. Invariant: the groups before g are counted.
use Prim.Native.Nat.{◌-◌, ◌≤◌, ◌+◌}
use Rattle.columns.specs.Counts.{ColumnsCounted}
use Rattle.columns.proofs.counts.count_groups.Given as goal

abbrev pub invariant-loop-g : goal.invariant-loop-g
invariant-loop-g l = record { from : 1 ≤ l.g; within : l.g ≤ l.size + 1; counted : ColumnsCounted l.columns.words.now (l.g - 1) l.words l.counts }
