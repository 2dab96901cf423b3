-- The list has the groups of the first i names, and the others' are left.
use Rattle.std.proofs.Common.{◌≡◌, ◌+◌, ◌-◌, ◌*◌, ◌≤◌, ◌++◌, take}
use Rattle.wire.specs.SheetFormat.{u16s}
use Rattle.questions.specs.Groups.{groups_among, numbers_of}
use Rattle.claims.specs.Named.{meanings}
use Rattle.claims.proofs.names.groups_meant.Given as goal

abbrev pub invariant-loop-i : goal.invariant-loop-i
invariant-loop-i l = (l.k ≤ l.i)
    × (numbers_of (take l.k l.list) ++ groups_among (meanings l.names (u16s l.sheet (l.from + 2 * l.i) (l.n - l.i)))
    ≡ groups_among (meanings l.names (u16s l.sheet l.from l.n)))
