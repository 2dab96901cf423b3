-- For none of the left groups so far is there such a member.
use Rattle.std.proofs.Common.{take}
use Rattle.wire.specs.SheetFormat.{inside}
use Rattle.tables.specs.SheetIn.{sheet_in}
use Rattle.questions.specs.Groups.{numbers_of}
use Rattle.questions.specs.Ways.{WayHad}
use Rattle.questions.proofs.lists.ask_inside.Given as goal

abbrev pub invariant-loop-g : goal.invariant-loop-g
invariant-loop-g l =
    WayHad (sheet_in l.groups.table.now l.groups.size) inside (take l.g-index (numbers_of l.left)) (numbers_of l.right) → ⊥
