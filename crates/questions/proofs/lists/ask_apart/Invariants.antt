-- None of the left groups so far shares a member with a right group, and the left group at hand with none of the right groups so far.
use Rattle.std.proofs.Common.{take, [], ◌∷◌}
use Rattle.wire.specs.SheetFormat.{apart}
use Rattle.tables.specs.SheetIn.{sheet_in}
use Rattle.questions.specs.Groups.{numbers_of}
use Rattle.questions.specs.Ways.{WayHad}
use Rattle.questions.proofs.lists.ask_apart.Given as goal

abbrev pub invariant-loop-g : goal.invariant-loop-g
invariant-loop-g l =
    WayHad (sheet_in l.groups.table.now l.groups.size) apart (take l.g-index (numbers_of l.left)) (numbers_of l.right) → ⊥

abbrev pub invariant-loop-h : goal.invariant-loop-h
invariant-loop-h l =
    WayHad (sheet_in l.groups.table.now l.groups.size) apart (l.g.0 ∷ []) (take l.h-index (numbers_of l.right)) → ⊥
