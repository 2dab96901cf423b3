-- `pull` meets its contract: none where one of the spans is none, else by the kind.
use Rattle.std.proofs.Common.{sym, ◌∙◌, arith}
use Rattle.spans.proofs.HeldLaws.{none_of, none_by, some_by}
use Rattle.ranging.proofs.PullLaws.{pull_none_left, pull_none_right, pull_eq_meet, by_lap, by_add}
use Rattle.ranging.proofs.pull.pull.Goals.{then-is_empty-via-then-is_empty, then-is_empty-via-else-is_empty+then-is_empty-2}
use Rattle.ranging.proofs.pull.pull.Goals as goal

pub returns-then-is_empty : goal.returns-then-is_empty
returns-then-is_empty c = none_of {l = 1} {m = 0} (omega arith) ∙ elim c.then-is_empty.branch [
  | then-is_empty-via-then-is_empty w ↦ sym (pull_none_left _ _ _ (none_by _ _ c.is_empty.ensures w.if-is_empty.true))
  | then-is_empty-via-else-is_empty+then-is_empty-2 w ↦
      sym (pull_none_right _ _ _ (none_by _ _ w.is_empty-else-is_empty.ensures w.if-is_empty-2.true))
]

pub returns-in-Lap : goal.returns-in-Lap
returns-in-Lap c = rw c.in-Lap.is (c.pull_ends.ensures ∙ by_lap _ _ _ _ (some_by _ _ c.is_empty.ensures c.if-is_empty.false)
    (some_by _ _ c.is_empty-else-is_empty.ensures c.if-is_empty-2.false))

pub returns-in-Add : goal.returns-in-Add
returns-in-Add c = rw c.in-Add.is (c.pull_ends-in-Add.ensures ∙ by_add _ _ _ _ (some_by _ _ c.is_empty.ensures c.if-is_empty.false)
    (some_by _ _ c.is_empty-else-is_empty.ensures c.if-is_empty-2.false))

pub returns-in-Eq : goal.returns-in-Eq
returns-in-Eq c = rw c.in-Eq.is (c.meet.ensures ∙ sym (pull_eq_meet _ _))
