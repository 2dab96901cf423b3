-- `pull_ends` meets its contract: none where the others have more than the total, else the two ends.
use Rattle.std.proofs.Common.{sym, ◌∙◌, arith}
use Rattle.spans.proofs.HeldLaws.{none_of}
use Rattle.ranging.proofs.PullLaws.{by_none, by_some}
use Rattle.ranging.proofs.pull.pull_ends.Goals as goal

pub returns-then-total-others : goal.returns-then-total-others
returns-then-total-others c = none_of {l = 1} {m = 0} (omega arith) ∙ sym (by_none _ _ _ _ _ (omega arith) c.if-total-others.true)

pub returns : goal.returns
returns c =
    rw c.saturating_sub.ensures
    (by_some _ _ _ _ _ _ (omega arith) (omega arith) c.if-total-others.false c.shorter.ensures)
