-- `Pair::own` meets its contract.
use native.Mathlib.Omega.{arith}
use Rattle.spans.proofs.HeldLaws.{both, none_of}
use Rattle.spans.proofs.pair.Pair.own.Goals.{then-may, else-may}
use Rattle.spans.proofs.pair.Pair.own.Goals as goal

pub returns-then-may-2 : goal.returns-then-may-2
returns-then-may-2 c =
    both _ _
    (elim c.if-may.branch [
      | then-may w ↦ rw (w.result-is, w.if-may.true) w.own_out.ensures
      | else-may w ↦ rw (w.result-is, w.if-may.false) (none_of {l = 1} {m = 0} (omega arith))
    ])
    (rw c.if-may-2.true c.own_in.ensures)

pub returns-else-may-2 : goal.returns-else-may-2
returns-else-may-2 c =
    both _ _
    (elim c.if-may.branch [
      | then-may w ↦ rw (w.result-is, w.if-may.true) w.own_out.ensures
      | else-may w ↦ rw (w.result-is, w.if-may.false) (none_of {l = 1} {m = 0} (omega arith))
    ])
    (rw c.if-may-2.false (none_of {l = 1} {m = 0} (omega arith)))
