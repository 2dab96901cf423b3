-- `own_out` meets its contract.
use native.Mathlib.Omega.{arith}
use Rattle.spans.proofs.HeldLaws.{own_out_endless, own_out_finite}
use Rattle.spans.proofs.pair.own_out.Goals as goal

pub returns-then-hi-eq-NO_END : goal.returns-then-hi-eq-NO_END
returns-then-hi-eq-NO_END c = rw c.from.ensures (own_out_endless _ _ (omega arith) c.if-hi-eq-NO_END.true)

pub returns-else-hi-eq-NO_END : goal.returns-else-hi-eq-NO_END
returns-else-hi-eq-NO_END c =
    rw (c.from.ensures, c.from-else-hi-eq-NO_END.ensures)
    (own_out_finite _ _ (omega arith) (omega arith) c.if-hi-eq-NO_END.false)
