-- `Span::meet` meets its contract.
use native.Mathlib.Omega.{arith}
use Rattle.spans.proofs.HeldLaws.{meet_of}
use Rattle.spans.proofs.span.Span.meet.Goals as goal

pub returns : goal.returns
returns c = rw (c.max.ensures, c.min.ensures) (meet_of _ _ _ _ (omega arith) (omega arith) (omega arith) (omega arith))
