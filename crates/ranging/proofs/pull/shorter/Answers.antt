-- `shorter` meets its contract: an endless end stays endless, another loses a.
use Rattle.std.proofs.Common.{arith}
use Rattle.ranging.proofs.PullLaws.{shorter_end, shorter_fin}
use Rattle.ranging.proofs.pull.shorter.Goals as goal

pub returns-then-end-eq-NO_GREATEST : goal.returns-then-end-eq-NO_GREATEST
returns-then-end-eq-NO_GREATEST c = shorter_end _ _ c.if-end-eq-NO_GREATEST.true

pub returns-else-end-eq-NO_GREATEST : goal.returns-else-end-eq-NO_GREATEST
returns-else-end-eq-NO_GREATEST c = shorter_fin _ _ (omega arith) c.if-end-eq-NO_GREATEST.false
