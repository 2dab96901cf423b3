-- `is_possible` meets its contract: the root's span, not empty, tells that some sets fit.
use Rattle.measuring.proofs.FittingLaws.{root_possible}
use Rattle.measuring.proofs.fitting.is_possible.Goals as goal

pub returns : goal.returns
returns c = λ s z t r m e. root_possible t r m c.args.spans.now e (rw c.index.ensures at c.is_empty.ensures)
