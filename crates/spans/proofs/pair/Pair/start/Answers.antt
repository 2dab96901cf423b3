-- `Pair::start` meets its contract.
use mathlib.Core.Path.{refl}
use Rattle.meaning.specs.Sheet.{end_of}
use Rattle.sizes.specs.Fold as fold
use Rattle.spans.specs.Held.{span_of}
use Rattle.spans.proofs.HeldLaws.{both}
use Rattle.spans.proofs.pair.Pair.start.Goals as goal

pub returns-then-shut : goal.returns-then-shut
unfolding fold.start span_of end_of
returns-then-shut c = rw c.if-shut.true (both _ _ refl refl)

pub returns-else-shut : goal.returns-else-shut
unfolding fold.start span_of end_of
returns-else-shut c = rw c.if-shut.false (both _ _ refl refl)
