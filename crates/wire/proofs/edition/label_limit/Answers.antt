-- `label_limit` is set by the edition.
use mathlib.Core.Path.{refl}
use Rattle.wire.specs.Edition.{label_limit}
use Rattle.wire.proofs.edition.label_limit.Goals as goal

pub returns : goal.returns
unfolding label_limit
returns c = c.set_by.ensures label_limit refl refl
