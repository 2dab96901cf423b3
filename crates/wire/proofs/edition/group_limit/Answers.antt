-- `group_limit` is set by the edition.
use mathlib.Core.Path.{refl}
use Rattle.wire.specs.Edition.{group_limit}
use Rattle.wire.proofs.edition.group_limit.Goals as goal

pub returns : goal.returns
unfolding group_limit
returns c = c.set_by.ensures group_limit refl refl
