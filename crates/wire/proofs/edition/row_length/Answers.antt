-- `row_length` is set by the edition.
use mathlib.Core.Path.{refl}
use Rattle.wire.specs.Edition.{row_length}
use Rattle.wire.proofs.edition.row_length.Goals as goal

pub returns : goal.returns
unfolding row_length
returns c = c.set_by.ensures row_length refl refl
