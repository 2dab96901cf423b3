-- `row_kind` is set by the edition.
use mathlib.Core.Path.{refl}
use Rattle.wire.specs.Edition.{row_kind}
use Rattle.wire.proofs.edition.row_kind.Goals as goal

pub returns : goal.returns
unfolding row_kind
returns c = c.set_by.ensures row_kind refl refl
