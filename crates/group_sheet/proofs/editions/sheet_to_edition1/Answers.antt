-- `sheet_to_edition1` meets its contract: a sheet towards edition 1.
use mathlib.Core.Path.{refl}
use Rattle.wire.specs.Edition.{edition_of, edition_number}
use Rattle.group_sheet.proofs.editions.sheet_to_edition1.Goals as goal

pub convert_sheet-requires : goal.convert_sheet-requires
unfolding edition_of edition_number
convert_sheet-requires c = refl

pub returns : goal.returns
unfolding edition_of edition_number
returns c = rw c.pack.ensures c.convert_sheet.ensures
