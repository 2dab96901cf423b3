-- `sheet_register_to_edition1` meets its contract: a register towards edition 1.
use Rattle.wire.specs.Edition.{edition_of, edition_number}
use Rattle.group_sheet.proofs.editions.sheet_register_to_edition1.Goals as goal

pub returns : goal.returns
unfolding edition_of edition_number
returns c = rw c.pack.ensures c.convert_register.ensures
