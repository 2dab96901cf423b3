-- The bytes stored are those of the field.
use Rattle.std.proofs.Common.{◌∙◌, ap}
use Rattle.std.proofs.lemmas.List.Edits.{sets}
use Rattle.wire.proofs.LittleEndian.{le32_bytes}
use Rattle.wire.proofs.bytes.put_u32.Goals as goal

pub returns : goal.returns
returns c = let a = c.args in c.put_bytes.ensures ∙ ap (sets a.out.now a.at) (c.to_le_bytes.ensures ∙ le32_bytes a.x)
