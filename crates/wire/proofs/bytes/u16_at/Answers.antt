-- The library's number of these bytes is the field.
use native.Mathlib.Omega.{arith}
use Rattle.wire.specs.Bytes.{u16_at}
use Rattle.wire.proofs.bytes.u16_at.Goals as goal

pub returns : goal.returns
unfolding u16_at
returns c = omega (arith, c.from_le_bytes.ensures)
