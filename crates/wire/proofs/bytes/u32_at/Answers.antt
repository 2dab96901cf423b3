-- The library's number of these bytes is the field.
use native.Mathlib.Omega.{arith}
use Rattle.wire.specs.Bytes.{u32_at}
use Rattle.wire.proofs.bytes.u32_at.Goals as goal

pub returns : goal.returns
unfolding u32_at
returns c = omega (arith, c.from_le_bytes.ensures)
