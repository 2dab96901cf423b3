-- The library's number of these bytes is the field.
use Rattle.std.proofs.Common.{◌≡◌, ◌+◌}
use native.Mathlib.Omega.{arith}
use Rattle.wire.specs.U64.{u64_at}
use Rattle.wire.specs.Bytes.{u32_at}
use Rattle.wire.proofs.bytes.u64_at.Goals as goal

pub returns : goal.returns
unfolding u64_at u32_at
returns c =
    let at = c.args.at in
    let e5 : at + 4 + 1 ≡ at + 5 = omega arith in
    let e6 : at + 4 + 2 ≡ at + 6 = omega arith in
    let e7 : at + 4 + 3 ≡ at + 7 = omega arith in
    rw (e5, e6, e7) (omega (arith, c.from_le_bytes.ensures))
