use Rattle.std.proofs.Common.{◌≡◌, ◌+◌, ◌-◌, arith}
use Rattle.wire.specs.Bytes.{u16_at}
use Rattle.labels.proofs.Strings.{label_at}
use Rattle.labels.proofs.used.label_of.Goals as goal

pub returns : goal.returns
returns c =
    let s = c.args.s.now in
    let at = c.args.at in
    let z : at + 2 + u16_at s at - (at + 6) ≡ u16_at s at - 4 = omega arith in
    rw (label_at s at, ← z, ← c.u16_at.ensures)
