-- `tiles::bits::lowest_group` meets its contract.
use mathlib.Core.Path.{refl}
use Rattle.laws.proofs.Digits.{lowest}
use Rattle.tiles.proofs.bits.lowest_group.Goals as goal

pub returns : goal.returns
returns c =
    let l = lowest 64 c.args.word c.requires.0 c.ranges.word.fits in
    record { low_bit = _; within = l.0; numbered = refl; lowest = l.1 }
