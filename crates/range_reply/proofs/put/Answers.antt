use mathlib.Core.Path.{◌≡◌}
use native.Mathlib.Omega.{arith}
use lib.ListN.{length, take}
use lib.Seq.{length-take-le}
use Rattle.range_reply.proofs.RangesLaws.{ranges_placed}
use Rattle.range_reply.proofs.put.Goals as goal

pub returns : goal.returns
returns c =
    let w = c.put_ranges.ensures in
    let e : length (take c.args.groups.now.size c.narrow.new.ranges) ≡ c.args.groups.now.size =
    length-take-le c.args.groups.now.size c.narrow.new.ranges (omega (arith, c.requires.ready.measured.tabled.small)) in
    ranges_placed c.narrow.new.ranges c.arrange.new.firsts c.arrange.new.sizes c.requires.ready
    c.narrow.ensures c.arrange.ensures (rw e at w.kept) (rw e at w.put)
