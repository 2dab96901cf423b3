use Prim.Native.Nat.{◌*◌}
use Rattle.wire.specs.Limits.{range_bytes}
use Rattle.replies.specs.Wrote.{Wrote}
use Rattle.replies.specs.Written.{RangesPut}
use Rattle.replies.proofs.put_ranges.Given as goal

abbrev pub invariant-loop-g : goal.invariant-loop-g
invariant-loop-g l = Wrote l.initial.out 0 (range_bytes * l.g) l.out × RangesPut l.out l.g l.ranges l.firsts l.counts
