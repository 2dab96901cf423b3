use Prim.Native.Nat.{◌*◌}
use Rattle.wire.specs.Limits.{verdict_bytes, shown_bytes}
use Rattle.replies.specs.Wrote.{Wrote}
use Rattle.replies.specs.Written.{SetsPut}
use Rattle.replies.proofs.put_sets.Given as goal

abbrev pub invariant-loop-g : goal.invariant-loop-g
invariant-loop-g l = Wrote l.initial.out verdict_bytes (shown_bytes * l.g) l.out × SetsPut l.out l.g l.firsts l.counts l.marks
