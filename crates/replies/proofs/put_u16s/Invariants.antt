-- The first i fields are in the buffer, and nothing else changed.
use Prim.Native.Nat.{◌*◌}
use Rattle.replies.specs.Wrote.{Wrote}
use Rattle.replies.specs.Written.{U16sPut}
use Rattle.replies.proofs.put_u16s.Given as goal

abbrev pub invariant-loop-i : goal.invariant-loop-i
invariant-loop-i l = Wrote l.initial.out 0 (2 * l.i) l.out × U16sPut l.out l.i l.fields
