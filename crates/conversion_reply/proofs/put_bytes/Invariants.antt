-- `put_bytes` meets its contract. The invariant: the bytes so far are stored.
use Prim.Native.Nat.{◌≤◌}
use mathlib.Core.Path.{◌≡◌}
use lib.ListN.{length, take}
use lib.Seq.{sets}
use Rattle.conversion_reply.proofs.put_bytes.Given as goal

abbrev pub invariant-loop-i : goal.invariant-loop-i
invariant-loop-i l =
    record {
      within : l.i ≤ length l.bytes;
      long : length l.out ≡ length l.initial.out;
      stored : l.out ≡ sets l.initial.out 0 (take l.i l.bytes);
    }
