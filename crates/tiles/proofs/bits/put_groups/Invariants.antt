-- `tiles::bits::put_groups` meets its contract. Invariant: the groups that are not left are put; as many are left as there are
-- ones left.
use Prim.Native.Nat.{◌^◌, ◌<◌}
use lib.Count.{ones}
use Rattle.tiles.proofs.BitLaws.{GroupsTaken}
use Rattle.tiles.proofs.bits.put_groups.Given as goal

abbrev pub invariant-loop-left : goal.invariant-loop-left
invariant-loop-left l =
    record { fits : l.left < 2 ^ 64; put : GroupsTaken l.word l.before l.w l.i l.initial.columns l.left l.columns }

abbrev pub decreases-loop-left : goal.decreases-loop-left
decreases-loop-left l = ones l.left
