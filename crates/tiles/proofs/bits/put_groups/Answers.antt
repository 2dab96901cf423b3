-- `tiles::bits::put_groups` meets its contract. Invariant: the groups that are not left are put; as many are left as there are
-- ones left.
use Prim.Native.Nat.{◌<◌}
use mathlib.Core.Path.{◌≡◌}
use native.Mathlib.Omega.{arith}
use native.Mathlib.Nat.{lt_of_le_of_lt}
use lib.Count.{ones}
use lib.Bits.{and_le_l}
use Rattle.tiles.proofs.BitLaws.{groups_none_taken, groups_more_taken, groups_all_taken, ones_left, no_ones_left}
use Rattle.tiles.proofs.bits.put_groups.Goals as goal

pub loop-left-init : goal.loop-left-init
loop-left-init c = record { fits = c.ranges.word.fits; put = groups_none_taken _ _ _ _ _ }

pub lowest_group-requires : goal.lowest_group-requires
lowest_group-requires c = (let some : 0 < ones c.loop-left.left = omega arith in ones_left _ some, omega arith)

pub loop-left-smaller : goal.loop-left-smaller
loop-left-smaller c = omega (arith, c.lowest_group.ensures.lowest.fewer)

pub loop-left-preserved : goal.loop-left-preserved
loop-left-preserved c =
    let l = c.loop-left.invariant in
    record { fits = lt_of_le_of_lt (and_le_l _ _) l.fits; put = groups_more_taken c.lowest_group.ensures l.put c.put_group.ensures }

pub returns : goal.returns
returns c =
    let l = c.loop-left in
    let none : ones l.left ≡ 0 = omega arith in
    groups_all_taken (rw (no_ones_left l.left l.invariant.fits none) at l.invariant.put)
