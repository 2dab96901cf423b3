use native.Mathlib.Omega.{arith}
use Rattle.replies.proofs.WrittenLaws.{range_put}
use Rattle.replies.proofs.put_range.Goals as goal

pub returns : goal.returns
returns c =
    let w = range_put _ _ _ _ _ _ _ _ _ _ _ _
    c.put_u16.ensures
    c.put_u16-2.ensures
    c.put_u32.ensures
    c.put_u32-2.ensures
    c.put_u32-3.ensures
    c.put_u32-4.ensures
    c.requires
    (omega arith)
    (omega arith)
    c.ranges.first.fits
    c.ranges.count.fits in
    record { kept = w.0; put = w.1 }
