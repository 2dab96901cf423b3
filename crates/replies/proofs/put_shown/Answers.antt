use Rattle.replies.proofs.WrittenLaws.{shown_put}
use Rattle.replies.proofs.put_shown.Goals as goal

pub returns : goal.returns
returns c =
    let w = shown_put _ _ _ _ _ _ _ _ _ _
    c.put_u16.ensures
    c.put_u16-2.ensures
    c.put_u32.ensures
    c.put_u32-2.ensures
    c.put_u16-3.ensures
    c.requires
    c.ranges.first.fits c.ranges.count.fits
    c.ranges.mark.fits in
    record { kept = w.0; put = w.1 }
