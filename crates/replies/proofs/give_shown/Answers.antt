-- `give_shown` meets its contract: the verdict's record stays under those of the sets.
use native.Mathlib.Omega.{arith}
use Rattle.replies.proofs.WroteLaws.{wrote_then}
use Rattle.replies.proofs.WrittenLaws.{verdict_kept}
use Rattle.replies.proofs.ReplyLaws.{once_written}
use Rattle.replies.proofs.give_shown.Goals as goal

pub returns : goal.returns
returns c =
    let v = c.put_verdict.ensures in
    let w = c.put_sets.ensures in
    once_written _ c.in_ok-room.ensures (wrote_then v.kept w.kept (omega arith) (omega arith) (omega arith) (omega arith)) (verdict_kept w.kept v.put, w.put)
