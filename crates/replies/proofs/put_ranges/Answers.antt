use native.Mathlib.Omega.{arith}
use Rattle.replies.proofs.WroteLaws.{wrote_then}
use Rattle.replies.proofs.WrittenLaws.{ranges_more}
use Rattle.replies.proofs.put_ranges.Goals as goal

pub loop-g-preserved : goal.loop-g-preserved
loop-g-preserved c =
    let i = c.loop-g.invariant in
    let a = c.args in
    let p = c.put_range.ensures in (
      wrote_then i.0 p.kept (omega arith) (omega arith) (omega arith) (omega arith),
      ranges_more a.ranges.now a.firsts.now a.counts.now _ i.1 p.kept p.put,
    )
