use native.Mathlib.Omega.{arith}
use Rattle.replies.proofs.WroteLaws.{wrote_then}
use Rattle.replies.proofs.WrittenLaws.{sets_more}
use Rattle.replies.proofs.put_sets.Goals as goal

pub loop-g-preserved : goal.loop-g-preserved
loop-g-preserved c =
    let i = c.loop-g.invariant in
    let a = c.args in
    let p = c.put_shown.ensures in (
      wrote_then i.0 p.kept (omega arith) (omega arith) (omega arith) (omega arith),
      sets_more a.firsts.now a.counts.now a.marks.now _ i.1 p.kept (rw c.from.ensures at p.put),
    )
