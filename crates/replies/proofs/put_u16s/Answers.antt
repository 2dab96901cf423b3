use Prim.Native.Nat.{◌*◌}
use native.Mathlib.Omega.{arith}
use Rattle.replies.proofs.WroteLaws.{wrote_then, wrote_u16}
use Rattle.replies.proofs.WrittenLaws.{u16s_more}
use Rattle.replies.proofs.put_u16s.Goals as goal

pub loop-i-preserved : goal.loop-i-preserved
loop-i-preserved c =
    let i = c.loop-i.invariant in
    let n = c.loop-i.i in
    let p = c.put_u16.ensures in (
      wrote_then i.0 (wrote_u16 (2 * n) _ p) (omega arith) (omega arith) (omega arith) (omega arith),
      u16s_more _ c.args.fields.now n i.1 p (omega (arith, i.0.sized)) (omega (arith, c.type_inv.fields n)),
    )
