-- `put_bytes` meets its contract.
use mathlib.Core.Path.{◌≡◌, refl}
use native.Mathlib.Omega.{arith}
use native.Mathlib.Numerals.{add-one}
use lib.ListN.{length, length-set}
use lib.Seq.{take-length}
use Rattle.conversion_reply.proofs.GivenLaws.{bytes_more}
use Rattle.conversion_reply.proofs.put_bytes.Goals as goal

pub loop-i-init : goal.loop-i-init
loop-i-init c = record { within = omega arith; long = refl; stored = refl }

pub loop-i-preserved : goal.loop-i-preserved
loop-i-preserved c =
    let a = c.args in
    record {
      within = omega arith;
      long = simp length-set c.loop-i.invariant.long;
      stored = rw (add-one c.loop-i.i) (bytes_more a.bytes.now a.out.now c.loop-i.i (omega arith) c.loop-i.invariant.stored);
    }

pub returns : goal.returns
returns c =
    let b = c.args.bytes.now in
    let e : c.loop-i.i ≡ length b = omega arith in
    rw (e, take-length b) at c.loop-i.invariant.stored
