-- Each test that fails shows that no record stands there, or one of another kind.
use Rattle.std.proofs.Common.{◌≡◌, ◌&&◌, false, arith}
use lib.Dec.{leb}
use borrow.Author.Tests.{le-leb, lt-leb}
use Rattle.records.proofs.Fields.{framed_none, framed_other, framed_some}
use Rattle.records.proofs.read.frame.Goals.{then-len-lt2-via-then-len-lt2, then-len-lt2-via-else-len-lt2+then-left-len}
use Rattle.records.proofs.read.frame.Goals.{then-kind-first-via-then-kind-first, then-kind-first-via-else-kind-first+then-last-kind}
use Rattle.records.proofs.read.frame.Goals as goal

pub returns-then-left-lt4 : goal.returns-then-left-lt4
returns-then-left-lt4 c = framed_none _ _ c.requires (λ h k. omega arith)

pub returns-then-len-lt2 : goal.returns-then-len-lt2
returns-then-len-lt2 c =
    framed_none _ _ c.requires (λ h k. elim c.then-len-lt2.branch [
      | then-len-lt2-via-then-len-lt2 w ↦ omega arith
      | then-len-lt2-via-else-len-lt2+then-left-len w ↦ omega arith
    ])

pub returns-then-kind-first : goal.returns-then-kind-first
returns-then-kind-first c =
    let a = c.args in
    let e : (leb a.first c.u16_at-kind.result && leb c.u16_at-kind.result a.last) ≡ false = elim c.then-kind-first.branch [
      | then-kind-first-via-then-kind-first w ↦ simp (lt-leb _ _ w.if-kind-first.true)
      | then-kind-first-via-else-kind-first+then-last-kind w ↦ simp (le-leb _ _ w.if-kind-first.false, lt-leb _ _ w.if-last-kind.true)
    ] in
    framed_other _ _ _ c.u16_at-kind.ensures (omega arith) (omega arith) e

pub returns : goal.returns
returns c =
    framed_some _ _ _ _ c.u16_at-len.ensures c.u16_at-kind.ensures
    (omega arith) (omega arith) c.if-kind-first.false c.if-last-kind.false
