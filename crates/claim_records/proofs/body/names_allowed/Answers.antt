use Rattle.std.proofs.Common.{sym, ◌∙◌, arith}
use mathlib.Core.Logic.{⊎_elim}
use Rattle.claim_records.proofs.BodyLaws.{within_start, within_low, within_high, within_pass, within_end}
use Rattle.claim_records.proofs.body.names_allowed.Goals as goal

pub loop-i-init : goal.loop-i-init
loop-i-init c = within_start _ _ _ _

pub returns-then-name-lt1 : goal.returns-then-name-lt1
returns-then-name-lt1 c =
    let a = c.args in
    ⊎_elim
    (λ w. sym (within_low a.s.now a.names a.at a.n _ (omega arith) _ c.u16_at-name.ensures w) ∙ c.loop-i.invariant)
    (λ w. sym (within_high a.s.now a.names a.at a.n _ (omega arith) _ c.u16_at-name.ensures w.0 w.1) ∙ c.loop-i.invariant)
    c.then-name-lt1.either

pub loop-i-preserved : goal.loop-i-preserved
loop-i-preserved c =
    let a = c.args in
    sym (within_pass a.s.now a.names a.at a.n _ (omega arith) _ c.u16_at-name.ensures c.if-name-lt1.false c.if-names-name.false)
    ∙ c.loop-i.invariant

pub returns : goal.returns
returns c = sym (within_end _ _ _ _ _ c.loop-i-test.false) ∙ c.loop-i.invariant
