-- Frame, kind, and then the tests of what follows.
use Rattle.std.proofs.Common.{◌≡◌, ◌+◌, ◌≤◌, sym, ◌∙◌, arith}
use Rattle.std.proofs.lemmas.Result.{err_from_is_err_and}
use Rattle.wire.specs.Bytes.{u16_at}
use Rattle.wire.specs.SheetFormat.{last_claim, claim_tests}
use Rattle.wire.proofs.Fields.{read_at}
use Rattle.claim_records.proofs.Taken.{claim_room_law}
use Rattle.records.proofs.Fields.{frame_led, frame_refused, claim_past}
use Rattle.records.proofs.ClaimAnswers.{claim_refused, claim_answered}
use Rattle.records.proofs.read.read_claim.Goals.{After-u16_at-kind}
use Rattle.records.proofs.read.read_claim.Goals as goal

pub returns-in_err-len : goal.returns-in_err-len
unfolding claim_tests
returns-in_err-len c =
    let p = err_from_is_err_and c.from_residual.result c.from_residual.ensures.1 in
    rw (p.1, p.2) (claim_refused (frame_refused c.in_err-len.ensures _))

kinds : (c : After-u16_at-kind) → let k = c.u16_at-kind.result in
    (4 ≤ k) × ((k ≤ last_claim) × (u16_at c.args.s.now (c.args.at + 2) ≡ k))
kinds c =
    let w = frame_led c.in_ok-len.ensures in
    let e = read_at c.args.s.now c.args.at 2 _ c.u16_at-kind.ensures in
    (omega arith, (omega arith, sym c.u16_at-kind.ensures))

pub check_body-requires : goal.check_body-requires
check_body-requires c =
    let k = kinds (goal.at.check_body-requires c).After-u16_at-kind in ((frame_led c.in_ok-len.ensures).whole, (k.0, k.1.1))

pub returns-in_err-check_body : goal.returns-in_err-check_body
returns-in_err-check_body c =
    let r = c.from_residual-in_err-check_body in
    let p = err_from_is_err_and r.result r.ensures.1 in
    rw (p.1, p.2) (claim_refused (claim_past _ (frame_led c.in_ok-len.ensures) ∙ sym c.in_err-check_body.ensures))

pub take_claim-requires : goal.take_claim-requires
take_claim-requires c = (
  claim_room_law _ _ _ (claim_past _ (frame_led c.in_ok-len.ensures) ∙ sym c.in_ok-check_body.ensures),
  kinds (goal.at.take_claim-requires c).After-u16_at-kind,
)

pub returns : goal.returns
returns c = claim_answered (claim_past _ (frame_led c.in_ok-len.ensures) ∙ sym c.in_ok-check_body.ensures) c.take_claim.ensures
