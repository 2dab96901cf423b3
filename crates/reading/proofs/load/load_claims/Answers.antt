use Rattle.std.proofs.Common.{◌≡◌, length-set, ◌+◌, ◌≤◌, [], length, Ok, ap, ◌∙◌, arith}
use Rattle.std.proofs.lemmas.Result.{err_from_is_err_and}
use Rattle.wire.specs.SheetFormat.{claim_tests, claim_of}
use Rattle.wire.proofs.Passing.{never_read}
use Rattle.claim_records.specs.ClaimTable.{claims_in}
use Rattle.records.specs.Answers.{claim}
use Rattle.records.proofs.Fields.{claim_whole, claim_alone}
use Rattle.records.proofs.Carried.{Handed, answered_record, answered_refusal, claim_handed, claim_bytes_law}
use Rattle.reading.specs.Loaded.{passed_as}
use Rattle.reading.proofs.LoadedLaws.{numbered_refused, numbered_read}
use Rattle.reading.proofs.Many.{left_start, left_stop, left_done, held_more, claim_again}
use Rattle.reading.proofs.load.load_claims.Goals.{After-bytes-at, In_ok-record}
use Rattle.reading.proofs.load.load_claims.Goals as goal

-- a record was handed up
taken : (c : In_ok-record) → Handed (claim_tests c.args.head.names []) (λ b. claim (claim_of b)) c.args.s.now c.loop-i.at c.in_ok-record.record
taken c = answered_record c.read_claim.ensures.answers (numbered_read c.in_ok-record.ensures)

-- what follows it
next : (c : After-bytes-at) → c.loop-i.at + c.bytes-at.result ≤ length c.args.s.now
next c =
    let t : Handed (claim_tests c.args.head.names []) (λ b. claim (claim_of b)) c.args.s.now c.loop-i.at c.in_ok-record.record =
    answered_record c.read_claim.ensures.answers (numbered_read c.in_ok-record.ensures) in
    let e = claim_bytes_law _ t c.in-Claim.is (c.bytes-at.ensures _) in
    let r = claim_whole c.args.s.now c.loop-i.at c.args.head.names [] t.pass in
    omega arith

pub loop-i-init : goal.loop-i-init
unfolding claims_in
loop-i-init c = record { room = c.requires.0; long = omega arith; left = left_start _ _ _ _ _ _; held = λ i l. absurd (omega arith) }

pub returns-in_err-record : goal.returns-in_err-record
unfolding passed_as
returns-in_err-record c =
    let p = err_from_is_err_and c.from_residual.result c.from_residual.ensures.1 in
    let w = numbered_refused c.in_err-record.ensures in
    rw (p.1, p.2) (record {
      reads = left_stop _ _ _ _ _ _ _ _ _ c.loop-i.invariant.left c.loop-i-test.true _ _ _
          (claim_alone _ _ _ ∙ answered_refusal c.read_claim.ensures.answers w.0) w.1;
      held = λ at e. never_read e;
    })

pub unreachable-requires : goal.unreachable-requires
unreachable-requires c = claim_handed (taken (goal.at.unreachable-requires c).In_ok-record) c.in_default.not-Claim

pub overflow_add-at : goal.overflow_add-at
overflow_add-at c = let e = next c in omega arith

pub loop-i-preserved : goal.loop-i-preserved
loop-i-preserved c =
    let l = c.loop-i in
    let w = taken (goal.at.loop-i-preserved c).In_ok-record in
    record {
      room = next (goal.at.loop-i-preserved c).After-bytes-at;
      long = simp length-set (omega arith);
      left = claim_again _ l.claims l.invariant.left c.loop-i-test.true (omega arith) w c.in-Claim.is (c.bytes-at.ensures _);
      held = held_more l.claims l.i c.in-Claim.claim (omega arith) c.args.s.now c.args.head.names l.invariant.held
          (c.read_claim.ensures.held _ (numbered_read c.in_ok-record.ensures ∙ ap Ok c.in-Claim.is));
    }

pub returns : goal.returns
returns c =
    let e : c.loop-i.i ≡ c.args.head.claims = omega arith in
    record {
      reads = rw e at (left_done _ _ _ _ _ _ _ _ _ c.loop-i.invariant.left e c.loop-i.invariant.room);
      held = λ at f. rw e at c.loop-i.invariant.held;
    }
