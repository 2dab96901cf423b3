-- The answer to a claim's tests: the first that failed, or the claim.
use Prim.Native.Nat.{ℕ}
use mathlib.Core.Path.{ap, ◌≡◌, ◌∙◌}
use mathlib.Core.List.{List, []}
use native.Mathlib.Omega.{arith}
use lib.ListN.{drop}
use Rattle.std.specs.Prelude.{Ok, Err}
use Rattle.claim_records.specs.declared.claim.Claim.{Claim}
use Rattle.wire.specs.declared.refusals.Refusal.{Refusal}
use Rattle.wire.specs.Refusals.{refusal_number}
use Rattle.wire.specs.Record.{refusal, kind_of}
use Rattle.wire.specs.SheetFormat.{claim_tests}
use Rattle.claim_records.specs.ClaimHeld.{claim_record}
use Rattle.claim_records.specs.Body.{ClaimTaken}
use Rattle.records.specs.Answers.{record_as, claim, ClaimAnswer}
use Rattle.records.proofs.Carried.{answer_refused, answer_record}
use Rattle.records.specs.declared.record.Record.TheVariants as record_of

-- the answer to a claim's tests: the first that failed, or the claim
module _ {names : ℕ} {s : List ℕ} {at : ℕ} where
  pub claim_refused : {e : Refusal} → refusal (claim_tests names [] (drop at s)) ≡ refusal_number e → ClaimAnswer names s at (Err e)
  claim_refused h = record {
    answers = answer_refused h;
    held = λ c f. let z : ◌≡◌ {A = ℕ} 0 1 = cc in absurd (omega arith);
  }

  pub claim_answered : {c : Claim} → refusal (claim_tests names [] (drop at s)) ≡ 0 → ClaimTaken s at c →
      ClaimAnswer names s at (Ok (record_of.Claim c))
  unfolding record_as
  claim_answered {c} e w = record {
    answers = answer_record e (ap (λ n. (n, claim (claim_record s c))) w.kind ∙ ap (λ r. (kind_of (drop at s), claim r)) w.carries);
    held = λ d f. let z : c ≡ d = cc in rw z at (w.held names e);
  }
