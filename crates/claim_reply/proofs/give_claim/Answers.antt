-- `give_claim` meets its contract: refusal 8, refusal 9, or the verdict.
use Prim.Native.Nat.{◌-◌}
use mathlib.Core.Path.{refl, sym, ◌∙◌}
use mathlib.Core.Bool.{false≢true}
use mathlib.Core.Logic.{⊎_elim}
use native.Mathlib.Omega.{arith}
use borrow.Author.Rules.{rules}
use Rattle.tables.specs.SheetIn.{sheet_in}
use Rattle.claim_records.proofs.ClaimTableLaws.{length_claims_in}
use Rattle.reading.proofs.TabledLaws.{tabled}
use Rattle.replies.proofs.ReplyLaws.{as_read, once_none_fit, once_some_fit}
use Rattle.claim_reply.specs.ClaimReply.{ClaimVerdict}
use Rattle.claim_reply.proofs.ClaimLaws.{verdict_as, claim_askable, claim_told}
use Rattle.claim_reply.proofs.give_claim.Goals.{then-claim-eq0-via-then-claim-eq0, then-claim-eq0-via-else-claim-eq0+then-head-claim}
use Rattle.claim_reply.proofs.give_claim.Goals as goal

pub invariant_of-all : goal.invariant_of-all
invariant_of-all c =
    let w = c.requires.1 in
    record { tabled = tabled _ _ _ _ w.reads refl w.held.room }

pub give_verdict-requires-clause-tabled : goal.give_verdict-requires-clause-tabled
give_verdict-requires-clause-tabled c =
    let w = c.requires.1 in
    tabled _ _ _ _ w.reads refl w.held.room

pub returns-then-not-some_fit-clause-verdict : goal.returns-then-not-some_fit-clause-verdict
unfolding sheet_in
returns-then-not-some_fit-clause-verdict c =
    as_read (λ d. ClaimVerdict _ d _) c.requires.1.reads
    (once_none_fit (λ p. false≢true (sym c.if-not-some_fit.true ∙ c.some_fit.ensures.1 p)) (search rules))

pub returns-then-claim-eq0-clause-verdict : goal.returns-then-claim-eq0-clause-verdict
unfolding sheet_in
returns-then-claim-eq0-clause-verdict c =
    as_read (λ d. ClaimVerdict _ d _) c.requires.1.reads
    (once_some_fit (c.some_fit.ensures.0 c.if-not-some_fit.false)
    (record {
      unnumbered = λ o. search rules;
      numbered = λ a b. absurd (elim c.then-claim-eq0.branch [
        | then-claim-eq0-via-then-claim-eq0 w ↦ omega arith
        | then-claim-eq0-via-else-claim-eq0+then-head-claim w ↦ omega (arith, simp length_claims_in at b)
      ]);
    }))

pub give_verdict-requires-clause-askable : goal.give_verdict-requires-clause-askable
give_verdict-requires-clause-askable c =
    let a = c.args in
    let w = c.requires.1 in
    claim_askable a.head a.sheet.now
    (record { groups = a.groups.now; names = a.names.now; labels = c.requires.0; claims = a.claims.now })
    w.reads w.held (omega (arith, w.held.limits.few_names, w.room)) (a.claim - 1) (omega arith)

pub returns-clause-verdict : goal.returns-clause-verdict
unfolding sheet_in
returns-clause-verdict c =
    let a = c.args in
    let w = c.requires.1 in
    as_read (λ d. ClaimVerdict _ d _) w.reads
    (once_some_fit (c.some_fit.ensures.0 c.if-not-some_fit.false)
    (record {
      unnumbered = λ o. absurd (⊎_elim c.if-claim-eq0.false (λ b. omega (arith, simp length_claims_in at b)) o);
      numbered = λ i j.
          verdict_as _ _
          (claim_told a.head a.sheet.now
          (record { groups = a.groups.now; names = a.names.now; labels = c.requires.0; claims = a.claims.now })
          w.reads w.held (omega (arith, w.held.limits.few_names, w.room)) (a.claim - 1) (omega arith) a.claim refl)
          c.give_verdict.ensures.verdict;
    }))
