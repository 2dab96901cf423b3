-- `give_verdict` meets its contract: a verdict with sets that answer the claim, or alone where none do.
use Prim.Native.Nat.{◌+◌, ◌*◌}
use mathlib.Core.Path.{◌≡◌, refl, sym, ap, subst, ◌∙◌}
use native.Mathlib.Omega.{arith}
use lib.ListN.{length, take, length-replicate}
use lib.Seq.{length-take-le}
use Rattle.wire.specs.Limits.{verdict_bytes, shown_bytes}
use Rattle.claim_records.specs.ClaimHeld.{claim_record}
use Rattle.tables.proofs.SheetInLaws.{size_in}
use Rattle.claims.specs.Named.{claim_meant}
use Rattle.claims.proofs.NamedLaws.{asked_speaks}
use Rattle.replies.specs.Shown.{VerdictIn}
use Rattle.replies.proofs.ReplyLaws.{room_said}
use Rattle.claims.specs.Decided.{decision_shows}
use Rattle.claims.proofs.SetsLaws.{sets_in, shows_witness}
use Rattle.claim_reply.proofs.Answering.{answering_verdict}
use Rattle.claim_reply.proofs.ClaimLaws.{sets_taken}
use Rattle.claim_reply.proofs.give_verdict.Goals as goal

pub decide-decision-requires : goal.decide-decision-requires
decide-decision-requires c =
    let room = c.requires.tabled.small in record {
      tabled = c.requires.tabled;
      asking = (
        record { sizes_long = simp length-replicate room; marks_long = simp length-replicate room },
        c.requires.askable,
        simp length-replicate room,
      );
    }

pub returns-in-Alone-clause-verdict : goal.returns-in-Alone-clause-verdict
returns-in-Alone-clause-verdict c =
    let told = c.in-Alone.is in
    let a = c.args in
    let w = c.decide-decision.ensures.decided in
    let v = rw told at w.verdict in
    answering_verdict (claim_meant a.names.now (claim_record a.sheet.now a.claim)) (record {
      shown = λ h. absurd (w.alone (ap decision_shows told) h);
      alone = λ h. room_said refl (λ out. subst (λ k. VerdictIn k out) v) c.give_alone.ensures;
    })

pub returns-in-Shown-clause-verdict : goal.returns-in-Shown-clause-verdict
returns-in-Shown-clause-verdict c =
    let told = c.in-Shown.is in
    let a = c.args in
    let n = a.size in
    let T = c.requires.tabled in
    let size = size_in a.groups.now n in
    let d = c.decide-decision in
    let w = d.ensures.decided in
    let v = rw told at w.verdict in
    let y = w.shown (ap decision_shows told) in
    let known = asked_speaks a.sheet.now a.claim c.requires.askable in
    let e : length (take n d.new.marks) ≡ n = length-take-le n d.new.marks (omega (arith, T.small)) in
    answering_verdict (claim_meant a.names.now (claim_record a.sheet.now a.claim)) (record {
      shown = λ h. room_said (ap (λ m. verdict_bytes + shown_bytes * m) (e ∙ sym size))
          (λ out p. sets_in T.tree size T.some known y (subst (λ k. VerdictIn k out) v p.0)
          (sets_taken out d.new.firsts d.new.sizes d.new.marks n (rw e at p.1)))
          c.give_shown.ensures;
      alone = λ h. absurd (h (shows_witness y));
    })
