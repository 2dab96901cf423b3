-- Laws of decisions: a verdict with sets that are shown, and one that stands alone.
use Prim.Native.Nat.{ℕ}
use mathlib.Core.Path.{◌≡◌, refl, sym, ◌∙◌}
use mathlib.Core.Bool.{Bool, beq, cond, true, true≢false, false}
use mathlib.Core.List.{List}
use Rattle.claim_records.specs.declared.claim.Claim.{Claim as ClaimRead}
use Rattle.replies.specs.declared.verdict.Verdict.TheVariants.{Holds, Denied}
use Rattle.replies.specs.declared.verdict.Verdict.{Verdict}
use Rattle.claims.specs.declared.decision.Decision.TheVariants.{Shown}
use Rattle.wire.specs.SheetFormat.{ListKind, inside, apart, place}
use Rattle.meaning.specs.Sheet.{Sheet}
use Rattle.meaning.specs.Tree.{Tree, Rooted}
use Rattle.meaning.specs.Place.{lists_ask, Question}
use Rattle.sizes.proofs.RunsLaws.{runs_first, shown_fits_above}
use Rattle.std.specs.Prelude.{Option}
use Rattle.tables.specs.declared.groups.GroupNo.{GroupNo}
use Rattle.tables.specs.Numbers.{number_in}
use Rattle.claim_records.specs.ClaimHeld.{list_as, claim_record}
use Rattle.runs.specs.Told.{Told}
use Rattle.runs.proofs.ToldLaws.{told_runs}
use Rattle.questions.specs.Judged.{Showing}
use Rattle.questions.specs.Ways.{is_place}
use Rattle.claims.specs.Named.{claim_meant}
use Rattle.claims.specs.Decided.{verdict_on, asks_place, Shows, Decided}
use Rattle.claim_records.specs.declared.claim.Claim.TheVariants as claim

-- the verdict on a claim that is read, by that
verdict_read : (c : ClaimRead) (sheet : List ℕ) (names : List (Option GroupNo)) (answered : Bool)
    → verdict_on (claim_meant names (claim_record sheet c)) answered ≡ cond (asks_place c) (cond answered Holds Denied) (cond answered Denied Holds)
unfolding claim_meant
verdict_read (claim.Count k) sheet names answered = refl
verdict_read (claim.Lists l) sheet names answered = by_kind _ _ (list_as l.kind)
  where
    by_kind : (l r : List ℕ) (k : ListKind)
        → verdict_on (lists_ask k l r) answered ≡ cond (is_place k) (cond answered Holds Denied) (cond answered Denied Holds)
    by_kind l r inside = refl
    by_kind l r apart = refl
    by_kind l r place = refl

-- so it holds where sets answer it exactly if it is of kind 7
by_answer : (p answered : Bool) → cond p (cond answered Holds Denied) (cond answered Denied Holds) ≡ cond (beq p answered) Holds Denied
by_answer true true = refl
by_answer true false = refl
by_answer false true = refl
by_answer false false = refl

module _ (c : ClaimRead) (sheet : List ℕ) (names : List (Option GroupNo)) (answered : Bool) {p : Bool} (e : p ≡ asks_place c) where
  pub verdict_holds : beq p answered ≡ true → Holds ≡ verdict_on (claim_meant names (claim_record sheet c)) answered
  verdict_holds o = sym (verdict_read c sheet names answered ∙ rw (← e, by_answer p answered, o))

  pub verdict_denied : beq p answered ≡ false → Denied ≡ verdict_on (claim_meant names (claim_record sheet c)) answered
  verdict_denied o = sym (verdict_read c sheet names answered ∙ rw (← e, by_answer p answered, o))

-- numbers that show an answer, with starts
pub showing_shows : {s : Sheet} {q : Question} {firsts sizes marks : List ℕ} → Tree s → Rooted s → Showing s q sizes marks
    → Told s (number_in sizes) (number_in firsts) → Shows s q firsts sizes marks
showing_shows {firsts = firsts} t r d w =
    let f = d.fitting.found in
    let h = told_runs t r f.choice.others w in
    record {
      fits = shown_fits_above t f.choice h;
      shows = d.shows (number_in firsts) h;
      first = runs_first t f.choice.others h;
      mark = f.bits;
    }

pub decided_shown : {s : Sheet} {q : Question} {firsts sizes marks : List ℕ} {v : Verdict} → v ≡ verdict_on q true
    → Shows s q firsts sizes marks → Decided s q firsts sizes marks (Shown v)
decided_shown e w = record { verdict = e; shown = λ o. w; alone = λ o. absurd (true≢false o) }
