-- The verdict on a claim: document 01, "Replies" (kinds 18 and 19); document 02, card 1. Which sets are shown is open but for
-- this: they fit, and they answer what the claim asks.
use Rattle.std.specs.Prelude.{ℕ, ◌≤◌, ◌≡◌, Bool, cond, false, true, List}
use Rattle.replies.specs.declared.verdict.Verdict.{Verdict}
use Rattle.replies.specs.declared.verdict.Verdict.TheVariants.{Holds, Denied}
use Rattle.claim_records.specs.declared.claim.Claim.{Claim as ClaimRead}
use Rattle.claims.specs.declared.decision.Decision.{Decision}
use Rattle.claims.specs.declared.decision.Decision.TheVariants.{Shown, Alone}
use Rattle.meaning.specs.Sheet.{Sheet, Group}
use Rattle.meaning.specs.Sets.{Sets}
use Rattle.meaning.specs.Fits.{Fits}
use Rattle.meaning.specs.Place.{Question, all_say, some_place}
use Rattle.meaning.specs.Shown.{shown, above}
use Rattle.sizes.specs.Witness.{ShownWitness, HasWitness}
use Rattle.tables.specs.Numbers.{number_in}
use Rattle.claim_records.specs.ClaimHeld.{list_as}
use Rattle.choosing.specs.Divided.{marked_in}
use Rattle.questions.specs.Ways.{is_place}
use Rattle.claim_records.specs.declared.claim.Claim.TheVariants as claim

-- Sets that answer a claim deny one of kinds 4 to 6 and grant one of kind 7; where there are none, it is the other way round.
abbrev pub verdict_on : Question → Bool → Verdict
verdict_on (all_say k) answered = cond answered Denied Holds
verdict_on (some_place l r) answered = cond answered Holds Denied

-- whether a claim is of kind 7
abbrev pub asks_place : ClaimRead → Bool
asks_place (claim.Count k) = false
asks_place (claim.Lists l) = is_place (list_as l.kind)

-- the verdict, and whether sets are shown
abbrev pub decision_verdict : Decision → Verdict
decision_verdict (Shown v) = v
decision_verdict (Alone v) = v

abbrev pub decision_shows : Decision → Bool
decision_shows (Shown v) = true
decision_shows (Alone v) = false

-- the sets that the tables show: for each group a run (first, count), and member 0 where the mark is 1
abbrev pub table_sets : Sheet → List ℕ → List ℕ → List ℕ → Sets ℕ
table_sets s firsts sizes marks =
    shown (number_in firsts) (number_in sizes) (marked_in marks) (above s.size (number_in firsts) (number_in sizes))

-- the tables show sets that fit and answer the question
pub record Shows (s : Sheet) (q : Question) (firsts sizes marks : List ℕ) : Type 0 where
  pub fits : Fits s (table_sets s firsts sizes marks)
  pub shows : ShownWitness q (table_sets s firsts sizes marks)
  pub first : (g : ℕ) → Group s g → 1 ≤ number_in firsts g
  pub mark : (g : ℕ) → Group s g → number_in marks g ≤ 1

pub record Decided (s : Sheet) (q : Question) (firsts sizes marks : List ℕ) (r : Decision) : Type 0 where
  pub verdict : decision_verdict r ≡ verdict_on q (decision_shows r)
  pub shown : decision_shows r ≡ true → Shows s q firsts sizes marks
  -- no sets that fit answer it
  pub alone : decision_shows r ≡ false → HasWitness s q → ⊥
