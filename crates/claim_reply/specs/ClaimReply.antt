-- The operation `sheet_claim`, written down: document 01, "Meaning", "The arrangement" (denials), "Replies", refusals 1 to 9
-- and 14; document 02, card 1 (kind 7). Open is which sets are shown, and with them where an empty run starts: those of a denial
-- fit and break the claim, those of kind 7 fit and have member 0 in every left set and in no right set.
use Rattle.std.specs.Prelude.{ℕ, ◌≤◌, ◌<◌, ◌+◌, ◌*◌, ◌≡◌, List, ◌⊎◌, length}
use Rattle.replies.specs.declared.verdict.Verdict.TheVariants.{Denied, Holds}
use Rattle.wire.specs.Limits.{verdict_bytes, shown_bytes}
use Rattle.wire.specs.SheetFormat.{Records}
use Rattle.meaning.specs.Sheet.{Sheet}
use Rattle.meaning.specs.Claim.{Claim, Breaks, Breakable}
use Rattle.meaning.specs.Place.{Fills, Fillable, Question, all_say, some_place}
use Rattle.meaning.specs.OfRecords.{sheet_of, claim_at}
use Rattle.replies.specs.Reply.{Call, Refused, OnceSheet, OnceRoom, OncePossible}
use Rattle.replies.specs.Shown.{SetsIn, VerdictIn}

-- a denial's sets break the claim
abbrev pub DenialIn : Sheet → Claim → List ℕ → Type 0
DenialIn s k out = SetsIn s Denied (λ A. Breaks k A) out

-- those of a yes to kind 7 have member 0 in every left set and in no right set
abbrev pub PlaceIn : Sheet → List ℕ → List ℕ → List ℕ → Type 0
PlaceIn s l r out = SetsIn s Holds (λ A. Fills A l r 0) out

-- 9: the claim number k is 0 or above the number n of claims
pub record OnceNumbered (k n : ℕ) (c : Call) (P : Type 0) : Type 0 where
  pub unnumbered : (k ≡ 0) ⊎ (n < k) → Refused 9 0 c
  pub numbered : 1 ≤ k → k ≤ n → P

-- kinds 4 to 6: the claim holds where no finite sets fit and break it, and is denied where some do
pub record VerdictOn (s : Sheet) (k : Claim) (c : Call) : Type 0 where
  pub holds : (Breakable s k → ⊥) → OnceRoom verdict_bytes c (VerdictIn Holds)
  pub denied : Breakable s k → OnceRoom (verdict_bytes + shown_bytes * s.size) c (DenialIn s k)

-- kind 7: it holds where some finite sets fit and have a member in every left set and in no right set, and is denied where none do
pub record PlaceOn (s : Sheet) (l r : List ℕ) (c : Call) : Type 0 where
  pub holds : Fillable s l r → OnceRoom (verdict_bytes + shown_bytes * s.size) c (PlaceIn s l r)
  pub denied : (Fillable s l r → ⊥) → OnceRoom verdict_bytes c (VerdictIn Denied)

-- the verdict on what a claim asks
abbrev pub VerdictFor : Sheet → Question → Call → Type 0
VerdictFor s (all_say k) c = VerdictOn s k c
VerdictFor s (some_place l r) c = PlaceOn s l r c

-- what the operation promises on claim number k of a sheet
abbrev pub ClaimVerdict : ℕ → Records → Call → Type 0
ClaimVerdict k d c =
    OncePossible (sheet_of d.groups) c
    (OnceNumbered k (length d.claims) c
    (VerdictFor (sheet_of d.groups) (claim_at d k) c))

-- what it promises of a call with these bytes and this claim number
abbrev pub ClaimCall : List ℕ → ℕ → Call → Type 0
ClaimCall sheet k = OnceSheet sheet (ClaimVerdict k)
