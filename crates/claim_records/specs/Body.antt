-- What the tests of a claim's record after its kind ask, and the claim that is taken from it.
use Rattle.std.specs.Prelude.{ℕ, ◌+◌, ◌≤◌, ◌≡◌, List, [], ◌∷◌, length, drop}
use Rattle.claim_records.specs.declared.claim.Claim.{Claim}
use Rattle.wire.specs.Bytes.{u16_at}
use Rattle.wire.specs.Record.{Test, test, kind_of, refusal}
use Rattle.wire.specs.SheetFormat.{claim_length, claim_fields, claim_names, claim_tests, claim_of}
use Rattle.claim_records.specs.ClaimHeld.{claim_kind, claim_record, ClaimHeld}

-- a whole record of that length stands at an offset
pub record Whole (s : List ℕ) (at len : ℕ) : Type 0 where
  pub says : u16_at s at ≡ len
  pub least : 2 ≤ len
  pub room : at + 2 + len ≤ length s

-- the tests of a claim after its frame and kind
unfoldable pub claim_body : ℕ → List ℕ → List Test
claim_body names b = test 3 (claim_length b) ∷ test 4 (claim_fields b) ∷ test 5 (claim_names names b) ∷ []

-- c is the claim of the record at an offset
pub record ClaimTaken (s : List ℕ) (at : ℕ) (c : Claim) : Type 0 where
  pub kind : claim_kind c ≡ kind_of (drop at s)
  pub carries : claim_record s c ≡ claim_of (drop at s)
  pub held : (names : ℕ) → refusal (claim_tests names [] (drop at s)) ≡ 0 → ClaimHeld s names c
