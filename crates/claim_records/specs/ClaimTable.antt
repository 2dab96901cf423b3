-- What the table of claims holds that reading a sheet fills.
use Rattle.std.specs.Prelude.{ℕ, List, get_or}
use Rattle.claim_records.specs.declared.claim.Claim.{Claim}
use Rattle.laws.specs.Tabulate.{tabulate}
use Rattle.wire.specs.SheetFormat.{ClaimRecord}
use Rattle.claim_records.specs.ClaimHeld.{claim_record}
use Rattle.claim_records.specs.declared.claim.Claim.TheVariants as claim

-- what it has where no claim was read
abbrev pub no_claim : Claim
no_claim = claim.Count (record { name = record { 0 = 0 }; lo = 0; hi = 0 })

-- the claim at index k
abbrev pub claim_in : List Claim → ℕ → Claim
claim_in claims k = get_or claims k no_claim

-- the records of the first n claims, whose lists stand in the bytes s
unfoldable pub claims_in : List ℕ → List Claim → ℕ → List ClaimRecord
claims_in s claims n = tabulate (λ k. claim_record s (claim_in claims k)) n
