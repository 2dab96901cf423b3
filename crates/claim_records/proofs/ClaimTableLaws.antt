-- Laws of the table of claims: how many there are, and which stands at a place.
use Prim.Native.Nat.{ℕ, ◌<◌}
use mathlib.Core.Path.{◌≡◌}
use mathlib.Core.List.{List}
use lib.ListN.{length, get_or}
use Rattle.claim_records.specs.declared.claim.Claim.{Claim}
use Rattle.laws.proofs.TabulateLaws.{length_tabulate, get_d_tabulate}
use Rattle.wire.specs.SheetFormat.{ClaimRecord}
use Rattle.claim_records.specs.ClaimHeld.{claim_record}
use Rattle.claim_records.specs.ClaimTable.{claim_in, claims_in}

module _ (s : List ℕ) (claims : List Claim) (n : ℕ) where
  pub length_claims_in : length (claims_in s claims n) ≡ n
  unfolding claims_in
  length_claims_in = length_tabulate (λ k. claim_record s (claim_in claims k)) n

  pub get_d_claims_in : (k : ℕ) (d : ClaimRecord) → k < n → get_or (claims_in s claims n) k d ≡ claim_record s (claim_in claims k)
  unfolding claims_in
  get_d_claims_in k d l = get_d_tabulate (λ k. claim_record s (claim_in claims k)) n k d l
