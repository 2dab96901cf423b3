-- By the two cases.
use mathlib.Core.List.{flat_map}
use Rattle.wire.specs.Bytes.{le16}
use Rattle.wire.specs.Encoding.{encode_record, encode_claim}
use Rattle.claim_records.proofs.ClaimBytes.{lists_bytes}
use Rattle.claim_records.proofs.claim.Claim.bytes.Goals as goal

pub returns-in-Count : goal.returns-in-Count
unfolding encode_claim encode_record flat_map le16
returns-in-Count c = λ s. rw c.in-Count.is

pub returns-in-Lists : goal.returns-in-Lists
unfolding encode_claim
returns-in-Lists c = λ s. rw (c.in-Lists.is, lists_bytes s _)
