-- How many bytes the record of a claim has.
use Prim.Native.Nat.{ℕ, ◌+◌, ◌*◌}
use mathlib.Core.Path.{◌≡◌}
use mathlib.Core.List.{List, ◌∷◌, ◌++◌, flat_map, []}
use native.Mathlib.Omega.{arith}
use lib.ListN.{length, length-append}
use Rattle.claim_records.specs.declared.claim.Lists.{Lists}
use Rattle.wire.specs.Bytes.{le16, u16_at}
use Rattle.wire.specs.Record.{refusal}
use Rattle.wire.specs.SheetFormat.{claim_of, list_number, claim_tests, left_of, right_of}
use Rattle.wire.specs.Encoding.{encode_record, encode_claim}
use Rattle.wire.proofs.Passing.{passed}
use Rattle.wire.proofs.Sorts.{length_u16s, claim_nonzero, claim_cases, claim_count_law, claim_lists}
use Rattle.wire.proofs.Fields.{length_le16s}
use Rattle.claim_records.specs.ClaimHeld.{left_names, right_names}

-- how many bytes the record of a claim has
length_lists : (kind : ℕ) (l r : List ℕ) →
    length (encode_record kind (flat_map le16 (length l ∷ length r ∷ l ++ r))) ≡ 8 + 2 * (length l + length r)
unfolding encode_record le16
length_lists kind l r = simp (length_le16s, length-append) (omega arith)

pub lists_bytes : (s : List ℕ) (kind : ℕ) (l : Lists) →
    length (encode_record kind (flat_map le16 (length (left_names s l) ∷ length (right_names s l) ∷ left_names s l ++ right_names s l)))
    ≡ 8 + 2 * (l.m + l.n)
lists_bytes s kind l = rw (length_lists kind (left_names s l) (right_names s l)) (simp length_u16s)

pub claim_length_law : (names : ℕ) (b : List ℕ) → refusal (claim_tests names [] b) ≡ 0 → length (encode_claim (claim_of b)) ≡ u16_at b 0 + 2
unfolding encode_claim
claim_length_law names b e =
    claim_cases names [] b (passed _ (claim_nonzero names [] b) e)
    (λ k f. rw (claim_count_law b k) (unfold encode_record flat_map le16 in omega arith))
    (λ k o f. rw (claim_lists b k o, length_lists (list_number k) (left_of b) (right_of b)) (unfold left_of right_of in simp length_u16s (omega arith)))
