-- A sheet is read back from its encoding, and every readable byte string is the encoding of what was read.
use Prim.Native.Nat.{ℕ, ◌≤◌, ◌<◌}
use mathlib.Core.Path.{◌≡◌, refl, ◌∙◌}
use mathlib.Core.List.{[], ◌∷◌, ◌++◌, append-nil, flat_map, List}
use mathlib.Core.Bool.{true}
use native.Mathlib.Omega.{arith}
use lib.ListN.{length}
use Rattle.wire.specs.Limits.{no_end}
use Rattle.wire.specs.Capacity.{group_capacity}
use Rattle.wire.specs.Record.{test, read}
use Rattle.wire.specs.SheetFormat.{Records, group_tests, group_of, name_tests, name_of, claim_tests, claim_of, closing, read_claims, read_names}
use Rattle.wire.specs.SheetFormat.{read_groups, read_sheet}
use Rattle.wire.specs.Encoding.{GroupRight, NameRight, ClaimRight, SheetWithin, encode_group, encode_name, encode_claim, encode_sheet, Bytes}
use Rattle.wire.proofs.Passing.{onward_passed}
use Rattle.wire.proofs.Many.{each_both, each_short, many_encoded, encode_reads, kept_read}
use Rattle.wire.proofs.Facts.{ClaimEnd, each_end, right_few, sheet_read, read_within, bytes_after}
use Rattle.wire.proofs.RoundTripRecords.{head_for, group_good, name_good, claim_good, head_good, head_back, group_back, name_back, claim_back}

module _ (d : Records) (w : SheetWithin d) where
  read_claims_law : (r : ℕ) → read_claims (head_for d) d.groups r d.names (flat_map encode_claim d.claims) ≡ read d
  unfolding read_claims closing
  read_claims_law r =
      rw (← append-nil (flat_map encode_claim d.claims))
      (many_encoded (claim_tests (length d.names)) claim_of (closing d.edition d.groups d.names) encode_claim
      (λ cs x. ClaimRight (length d.names) cs x × ClaimEnd cs x)
      (λ cs x c p. claim_good (length d.names) w.right.name_count cs x c p.0 p.1) r
      (each_both w.right.claims (each_end [] d.claims w.claim_ends)) []
      ∙ onward_passed (test 7 true ∷ []) _ _ (refl, tt))

  read_names_law : (r : ℕ)
      → read_names (head_for d) r d.groups (flat_map encode_name d.names ++ flat_map encode_claim d.claims) ≡ read d
  unfolding read_names
  read_names_law r =
      many_encoded (name_tests d.edition (length d.groups)) name_of (read_claims (head_for d) d.groups) encode_name
      (NameRight d.edition (length d.groups))
      (λ ns n c R. name_good d.edition (length d.groups) ns n c R (right_few w.right)) r
      w.right.names (flat_map encode_claim d.claims)
      ∙ read_claims_law _

  read_groups_law : read_groups (head_for d)
      (flat_map encode_group d.groups ++ (flat_map encode_name d.names ++ flat_map encode_claim d.claims)) ≡ read d
  unfolding read_groups
  read_groups_law =
      many_encoded group_tests group_of (read_names (head_for d)) encode_group
      (λ gs g. (GroupRight gs g × (g.hi ≤ no_end)) × (length gs < group_capacity))
      (λ gs g c p. group_good gs g c p.0.0 p.0.1 p.1) 2
      (each_both (each_both w.right.groups w.group_ends)
      (each_short group_capacity [] d.groups (omega (arith, right_few w.right))))
      (flat_map encode_name d.names ++ flat_map encode_claim d.claims)
      ∙ read_names_law _

-- The written sheet loses nothing.
pub read_encoded_sheet : (d : Records) → SheetWithin d → read_sheet (encode_sheet d) ≡ read d
unfolding read_sheet encode_sheet
read_encoded_sheet d w =
    let rest = flat_map encode_group d.groups ++ (flat_map encode_name d.names ++ flat_map encode_claim d.claims) in
    let h = head_good d w.right rest in
    onward_passed _ 1 _ h.0 ∙ rw (h.1, h.2) (read_groups_law d w)

pub readable_is_encoded : (b : List ℕ) → Bytes b → (d : Records) → read_sheet b ≡ read d → (encode_sheet d ≡ b) × SheetWithin d
unfolding encode_sheet
readable_is_encoded b k d e =
    let s = sheet_read b d e in
    let k1 = bytes_after b k in
    let k2 = kept_read Bytes bytes_after k1 s.groups in
    let k3 = kept_read Bytes bytes_after k2 s.names in
    let claims = encode_reads encode_claim Bytes bytes_after (claim_back (length d.names)) k3 s.claims in
    let names = encode_reads encode_name Bytes bytes_after (name_back d.edition (length d.groups)) k2 s.names in
    let groups = encode_reads encode_group Bytes bytes_after group_back k1 s.groups in (
      rw (← append-nil (flat_map encode_claim d.claims), claims, names, groups)
          (head_back b k s.head d s.edition s.group_count s.name_count s.claim_count),
      read_within b k d e,
    )
