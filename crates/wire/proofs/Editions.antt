-- Two editions, worked: which heads, names and rows each of them takes (document 02, card 5).
use Prim.Native.Nat.{ℕ, ◌/◌, ◌%◌, ◌+◌}
use mathlib.Core.Path.{◌≡◌, refl}
use mathlib.Core.Bool.{false}
use mathlib.Core.List.{[], ◌∷◌, ◌++◌}
use lib.ListN.{replicate}
use Rattle.laws.specs.Digit.{digit}
use Rattle.wire.specs.Edition.{Edition, edition1, edition2, edition_number, edition_of, group_limit, label_limit, membership_bytes, row_kind}
use Rattle.wire.specs.Edition.{row_length}
use Rattle.wire.specs.Member.{no_member, side_number, is_side, side_of, precedes}
use Rattle.wire.specs.Bytes.{u16_at, u32_at}
use Rattle.wire.specs.Record.{refusal, framed}
use Rattle.wire.specs.SheetFormat.{head_tests, name_tests, used, name_of, label_byte, label_bytes, same_label}
use Rattle.wire.specs.RegisterFormat.{row_tests, member_of, row_of, in_group, clear_above}

-- the refusal of a head with an edition's number and a group count, no names and no claims
abbrev head_refusal : ℕ → ℕ → ℕ
head_refusal number groups =
    refusal (head_tests (10 ∷ 0 ∷ 1 ∷ 0 ∷ number ∷ 0 ∷ (groups % 256) ∷ (groups / 256) ∷ 0 ∷ 0 ∷ 0 ∷ 0 ∷ []))

-- the refusal of a first name, with a label of n bytes
abbrev name_refusal : Edition → ℕ → ℕ
name_refusal e n = refusal (name_tests e 1 [] ((n + 4) ∷ 0 ∷ 3 ∷ 0 ∷ 1 ∷ 0 ∷ replicate n 65))

-- the refusal of a first row of length l and a kind, whose membership byte i + 1 is x and whose others are 0, i before it and k
-- behind it, under a sheet of so many groups
abbrev row_refusal : Edition → ℕ → ℕ → ℕ → ℕ → ℕ → ℕ → ℕ
row_refusal e groups l kind i x k =
    refusal (row_tests e groups no_member (l ∷ 0 ∷ kind ∷ 0 ∷ 7 ∷ 0 ∷ 0 ∷ 0 ∷ 1 ∷ 0 ∷ replicate i 0 ++ (x ∷ replicate k 0)))

pub record Editions : Type 0 where
  -- an edition other than 1 and 2 is turned back by 4, and so is a group more than the edition has
  pub numbers : (head_refusal 0 1 ≡ 4) × (head_refusal 1 1 ≡ 0) × (head_refusal 2 1 ≡ 0) × (head_refusal 3 1 ≡ 4)
  pub groups : (head_refusal 1 128 ≡ 0) × (head_refusal 1 129 ≡ 4) × (head_refusal 2 256 ≡ 0) × (head_refusal 2 257 ≡ 4)
  -- a longer label is turned back by 3
  pub labels : (name_refusal edition1 16 ≡ 0) × (name_refusal edition1 17 ≡ 3) × (name_refusal edition2 32 ≡ 0) × (name_refusal edition2 33 ≡ 3)
  -- labels that differ behind their first 16 bytes are two
  pub whole : used (record { group = 1; label = replicate 16 65 ++ (65 ∷ []) } ∷ []) (replicate 16 65 ++ (66 ∷ [])) ≡ false
  -- each edition takes its own rows, and turns the other's back by 11
  pub rows : (row_refusal edition1 1 24 33 0 1 15 ≡ 0) × (row_refusal edition2 1 40 34 0 1 31 ≡ 0)
  pub others : (row_refusal edition1 1 40 34 0 1 31 ≡ 11) × (row_refusal edition2 1 24 33 0 1 31 ≡ 11)
      × (row_refusal edition1 1 24 34 0 1 31 ≡ 11) × (row_refusal edition2 1 40 33 0 1 31 ≡ 11)
  -- a bit above the groups is turned back by 13, up to the edition's last bit and no further
  pub bits : (row_refusal edition1 127 24 33 15 128 0 ≡ 13) × (row_refusal edition1 128 24 33 15 128 0 ≡ 0) × (row_refusal edition1 128 24 33 16 1 0 ≡ 0)
      × (row_refusal edition2 128 40 34 16 1 15 ≡ 13) × (row_refusal edition2 129 40 34 16 1 15 ≡ 0) × (row_refusal edition2 255 40 34 31 128 0 ≡ 13)
      × (row_refusal edition2 256 40 34 31 128 0 ≡ 0)

pub editions : Editions
unfolding refusal framed head_tests edition_number edition_of group_limit label_limit membership_bytes row_kind row_length name_tests name_of label_byte
    label_bytes same_label used row_tests u16_at u32_at is_side side_number side_of precedes member_of row_of clear_above in_group digit
editions =
    record {
      numbers = (refl, refl, refl, refl);
      groups = (refl, refl, refl, refl);
      labels = (refl, refl, refl, refl);
      whole = refl;
      rows = (refl, refl);
      others = (refl, refl, refl, refl);
      bits = (refl, refl, refl, refl, refl, refl, refl);
    }
