-- Ears, worked: which rows name one member, and what refuses a row (document 02, card 4).
use Prim.Native.Nat.{ℕ}
use mathlib.Core.Path.{◌≡◌, refl}
use mathlib.Core.Bool.{true, false}
use mathlib.Core.List.{List, [], ◌∷◌}
use Rattle.laws.specs.Digit.{digit}
use Rattle.wire.specs.Edition.{edition1, group_limit, membership_bytes, row_kind, row_length}
use Rattle.wire.specs.Member.{Side, Member, left, right, one_member, no_member, side_number, is_side, side_of, precedes}
use Rattle.wire.specs.Bytes.{u16_at, u32_at}
use Rattle.wire.specs.Record.{refusal}
use Rattle.wire.specs.RegisterFormat.{row_tests, member_of, row_of, in_group, clear_above}

-- the member with a number and a side
abbrev pub ear : ℕ → Side → Member
ear n s = record { number = n; side = s }

-- the bytes of a row, in group 1, with its kind, number and side
abbrev row_with : ℕ → ℕ → ℕ → List ℕ
row_with kind n s =
    24 ∷ 0 ∷ kind ∷ 0 ∷ n ∷ 0 ∷ 0 ∷ 0 ∷ s ∷ 0 ∷ 1 ∷ 0 ∷ 0 ∷ 0 ∷ 0 ∷ 0 ∷ 0 ∷ 0 ∷ 0 ∷ 0 ∷ 0 ∷ 0 ∷ 0 ∷ 0 ∷
    0 ∷ 0 ∷ []

-- a row as it was before there were sides, of kind 32 and L = 22, with what follows it
abbrev old_row : ℕ → List ℕ → List ℕ
old_row n b = 22 ∷ 0 ∷ 32 ∷ 0 ∷ n ∷ 0 ∷ 0 ∷ 0 ∷ 1 ∷ 0 ∷ 0 ∷ 0 ∷ 0 ∷ 0 ∷ 0 ∷ 0 ∷ 0 ∷ 0 ∷ 0 ∷ 0 ∷ 0 ∷ 0 ∷ 0 ∷ 0 ∷ b

-- the refusal of the first row of bytes behind a member, under a sheet of one group
abbrev refused_behind : Member → List ℕ → ℕ
refused_behind last b = refusal (row_tests edition1 1 last b)

pub record Ears : Type 0 where
  -- two ears of one recipient are two members
  pub two : (one_member (ear 7 left) (ear 7 right) ≡ false) × (one_member (ear 7 left) (ear 8 left) ≡ false)
      × (one_member (ear 7 right) (ear 7 right) ≡ true)
  -- rows rise by member, then side, and equal pairs may follow one another
  pub rise : (refused_behind (ear 7 left) (row_with 33 7 2) ≡ 0) × (refused_behind (ear 7 right) (row_with 33 8 1) ≡ 0)
      × (refused_behind (ear 7 right) (row_with 33 7 2) ≡ 0)
  pub fall : (refused_behind (ear 7 right) (row_with 33 7 1) ≡ 12) × (refused_behind (ear 8 left) (row_with 33 7 2) ≡ 12)
      × (refused_behind no_member (row_with 33 0 2) ≡ 12)
  -- 15 comes before 12, and 11 before both
  pub sideless : (refused_behind no_member (row_with 33 7 0) ≡ 15) × (refused_behind (ear 8 left) (row_with 33 7 3) ≡ 15)
      × (refused_behind no_member (row_with 33 0 3) ≡ 15)
  pub old : (refused_behind no_member (row_with 32 0 3) ≡ 11) × (refused_behind no_member (old_row 7 []) ≡ 11)
      × (refused_behind no_member (old_row 7 (old_row 8 [])) ≡ 11)

pub ears : Ears
unfolding refusal row_tests group_limit membership_bytes row_kind row_length u16_at u32_at is_side side_number side_of precedes one_member member_of row_of
    clear_above in_group digit
ears =
    record { two = (refl, refl, refl); rise = (refl, refl, refl); fall = (refl, refl, refl); sideless = (refl, refl, refl); old = (refl, refl, refl) }
