-- The reading of a register's rows, to an end or to a refusal: document 01, "Registers" and "Turned back", 10 to 13;
-- document 02, cards 2 and 4 (15 comes before 12, which is kept for the number 0 and for a falling pair) and 5 (11 and 13 read
-- the edition).
use Rattle.std.specs.Prelude.{ℕ, zero, suc, ◌+◌, ◌-◌, ◌/◌, ◌%◌, Bool, true, false, cond, not, ◌&&◌, List, [], ◌∷◌, ◌++◌, length, take, drop, get_or, leb, ltb, eqb}
use Rattle.laws.specs.Digit.{digit}
use Rattle.wire.specs.Limits.{row_limit}
use Rattle.wire.specs.Edition.{Edition, group_limit, membership_bytes, row_kind, row_length, row_bytes, row_head}
use Rattle.wire.specs.Member.{is_side, side_of, Member, precedes, no_member}
use Rattle.wire.specs.Bytes.{u16_at, u32_at}
use Rattle.wire.specs.Record.{Test, test, refusal, Reading, read, onward}

-- a member and the membership bytes
pub record Row : Type 0 where
  pub member : Member
  pub bits : List ℕ

-- the fields of a row: "member, side .., then membership"
abbrev pub side_field : List ℕ → ℕ
side_field b = u16_at b 8

unfoldable pub member_of : List ℕ → Member
member_of b = record { number = u32_at b 4; side = side_of (side_field b) }

unfoldable pub row_of : Edition → List ℕ → Row
row_of e b = record { member = member_of b; bits = take (membership_bytes e) (drop row_head b) }

-- "group g is bit (g − 1) mod 8 of byte (g − 1) div 8, bit 0 the lowest"
unfoldable pub in_group : Row → ℕ → Bool
in_group r g = eqb (digit (get_or r.bits ((g - 1) / 8) 0) ((g - 1) % 8)) 1

-- no group above `groups` among the next n has its bit set
unfoldable pub clear_above : Row → ℕ → ℕ → Bool
clear_above r groups zero = true
clear_above r groups (suc n) = cond (in_group r (groups + suc n)) false (clear_above r groups n)

-- the last row's member, `no_member` where there is no row
unfoldable pub last_member : List Row → Member
last_member [] = no_member
last_member (r ∷ []) = r.member
last_member (r ∷ (q ∷ rs)) = last_member (q ∷ rs)

-- The tests of a row behind the member `last` (`no_member` where no row is before), under a sheet of edition e with `groups`
-- groups: 11, it is cut, or its kind or length is wrong; 15, its side is neither 1 nor 2; 12, its number is 0, or its pair is below
-- `last`; 13, a bit above the groups is set.
unfoldable pub row_tests : Edition → ℕ → Member → List ℕ → List Test
row_tests e groups last b =
    test 11 (leb (row_bytes e) (length b) && eqb (u16_at b 0) (row_length e) && eqb (u16_at b 2) (row_kind e))
    ∷ test 15 (is_side (side_field b))
    ∷ test 12 (ltb 0 (member_of b).number && not (precedes (member_of b) last))
    ∷ test 13 (clear_above (row_of e b) groups (group_limit e - groups))
    ∷ []

-- 10: bytes follow where no more rows are left. Rows are numbered from 1.
unfoldable pub read_rows : Edition → ℕ → ℕ → List Row → List ℕ → Reading (List Row)
read_rows e groups zero rs b = onward (refusal (test 10 (eqb (length b) 0) ∷ [])) (length rs + 1) (read rs)
read_rows e groups (suc left) rs b =
    cond (eqb (length b) 0) (read rs)
    (onward (refusal (row_tests e groups (last_member rs) b)) (length rs + 1)
    (read_rows e groups left (rs ++ (row_of e b ∷ [])) (drop (row_bytes e) b)))

-- the reading of a register's bytes, under a sheet of edition e with `groups` groups
unfoldable pub read_register : Edition → ℕ → List ℕ → Reading (List Row)
read_register e groups b = read_rows e groups row_limit [] b
