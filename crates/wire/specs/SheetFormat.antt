-- The reading of a sheet, to an end or to a refusal: document 01, "Records of a sheet" and "Turned back", 1 to 7; document
-- 02, cards 1 (kind 7) and 5 (3 and 4 read the edition).
use Rattle.std.specs.Prelude.{ℕ, zero, suc, ◌+◌, ◌-◌, ◌*◌, ◌%◌, Bool, true, false, cond, ◌&&◌, ◌||◌, not, List, [], ◌∷◌, ◌++◌, length, take, drop, leb, ltb, eqb}
use Rattle.wire.specs.Limits.{name_limit, claim_limit, list_limit, bound_limit, mode_limit}
use Rattle.wire.specs.Edition.{Edition, edition_number, edition_of, group_limit, label_limit}
use Rattle.wire.specs.Bytes.{u16_at}
use Rattle.wire.specs.Record.{length_of, kind_of, after, framed, Test, test, refusal, Reading, read, onward}

-- What the records carry.
pub record HeadRecord : Type 0 where
  pub edition : Edition
  pub groups : ℕ
  pub names : ℕ
  pub claims : ℕ

pub record GroupRecord : Type 0 where
  pub parent : ℕ
  pub lo : ℕ
  pub hi : ℕ
  pub mode : ℕ

pub record NameRecord : Type 0 where
  pub group : ℕ
  pub label : List ℕ

-- the kinds of claims on two lists of names: 5 and 6 of document 01, 7 of document 02, card 1
pub data ListKind : Type 0 where
  inside : ListKind
  apart : ListKind
  place : ListKind

-- the number of such a kind, and the kind with the number n: that is so exactly where n is `list_number (list_kind_of n)`
unfoldable pub list_number : ListKind → ℕ
list_number inside = 5
list_number apart = 6
list_number place = 7

unfoldable pub list_kind_of : ℕ → ListKind
list_kind_of n = cond (eqb n 5) inside (cond (eqb n 6) apart place)

-- the names of a claim are name numbers
pub data ClaimRecord : Type 0 where
  count : ℕ → ℕ → ℕ → ClaimRecord
  lists : ListKind → List ℕ → List ℕ → ClaimRecord

pub record Records : Type 0 where
  pub edition : Edition
  pub groups : List GroupRecord
  pub names : List NameRecord
  pub claims : List ClaimRecord

-- Kind 1, head: edition, group count, name count, claim count.
unfoldable pub head_of : List ℕ → HeadRecord
head_of b = record { edition = edition_of (u16_at b 4); groups = u16_at b 6; names = u16_at b 8; claims = u16_at b 10 }

unfoldable pub head_tests : List ℕ → List Test
head_tests b =
    test 1 (framed b) ∷ test 2 (eqb (kind_of b) 1) ∷ test 3 (eqb (length_of b) 10)
    ∷ test 4 (eqb (u16_at b 4) (edition_number (edition_of (u16_at b 4))) && leb 1 (u16_at b 6)
    && leb (u16_at b 6) (group_limit (edition_of (u16_at b 4))) && leb (u16_at b 8) name_limit && leb (u16_at b 10) claim_limit)
    ∷ []

-- Kind 2, group: parent, lo, hi, mode. Group 1 has parent 0, any other a parent from 1 to its own number less one.
unfoldable pub group_of : List ℕ → GroupRecord
group_of b = record { parent = u16_at b 4; lo = u16_at b 6; hi = u16_at b 8; mode = u16_at b 10 }

unfoldable pub parent_allowed : ℕ → ℕ → Bool
parent_allowed g p = cond (eqb g 1) (eqb p 0) (leb 1 p && ltb p g)

-- the tests of the group that comes after the groups gs
unfoldable pub group_tests : List GroupRecord → List ℕ → List Test
group_tests gs b =
    test 1 (framed b) ∷ test 2 (eqb (kind_of b) 2) ∷ test 3 (eqb (length_of b) 10)
    ∷ test 4 (leb (u16_at b 6) bound_limit && leb (u16_at b 10) mode_limit)
    ∷ test 5 (parent_allowed (length gs + 1) (u16_at b 4))
    ∷ []

-- Kind 3, name: group, label.
unfoldable pub name_of : List ℕ → NameRecord
name_of b = record { group = u16_at b 4; label = take (length_of b - 4) (drop 6 b) }

-- A to Z, 0 to 9 and hyphen
unfoldable pub label_byte : ℕ → Bool
label_byte x = leb 65 x && leb x 90 || leb 48 x && leb x 57 || eqb x 45

unfoldable pub label_bytes : List ℕ → Bool
label_bytes [] = true
label_bytes (x ∷ l) = label_byte x && label_bytes l

-- labels are equal as whole byte strings
unfoldable pub same_label : List ℕ → List ℕ → Bool
same_label [] [] = true
same_label [] (y ∷ m) = false
same_label (x ∷ l) [] = false
same_label (x ∷ l) (y ∷ m) = eqb x y && same_label l m

-- a name among these has the label
unfoldable pub used : List NameRecord → List ℕ → Bool
used [] l = false
used (n ∷ ns) l = same_label n.label l || used ns l

-- the tests of the name that comes after the names ns, in a sheet of edition e with `groups` groups
unfoldable pub name_tests : Edition → ℕ → List NameRecord → List ℕ → List Test
name_tests e groups ns b =
    test 1 (framed b) ∷ test 2 (eqb (kind_of b) 3) ∷ test 3 (leb 5 (length_of b) && leb (length_of b) (label_limit e + 4))
    ∷ test 4 (label_bytes (name_of b).label)
    ∷ test 5 (leb (u16_at b 4) groups)
    ∷ test 6 (not (used ns (name_of b).label))
    ∷ []

-- Kinds 4 to 7, claims: name, lo, hi (4); or m, n, m left names, n right names (5 to 7).
abbrev pub last_claim : ℕ
last_claim = 7

-- n fields of two bytes from offset i on
unfoldable pub u16s : List ℕ → ℕ → ℕ → List ℕ
u16s b i zero = []
u16s b i (suc n) = u16_at b i ∷ u16s b (i + 2) n

unfoldable pub left_of : List ℕ → List ℕ
left_of b = u16s b 8 (u16_at b 4)

unfoldable pub right_of : List ℕ → List ℕ
right_of b = u16s b (8 + 2 * u16_at b 4) (u16_at b 6)

unfoldable pub claim_of : List ℕ → ClaimRecord
claim_of b = cond (eqb (kind_of b) 4) (count (u16_at b 4) (u16_at b 6) (u16_at b 8))
    (lists (list_kind_of (kind_of b)) (left_of b) (right_of b))

-- every number is from 1 to n
unfoldable pub all_within : ℕ → List ℕ → Bool
all_within n [] = true
all_within n (x ∷ xs) = leb 1 x && leb x n && all_within n xs

unfoldable pub claim_length : List ℕ → Bool
claim_length b = cond (eqb (kind_of b) 4) (eqb (length_of b) 8)
    (eqb (length_of b % 2) 0 && leb 10 (length_of b) && leb (length_of b) (6 + 2 * (list_limit + list_limit)))

unfoldable pub claim_fields : List ℕ → Bool
claim_fields b = cond (eqb (kind_of b) 4) (leb (u16_at b 6) bound_limit)
    (leb 1 (u16_at b 4) && leb (u16_at b 4) list_limit && leb 1 (u16_at b 6) && leb (u16_at b 6) list_limit
    && eqb (6 + 2 * (u16_at b 4 + u16_at b 6)) (length_of b))

unfoldable pub claim_names : ℕ → List ℕ → Bool
claim_names names b = cond (eqb (kind_of b) 4) (all_within names (u16_at b 4 ∷ []))
    (all_within names (left_of b) && all_within names (right_of b))

-- the tests of a claim, in a sheet of `names` names
unfoldable pub claim_tests : ℕ → List ClaimRecord → List ℕ → List Test
claim_tests names cs b =
    test 1 (framed b) ∷ test 2 (leb 4 (kind_of b) && leb (kind_of b) last_claim) ∷ test 3 (claim_length b) ∷ test 4 (claim_fields b)
    ∷ test 5 (claim_names names b)
    ∷ []

-- `left` records of one sort, the next of them numbered r, after those read already: each meets its tests before the next
-- is read; then the rest.
unfoldable pub read_many : {A R : Type 0} → (List A → List ℕ → List Test) → (List ℕ → A) →
    (ℕ → List A → List ℕ → Reading R) → ℕ → ℕ → List A → List ℕ → Reading R
read_many tests value rest zero r xs b = rest r xs b
read_many tests value rest (suc left) r xs b =
    onward (refusal (tests xs b)) r (read_many tests value rest left (r + 1) (xs ++ (value b ∷ [])) (after b))

-- 7: bytes follow the last record
unfoldable pub closing : Edition → List GroupRecord → List NameRecord → ℕ → List ClaimRecord → List ℕ → Reading Records
closing e gs ns r cs b =
    onward (refusal (test 7 (eqb (length b) 0) ∷ [])) r (read (record { edition = e; groups = gs; names = ns; claims = cs }))

unfoldable pub read_claims : HeadRecord → List GroupRecord → ℕ → List NameRecord → List ℕ → Reading Records
read_claims h gs r ns b = read_many (claim_tests h.names) claim_of (closing h.edition gs ns) h.claims r [] b

unfoldable pub read_names : HeadRecord → ℕ → List GroupRecord → List ℕ → Reading Records
read_names h r gs b = read_many (name_tests h.edition h.groups) name_of (read_claims h gs) h.names r [] b

unfoldable pub read_groups : HeadRecord → List ℕ → Reading Records
read_groups h b = read_many group_tests group_of (read_names h) h.groups 2 [] b

-- the reading of a sheet's bytes
unfoldable pub read_sheet : List ℕ → Reading Records
read_sheet b = onward (refusal (head_tests b)) 1 (read_groups (head_of b) (after b))
