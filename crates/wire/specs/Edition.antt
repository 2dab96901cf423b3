-- The editions of the format and what each of them sets: document 01, "Records of a sheet" (kinds 1 and 3) and
-- "Registers"; document 02, cards 4 (the rows) and 5 (edition 2).
-- Laws are over the edition; what needs its numbers is proved by clauses (`EditionFacts`).
use Rattle.std.specs.Prelude.{ℕ, ◌+◌, cond, eqb}

pub data Edition : Type 0 where
  edition1 : Edition
  edition2 : Edition

-- the number of an edition in a head
unfoldable pub edition_number : Edition → ℕ
edition_number edition1 = 1
edition_number edition2 = 2

-- the edition with the number n, where one has it: that is so exactly where n is `edition_number (edition_of n)`
unfoldable pub edition_of : ℕ → Edition
edition_of n = cond (eqb n (edition_number edition2)) edition2 edition1

-- most groups of a sheet
unfoldable pub group_limit : Edition → ℕ
group_limit edition1 = 128
group_limit edition2 = 256

-- most bytes of a label
unfoldable pub label_limit : Edition → ℕ
label_limit edition1 = 16
label_limit edition2 = 32

-- the membership bytes of a row, a bit for each group that a sheet may have
unfoldable pub membership_bytes : Edition → ℕ
membership_bytes edition1 = 16
membership_bytes edition2 = 32

-- the kind of a row
unfoldable pub row_kind : Edition → ℕ
row_kind edition1 = 33
row_kind edition2 = 34

-- the length of a row, L, and all its bytes: the length's own two are among them
unfoldable pub row_length : Edition → ℕ
row_length edition1 = 24
row_length edition2 = 40

abbrev pub row_bytes : Edition → ℕ
row_bytes e = row_length e + 2

-- a row's bytes before the membership bytes: length and kind (four bytes), member (four), side (two)
abbrev pub row_head : ℕ
row_head = 10
