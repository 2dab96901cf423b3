-- What tables hold, and how long a readable sheet can be. No contract of an exported operation speaks of it.
use Rattle.std.specs.Prelude.{ℕ, ◌+◌, ◌*◌}
use Rattle.wire.specs.Limits.{name_limit, claim_limit, list_limit}
use Rattle.wire.specs.Edition.{Edition, group_limit, label_limit}

-- the groups that tables hold; no edition has more (`groups_within`)
abbrev pub group_capacity : ℕ
group_capacity = 256

-- bytes of the records of a sheet, length field and kind among them: kind 1 (head), 2 (group), 4 to 7 (claim, the most)
abbrev pub head_bytes : ℕ
head_bytes = 12

abbrev pub group_bytes : ℕ
group_bytes = 12

abbrev pub claim_bytes : ℕ
claim_bytes = 8 + 2 * (list_limit + list_limit)

-- most bytes of a name's record: length and kind (four bytes), group (two), label
abbrev pub name_bytes : Edition → ℕ
name_bytes e = label_limit e + 6

-- most bytes of a readable sheet
abbrev pub sheet_limit : Edition → ℕ
sheet_limit e = head_bytes + group_bytes * group_limit e + name_bytes e * name_limit + claim_bytes * claim_limit
