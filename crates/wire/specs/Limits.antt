-- The capacities and lengths that hold in every edition, each named once: document 01, "Records of a sheet", "Registers",
-- "Replies". `Edition` has those that an edition sets.
use Rattle.std.specs.Prelude.{ℕ}

-- most names and claims of a sheet, most names in one list of a claim
abbrev pub name_limit : ℕ
name_limit = 128

abbrev pub claim_limit : ℕ
claim_limit = 64

abbrev pub list_limit : ℕ
list_limit = 8

-- the greatest bound of a count, and the field that stands for no upper end
abbrev pub bound_limit : ℕ
bound_limit = 65534

abbrev pub no_end : ℕ
no_end = 65535

-- the greatest mode
abbrev pub mode_limit : ℕ
mode_limit = 7

-- most rows of a register
abbrev pub row_limit : ℕ
row_limit = 2048

-- the number that stands for 'no greatest' in a reply
abbrev pub no_greatest : ℕ
no_greatest = 4294967295

-- bytes of the records of a reply, length field and kind among them: kind 17 (range and run), 18 (verdict), 19 (run and mark), 20 (group and rule)
abbrev pub range_bytes : ℕ
range_bytes = 20

abbrev pub verdict_bytes : ℕ
verdict_bytes = 6

abbrev pub shown_bytes : ℕ
shown_bytes = 14

abbrev pub answer_bytes : ℕ
answer_bytes = 8
