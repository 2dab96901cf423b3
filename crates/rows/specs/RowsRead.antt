-- What the row decoder gives, and what reading all rows gives, under a sheet of either edition.
use Rattle.std.specs.Prelude.{ℕ, ◌/◌, ◌+◌, ◌*◌, zero, suc, ◌%◌, ◌<◌, ◌≤◌, ◌≡◌, Bool, cond, true, false, List, [], ◌∷◌, ◌++◌, drop, take, length, get_or, eqb, Option, None, Some, Result, Ok, Err}
use Rattle.rows.specs.declared.decode.RowFound.{RowFound}
use Rattle.laws.specs.Digit.{digit}
use Rattle.wire.specs.Edition.{Edition, group_limit, row_kind, row_length, row_bytes, row_head}
use Rattle.wire.specs.Member.{Member, one_member, is_side}
use Rattle.wire.specs.Record.{Test, refusal, Reading}
use Rattle.wire.specs.RegisterFormat.{Row, side_field, member_of, row_tests, row_of, last_member}
use Rattle.wire.specs.MemberKey.{key_member}
use Rattle.wire.specs.declared.refusals.Refusal.{Refusal}
use Rattle.wire.specs.declared.refusals.Fault.{Fault}
use Rattle.wire.specs.Refusals.{refusal_number, reading_of}

-- a word of membership bytes has eight of them, a bit for each of 64 groups, and so many words have those of a row
abbrev pub word_bytes : ℕ
word_bytes = 8

abbrev pub word_bits : ℕ
word_bits = 64

unfoldable pub row_words : Edition → ℕ
row_words e = group_limit e / word_bits

-- a row's length and kind, read as one field
abbrev pub row_frame : Edition → ℕ
row_frame e = row_length e + 65536 * row_kind e

-- what stands at an offset: no bytes at all; a row, with its member, whether it goes on with the member before, the offset of its
-- membership bytes and the offset after it; or a row that is turned back with a refusal's number
pub data Front : Type 0 where
  ended : Front
  held : Member → Bool → ℕ → ℕ → Front
  turned : ℕ → Front

-- what the decoder's answer, which has a member by its key, says of it
abbrev pub row_gives : Result (Option RowFound) Refusal → Front
row_gives (Ok None) = ended
row_gives (Ok (Some r)) = held (key_member r.key) r.joined r.bits r.next
row_gives (Err e) = turned (refusal_number e)

-- How the reader that walks the rows moves, from an offset and a key: behind the row that it found; where it found none, it stays.
abbrev pub Moved : Result (Option RowFound) Refusal → ℕ → ℕ → ℕ → ℕ → Type 0
Moved (Ok (Some r)) at last at' last' = (at' ≡ r.next) × (last' ≡ r.key)
Moved (Ok None) at last at' last' = (at' ≡ at) × (last' ≡ last)
Moved (Err e) at last at' last' = (at' ≡ at) × (last' ≡ last)

-- the row at an offset
abbrev pub row_held : Edition → List ℕ → ℕ → Member → Front
row_held e b at last = held (member_of (drop at b)) (one_member (member_of (drop at b)) last) (at + row_head) (at + row_bytes e)

-- 11, 15 and 12 are the first of a row's tests, and ask nothing of the sheet
abbrev pub front_tests : Edition → Member → List ℕ → List Test
front_tests e last b = take 3 (row_tests e 0 last b)

-- what stands at an offset of a register's bytes, behind the member `last` (`no_member` where no row is before)
unfoldable pub front_at : Edition → List ℕ → ℕ → Member → Front
front_at e b at last =
    cond (eqb (length (drop at b)) 0) ended
    (cond (eqb (refusal (front_tests e last (drop at b))) 0) (row_held e b at last) (turned (refusal (front_tests e last (drop at b)))))

-- the bytes from row i on, and the first n rows of a register
abbrev pub from_row : Edition → List ℕ → ℕ → List ℕ
from_row e b i = drop (row_bytes e * i) b

unfoldable pub rows_before : Edition → List ℕ → ℕ → List Row
rows_before e b zero = []
rows_before e b (suc n) = rows_before e b n ++ (row_of e (from_row e b n) ∷ [])

-- bit j of the bytes from an offset on, the lowest bit of each byte first
unfoldable pub bit_at : List ℕ → ℕ → ℕ → ℕ
bit_at b offset j = digit (get_or b (offset + j / 8) 0) (j % 8)

-- the digits of a word are the bits of word k of the bytes from an offset on
pub record WordAt (b : List ℕ) (offset k word : ℕ) : Type 0 where
  pub each : (j : ℕ) → j < word_bits → digit word j ≡ bit_at b offset (word_bits * k + j)

-- whether one of the n bits f is set that belong to groups above `groups`; bit j is that of group before + j + 1
pub record Above (groups before n : ℕ) (f : ℕ → ℕ) (r : Bool) : Type 0 where
  pub some : r ≡ true → (j : ℕ) × (groups ≤ before + j) × (j < n) × (f j ≡ 1)
  pub none : r ≡ false → (j : ℕ) → groups ≤ before + j → j < n → f j ≡ 0

-- what the number of rows of a register, or the refusal that its row meets, stands for
abbrev pub rows_give : Edition → List ℕ → Result ℕ Fault → Reading (List Row)
rows_give e b = reading_of (rows_before e b)

-- each of the first n rows stands at its offset, behind the rows before it: what is known of a register that was read
pub record RowsReadable (e : Edition) (b : List ℕ) (n : ℕ) : Type 0 where
  pub each : (i : ℕ) → i < n
      → front_at e b (row_bytes e * i) (last_member (rows_before e b i)) ≡ row_held e b (row_bytes e * i) (last_member (rows_before e b i))

-- a row of edition e stands whole at an offset, and has a side; so does each of the first n rows of a register that was read
pub record RowThere (e : Edition) (b : List ℕ) (at : ℕ) : Type 0 where
  pub whole : at + row_bytes e ≤ length b
  pub sided : is_side (side_field (drop at b)) ≡ true

pub record RowsThere (e : Edition) (b : List ℕ) (n : ℕ) : Type 0 where
  pub each : (i : ℕ) → i < n → RowThere e b (row_bytes e * i)
