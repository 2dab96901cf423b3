-- The steps to the columns: the words of a row go into a tile, which has 64 members, and a tile into one word of each column.
-- Digits are by group and member.
use Rattle.std.specs.Prelude.{ℕ, ◌+◌, ◌-◌, ◌*◌, ◌/◌, ◌%◌, ◌<◌, max, ◌≤◌, ◌≡◌, cond, List, length, get_or, eqb, leb, ltb}
use Rattle.std.specs.Int.Bits.{bit_and}
use Rattle.laws.specs.Sum.{bit}
use Rattle.laws.specs.Digit.{digit}
use Rattle.laws.specs.Lowest.{Lowest}
use Rattle.wire.specs.Limits.{row_limit}
use Rattle.wire.specs.Capacity.{group_capacity}
use Rattle.wire.specs.Edition.{Edition}
use Rattle.rows.specs.RowsRead.{word_bits, bit_at, row_words}
use Rattle.columns.specs.Columns.{column_words, columns_length, column_digit}
use Rattle.columns.specs.ColumnSteps.{Put, MembersPut, of_word}

-- a tile has word k of its member i at 64 * k + i; the word's digits are the member's bits in 64 groups
unfoldable pub tile_digit : List ℕ → ℕ → ℕ → ℕ
tile_digit t g i = digit (get_or t (word_bits * ((g - 1) / word_bits) + i) 0) ((g - 1) % word_bits)

-- the bits of one member, in a tile: those of a word that comes after `before` groups; of the first k words of the bytes from a
-- offset on, and of a row
abbrev pub of_member : ℕ → (ℕ → ℕ) → ℕ → ℕ → ℕ
of_member m f g i = cond (eqb i m) (f g) 0

pub record MemberPut (f : ℕ → ℕ) (m : ℕ) (t u : List ℕ) : Type 0 where
  pub put : Put word_bits (of_member m f) (tile_digit t) (tile_digit u)

abbrev pub word_bit : ℕ → ℕ → ℕ → ℕ
word_bit word before g = cond (leb (before + 1) g) (digit word (g - 1 - before)) 0

abbrev pub WordPut : ℕ → ℕ → ℕ → List ℕ → List ℕ → Type 0
WordPut word before = MemberPut (word_bit word before)

abbrev pub first_bits : List ℕ → ℕ → ℕ → ℕ → ℕ
first_bits b offset k g = cond (ltb (g - 1) (word_bits * k)) (bit_at b offset (g - 1)) 0

abbrev pub RowPut : Edition → List ℕ → ℕ → ℕ → List ℕ → List ℕ → Type 0
RowPut ed b offset = MemberPut (first_bits b offset (row_words ed))

-- group g is the lowest set digit of a word whose digits are the groups after `before`
pub record LowestGroup (before word g : ℕ) : Type 0 where
  pub low_bit : ℕ
  pub within : low_bit < word_bits
  pub numbered : g ≡ before + low_bit + 1
  pub lowest : Lowest word low_bit (bit_and word (word - 1))

abbrev pub GroupPut : ℕ → ℕ → ℕ → List ℕ → List ℕ → Type 0
GroupPut h w m = MembersPut (of_member m (λ g. bit (eqb g h))) w

abbrev pub GroupsPut : ℕ → ℕ → ℕ → ℕ → List ℕ → List ℕ → Type 0
GroupsPut word before w m = MembersPut (of_member m (word_bit word before)) w

unfoldable pub next_groups : List ℕ → ℕ → ℕ → ℕ → ℕ → ℕ
next_groups l before n g j = cond (leb (before + 1) g) (cond (leb g (before + n)) (digit (get_or l (g - 1 - before) 0) j) 0) 0

abbrev pub ColumnsPut : List ℕ → ℕ → ℕ → ℕ → List ℕ → List ℕ → Type 0
ColumnsPut l before n = MembersPut (next_groups l before n)

unfoldable pub first_groups : List ℕ → ℕ → ℕ → ℕ → ℕ
first_groups t k g j = cond (ltb (g - 1) (word_bits * k)) (tile_digit t g j) 0

abbrev pub TilePut : List ℕ → ℕ → ℕ → List ℕ → List ℕ → Type 0
TilePut t k = MembersPut (first_groups t k)

-- what it asks to put the first `words` words of a tile's members as word w of the columns: all are within the tables, and there are two
-- tables to transpose in
pub record TileRoom (words w : ℕ) (tile columns transposed spare : List ℕ) : Type 0 where
  pub first : word_bits * words ≤ length tile
  pub groups : word_bits * words ≤ group_capacity
  pub word : w < column_words
  pub columns_long : columns_length ≤ length columns
  pub transposed_long : word_bits ≤ length transposed
  pub spare_long : word_bits ≤ length spare

-- the digits of columns, and of a tile that is to be their word w
abbrev pub all_digits : List ℕ → List ℕ → ℕ → ℕ → ℕ → ℕ
all_digits c t w g i = max (column_digit c g i) (of_word w (tile_digit t) g i)

-- from columns c and tile t behind w words to columns d and tile u behind v words: the digits are the same, and the last of so
-- many members is in the tile
pub record RoomMade (words members : ℕ) (c t : List ℕ) (w : ℕ) (d u : List ℕ) (v : ℕ) : Type 0 where
  pub same : (g i : ℕ) → 1 ≤ g → g ≤ word_bits * words → i < row_limit → all_digits d u v g i ≡ all_digits c t w g i
  pub begun : word_bits * v < members
  pub within : members ≤ word_bits * v + word_bits
