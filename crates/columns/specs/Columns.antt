-- Membership as columns: for each group a column of digits, 64 members a word, member i being digit i mod 64 of word i div 64.
-- A table has the columns in the order of the groups' numbers.
use Rattle.std.specs.Prelude.{ℕ, ◌*◌, ◌+◌, ◌/◌, ◌%◌, ◌≤◌, ◌<◌, ◌≡◌, Bool, List, get_or, length, eqb}
use Rattle.laws.specs.Sum.{bit}
use Rattle.laws.specs.Digit.{digit}
use Rattle.wire.specs.Limits.{row_limit}
use Rattle.wire.specs.RegisterFormat.{Row}
use Rattle.meaning.specs.Sets.{Sets, numbered}
use Rattle.meaning.specs.OfRecords.{members}
use Rattle.meaning.specs.MemberIn.{member_in}
use Rattle.tables.specs.Groups.{group_numbers}
use Rattle.rows.specs.RowsRead.{word_bits}

-- the words of a column: a digit for each member, who are no more than the rows
abbrev pub column_words : ℕ
column_words = 32

-- so many words are looked at together, and so many members with them
abbrev pub block_words : ℕ
block_words = 8

abbrev pub block_members : ℕ
block_members = word_bits * block_words

-- columns stand so many words apart, more than they have
abbrev pub column_stride : ℕ
column_stride = column_words + 8

abbrev pub columns_length : ℕ
columns_length = column_stride * group_numbers

-- where word w of group g's column stands
abbrev pub column_word : ℕ → ℕ → ℕ
column_word g w = column_stride * g + w

-- digit i of group g's column
unfoldable pub column_digit : List ℕ → ℕ → ℕ → ℕ
column_digit t g i = digit (get_or t (column_word g (i / word_bits)) 0) (i % word_bits)

unfoldable pub in_column : List ℕ → ℕ → ℕ → Bool
in_column t g i = eqb (column_digit t g i) 1

-- the sets that the columns list of n members
abbrev pub column_sets : List ℕ → ℕ → Sets ℕ
column_sets t n = numbered n (in_column t)

-- so many words have a digit for each of n members, and a column has as many
pub record WordsFor (n words : ℕ) : Type 0 where
  pub enough : n ≤ word_bits * words
  pub most : words ≤ column_words

-- and so many blocks of words
abbrev pub BlocksFor : ℕ → ℕ → Type 0
BlocksFor n blocks = WordsFor n (block_words * blocks)

-- the columns of n members have a digit for each member of the rows, in the groups of all its rows, and no others; so many groups
-- are looked at
pub record ColumnsFilled (groups : ℕ) (rs : List Row) (n : ℕ) (t : List ℕ) : Type 0 where
  pub number : n ≡ length (members rs)
  pub each : (g i : ℕ) → 1 ≤ g → g ≤ groups → i < row_limit → column_digit t g i ≡ bit (member_in rs i g)
