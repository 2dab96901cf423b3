-- What the tests of a rule ask of the tables: words, blocks and groups are within them.
use Rattle.std.specs.Prelude.{ℕ, ◌≤◌, ◌+◌, ◌*◌, ◌<◌, List, length}
use Rattle.wire.specs.Capacity.{group_capacity}
use Rattle.columns.specs.Columns.{column_words, block_words}
use Rattle.tables.specs.declared.groups.GroupNo.{GroupNo}
use Rattle.sons.specs.SonSteps.{SonsReadable}

-- what is asked for to join the columns of group g's sons
pub record Joinable (words : ℕ) (starts : List ℕ) (order : List GroupNo) (g : ℕ) (some two : List ℕ) : Type 0 where
  pub readable : SonsReadable starts order g
  pub most : words ≤ column_words
  pub some_words : words ≤ length some
  pub two_words : words ≤ length two

-- what the test of one block asks: block and groups are within the tables
pub record BlockAsked (some two : List ℕ) (b g p : ℕ) : Type 0 where
  pub block : block_words * (b + 1) ≤ column_words
  pub last : g ≤ group_capacity
  pub parent_last : p ≤ group_capacity
  pub some_words : block_words * (b + 1) ≤ length some
  pub two_words : block_words * (b + 1) ≤ length two

-- what the test of one word asks: word and groups are within the tables
pub record WordAsked (some two : List ℕ) (w g p : ℕ) : Type 0 where
  pub word : w < column_words
  pub last : g ≤ group_capacity
  pub parent_last : p ≤ group_capacity
  pub some_words : w < length some
  pub two_words : w < length two
