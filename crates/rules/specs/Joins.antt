-- The columns of several groups put together, word by word: who is in some of them, and who is in two.
use Rattle.std.specs.Prelude.{ℕ, ◌<◌, ◌+◌, ◌-◌, ◌*◌, min, ◌≡◌, Bool, ◌&&◌, ◌||◌, true, List, [], ◌∷◌, get_or}
use Rattle.std.specs.Int.Bits.{bit_and, bit_or}
use Rattle.tables.specs.Modes.{disjoint_mode, cover_mode}
use Rattle.rows.specs.RowsRead.{word_bits}
use Rattle.columns.specs.Columns.{column_word, column_digit}

-- group g's column is put to those before
pub record ColumnJoined (t : List ℕ) (g words : ℕ) (some two some' two' : List ℕ) : Type 0 where
  pub some_word : (w : ℕ) → w < words → get_or some' w 0 ≡ bit_or (get_or some w 0) (get_or t (column_word g w) 0)
  pub two_word : (w : ℕ) → w < words → get_or two' w 0 ≡ bit_or (get_or two w 0) (bit_and (get_or some w 0) (get_or t (column_word g w) 0))

-- the sum of f over a list of groups
unfoldable pub total : (ℕ → ℕ) → List ℕ → ℕ
total f [] = 0
total f (g ∷ l) = f g + total f l

-- in how many groups of the list member i is
abbrev pub held_by : List ℕ → List ℕ → ℕ → ℕ
held_by t l i = total (λ g. column_digit t g i) l

-- digit i of `some` and of `two` tells whether member i is in some group of the list, and whether in two
pub record Joined (l t : List ℕ) (words : ℕ) (some two : List ℕ) : Type 0 where
  pub in_some : (i : ℕ) → i < word_bits * words → column_digit some 0 i ≡ min 1 (held_by t l i)
  pub in_two : (i : ℕ) → i < word_bits * words → column_digit two 0 i ≡ min 1 (held_by t l i - 1)

-- whether rule 3 or rule 4 asks for the sons of a group
abbrev pub asks_sons : ℕ → Bool → Bool
asks_sons mode several = cover_mode mode || disjoint_mode mode && several

-- the columns of a group's sons are joined where they are asked for
pub record JoinedFor (mode : ℕ) (several : Bool) (l t : List ℕ) (words : ℕ) (some two : List ℕ) : Type 0 where
  pub joined : asks_sons mode several ≡ true → Joined l t words some two
