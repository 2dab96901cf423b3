-- One word of each column: which digits a store sets beside those that are set. Digits are by group and member.
use Rattle.std.specs.Prelude.{ℕ, ◌≤◌, ◌<◌, max, ◌/◌, ◌%◌, ◌≡◌, cond, List, get_or, eqb}
use Rattle.laws.specs.Digit.{digit}
use Rattle.wire.specs.Limits.{row_limit}
use Rattle.wire.specs.Capacity.{group_capacity}
use Rattle.rows.specs.RowsRead.{word_bits}
use Rattle.columns.specs.Columns.{column_digit}

-- from the digits d to the digits e of n members, the digits f are set beside those that are
pub record Put (n : ℕ) (f d e : ℕ → ℕ → ℕ) : Type 0 where
  pub each : (g i : ℕ) → 1 ≤ g → g ≤ group_capacity → i < n → e g i ≡ max (d g i) (f g i)

-- the digits of the 64 members of word w: of one of them, for one group and for the groups of a word; of a word, for one group; of
-- n words, for the groups after `before`; of a tile, for the groups of its first k words
abbrev pub of_word : ℕ → (ℕ → ℕ → ℕ) → ℕ → ℕ → ℕ
of_word w f g i = cond (eqb (i / word_bits) w) (f g (i % word_bits)) 0

pub record MembersPut (f : ℕ → ℕ → ℕ) (w : ℕ) (t u : List ℕ) : Type 0 where
  pub put : Put row_limit (of_word w f) (column_digit t) (column_digit u)

abbrev pub ColumnPut : ℕ → ℕ → ℕ → List ℕ → List ℕ → Type 0
ColumnPut h w word = MembersPut (λ g j. cond (eqb g h) (digit word j) 0) w

-- the first words of a table are 0
pub record Cleared (words : ℕ) (t : List ℕ) : Type 0 where
  pub each : (w : ℕ) → w < words → get_or t w 0 ≡ 0

-- no digit is set
pub record Empty (t : List ℕ) : Type 0 where
  pub each : (i : ℕ) → get_or t i 0 ≡ 0
