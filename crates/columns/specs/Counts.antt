-- How many members each group has, by its column.
use Rattle.std.specs.Prelude.{ℕ, ◌*◌, ◌≤◌, ◌≡◌, List, get_or}
use Rattle.laws.specs.Sum.{sum}
use Rattle.rows.specs.RowsRead.{word_bits}
use Rattle.columns.specs.Columns.{column_digit}

-- entry g of the table u is the number of ones of group g's column
pub record ColumnsCounted (t : List ℕ) (size words : ℕ) (u : List ℕ) : Type 0 where
  pub each : (g : ℕ) → 1 ≤ g → g ≤ size → get_or u g 0 ≡ sum (column_digit t g) (word_bits * words)
