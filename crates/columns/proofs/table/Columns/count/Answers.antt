-- `columns::table::Columns::count` meets its contract.
use Prim.Native.Nat.{ℕ, ◌<◌, ◌≤◌, ◌+◌, ◌*◌, ◌-◌, ◌^◌}
use mathlib.Core.Path.{◌≡◌, ◌∙◌}
use lib.ListN.{get_or, length, drop}
use lib.Seq.{get_or-drop}
use Rattle.std.proofs.lemmas.List.{get_or-take}
use native.Mathlib.Omega.{arith}
use Rattle.laws.specs.Sum.{sum}
use Rattle.rows.specs.RowsRead.{word_bits}
use Rattle.columns.specs.Columns.{column_digit, column_stride, column_word}
use Rattle.columns.proofs.CountLaws.{ones_column, count_most}
use Rattle.columns.proofs.table.Columns.count.Goals.{After-ones}
use Rattle.columns.proofs.table.Columns.count.Goals as goal

counted : (c : After-ones) → c.ones.result ≡ sum (column_digit c.args.self.now.words.now c.args.g.0) (word_bits * c.args.words)
counted c =
    let a = c.args in
    let words = a.self.now.words.now in
    let start = column_stride * a.g.0 in
    let within : column_word a.g.0 a.words ≤ length words = omega (arith, a.self.now.long) in
    let many : start + a.words - start ≡ a.words = omega arith in
    let ones = rw many at c.ones.ensures in
    let fits : (w : ℕ) → w < a.words → get_or words (column_word a.g.0 w) 0 < 2 ^ 64 =
    λ w l. rw (get_or-take a.words (drop start words) w 0 l, get_or-drop start words w 0) at (ones.1 w) in
    ones.0 ∙ ones_column words a.g.0 a.words fits within

pub overflow_cast-result : goal.overflow_cast-result
overflow_cast-result c = let a = c.args in omega (arith, counted c, count_most a.self.now.words.now a.g.0 (word_bits * a.words))

pub returns : goal.returns
returns c = counted c
