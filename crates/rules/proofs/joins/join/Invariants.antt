-- The column is put to the words below w.
use Rattle.std.proofs.Common.{get_or}
use lib.Bits.{bit_and, bit_or}
use Rattle.columns.specs.Columns.{column_word}
use Rattle.columns.proofs.ColumnLaws.{WordsTo}
use Rattle.rules.proofs.joins.join.Given as goal

abbrev pub invariant-loop-w : goal.invariant-loop-w
invariant-loop-w l = record {
  some : WordsTo (λ v. bit_or (get_or l.initial.some v 0) (get_or l.columns.words.now (column_word l.son.0 v) 0)) l.w l.initial.some l.some;
  two : WordsTo (λ v. bit_or (get_or l.initial.two v 0) (bit_and (get_or l.initial.some v 0) (get_or l.columns.words.now (column_word l.son.0 v) 0)))
      l.w l.initial.two l.two;
}
