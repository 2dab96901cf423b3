-- `put_words` meets its contract: two words, or two and two more.
use native.Mathlib.Omega.{arith}
use Rattle.wire.specs.Edition.{edition_of}
use Rattle.rows.proofs.RowBits.{words_least, words_two, words_four}
use Rattle.row_writing.proofs.WordsRowLaws.{four_words}
use Rattle.row_writing.proofs.put_words.Goals as goal

pub put_two-requires : goal.put_two-requires
put_two-requires c = omega (arith, c.requires, words_least (edition_of c.args.edition))

pub put_two-requires-then-row_words-gt2 : goal.put_two-requires-then-row_words-gt2
put_two-requires-then-row_words-gt2 c =
    omega (arith, c.requires, words_four (edition_of c.args.edition) (omega (arith, c.row_words.ensures, c.if-row_words-gt2.true)))

pub returns-then-row_words-gt2 : goal.returns-then-row_words-gt2
returns-then-row_words-gt2 c =
    let four = words_four (edition_of c.args.edition) (omega (arith, c.row_words.ensures, c.if-row_words-gt2.true)) in
    rw four
    (four_words c.args.words.now c.args.first (omega (arith, c.requires.0, four)) c.args.out.now c.args.at
    c.put_two.ensures c.put_two-then-row_words-gt2.ensures)

pub returns-else-row_words-gt2 : goal.returns-else-row_words-gt2
returns-else-row_words-gt2 c =
    rw (words_two (edition_of c.args.edition) (omega (arith, c.row_words.ensures, c.if-row_words-gt2.false)))
    c.put_two.ensures
