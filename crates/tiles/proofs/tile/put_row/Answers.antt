-- `tiles::tile::put_row` meets its contract: its first two words are put, and where it has four the other two.
use native.Mathlib.Omega.{arith}
use Rattle.wire.specs.Edition.{edition_of}
use Rattle.rows.proofs.RowBits.{words_bytes, words_least, words_two, words_four}
use Rattle.tiles.proofs.TileLaws.{bits_none, bits_more}
use Rattle.tiles.proofs.tile.put_row.Goals.{After-put_word-2}
use Rattle.tiles.proofs.tile.put_row.Goals as goal

pub word_at-requires : goal.word_at-requires
word_at-requires c =
    let ed = edition_of c.args.edition in
    omega (arith, words_bytes ed, words_least ed, c.requires.0)

pub word_at-requires-2 : goal.word_at-requires-2
word_at-requires-2 c =
    let ed = edition_of c.args.edition in
    omega (arith, words_bytes ed, words_least ed, c.requires.0)

pub word_at-requires-then-row_words-gt2 : goal.word_at-requires-then-row_words-gt2
word_at-requires-then-row_words-gt2 c =
    let ed = edition_of c.args.edition in
    omega (arith, words_bytes ed, words_four ed (omega (arith, c.row_words.ensures)), c.requires.0)

pub word_at-requires-then-row_words-gt2-2 : goal.word_at-requires-then-row_words-gt2-2
word_at-requires-then-row_words-gt2-2 c =
    let ed = edition_of c.args.edition in
    omega (arith, words_bytes ed, words_four ed (omega (arith, c.row_words.ensures)), c.requires.0)

pub returns-then-row_words-gt2 : goal.returns-then-row_words-gt2
returns-then-row_words-gt2 c =
    let one = bits_more (bits_none c.args.register.now c.args.offset c.args.i c.args.tile.now) c.word_at.ensures c.word_at.type_inv c.put_word.ensures in
    let two = bits_more one c.word_at-2.ensures c.word_at-2.type_inv c.put_word-2.ensures in
    let three = bits_more two c.word_at-then-row_words-gt2.ensures c.word_at-then-row_words-gt2.type_inv c.put_word-then-row_words-gt2.ensures in
    rw (words_four (edition_of c.args.edition) (omega (arith, c.if-row_words-gt2.true, c.row_words.ensures)))
    (bits_more three c.word_at-then-row_words-gt2-2.ensures c.word_at-then-row_words-gt2-2.type_inv c.put_word-then-row_words-gt2-2.ensures)

pub returns-else-row_words-gt2 : goal.returns-else-row_words-gt2
returns-else-row_words-gt2 c =
    let one = bits_more (bits_none c.args.register.now c.args.offset c.args.i c.args.tile.now) c.word_at.ensures c.word_at.type_inv c.put_word.ensures in
    let two = bits_more one c.word_at-2.ensures c.word_at-2.type_inv c.put_word-2.ensures in
    rw (words_two (edition_of c.args.edition) (omega (arith, c.row_words.ensures, c.if-row_words-gt2.false))) two
