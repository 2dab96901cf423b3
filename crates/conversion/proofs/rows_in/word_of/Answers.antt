-- `word_of` meets its contract: a word that stands there, or 0 past the edition's.
use mathlib.Core.Path.{◌∙◌}
use native.Mathlib.Omega.{arith}
use Rattle.wire.specs.Edition.{edition_of}
use Rattle.wire.proofs.EditionFacts.{row_parts}
use Rattle.rows.proofs.RowBits.{words_bytes}
use Rattle.conversion.proofs.RowsLaws.{word_there, word_past}
use Rattle.conversion.proofs.rows_in.word_of.Goals as goal

pub u64_at-requires : goal.u64_at-requires
u64_at-requires c =
    let e = edition_of c.args.edition in
    omega (arith, c.requires.whole, words_bytes e, row_parts e, c.row_words.ensures, c.if-k-row_words.true)

pub returns-then-k-row_words : goal.returns-then-k-row_words
returns-then-k-row_words c =
    let a = c.args in
    c.u64_at.ensures
    ∙ word_there (edition_of a.edition) a.register.now a.at a.k (omega (arith, c.row_words.ensures, c.if-k-row_words.true))

pub returns-else-k-row_words : goal.returns-else-k-row_words
returns-else-k-row_words c =
    let a = c.args in
    word_past (edition_of a.edition) a.register.now a.at a.k (omega (arith, c.row_words.ensures, c.if-k-row_words.false))
