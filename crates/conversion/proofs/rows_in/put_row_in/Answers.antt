-- `put_row_in` meets its contract: the row of the fields and words that were read is the row in the other edition.
use mathlib.Core.Path.{◌∙◌, ap, sym}
use mathlib.Core.Bool.{true≢false}
use native.Mathlib.Omega.{arith}
use lib.Seq.{sets}
use Rattle.wire.specs.Edition.{edition_of}
use Rattle.wire.specs.Encoding.{encode_row}
use Rattle.wire.proofs.EditionFacts.{row_parts}
use Rattle.conversion.proofs.RowsLaws.{row_in_read, side_there, words_most}
use Rattle.conversion.proofs.rows_in.put_row_in.Goals as goal

pub u32_at-number-requires : goal.u32_at-number-requires
u32_at-number-requires c = omega (arith, c.requires.0.whole, row_parts (edition_of c.args.from))

pub u16_at-requires : goal.u16_at-requires
u16_at-requires c = omega (arith, c.requires.0.whole, row_parts (edition_of c.args.from))

-- the row that stands there has a side
pub unreachable-requires : goal.unreachable-requires
unreachable-requires c =
    let a = c.args in
    true≢false (sym (side_there (edition_of a.from) a.register.now a.at c.requires.0 c.u16_at.ensures) ∙ (rw c.in_default.is at c.from_number.ensures))

pub write_row-requires : goal.write_row-requires
write_row-requires c = (omega (arith, words_most (edition_of c.args.edition)), c.requires.1)

pub returns : goal.returns
returns c =
    let a = c.args in
    let e = edition_of a.edition in
    c.write_row.ensures
    ∙ ap (λ r. sets a.out.now a.to (encode_row e r))
    (rw c.in-Some.ensures.1 at (row_in_read e (edition_of a.from) a.register.now
    (λ i. (c.type_inv.register i).fits) a.at c.u32_at-number.ensures c.u16_at.ensures
    c.word_of.ensures c.word_of-2.ensures
    c.word_of-3.ensures c.word_of-4.ensures))
