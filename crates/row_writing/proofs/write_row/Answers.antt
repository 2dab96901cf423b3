-- `write_row` meets its contract: its front and its words are the bytes of the row.
use native.Mathlib.Omega.{arith}
use Rattle.laws.proofs.SetsLaws.{sets_then}
use Rattle.wire.specs.Bytes.{le16, le32}
use Rattle.wire.specs.Edition.{edition_of}
use Rattle.wire.proofs.EditionFacts.{row_parts}
use Rattle.wire.specs.Member.{Member, side_number}
use Rattle.rows.specs.Sides.{side_meant}
use Rattle.rows.specs.RowsRead.{row_words}
use Rattle.rows.proofs.RowBits.{words_bytes}
use Rattle.row_writing.proofs.WordsRowLaws.{bytes_of, front_bytes, row_bytes_law}
use Rattle.row_writing.proofs.write_row.Goals as goal

pub put_front-requires : goal.put_front-requires
put_front-requires c = let e = edition_of c.args.edition in omega (arith, row_parts e)

pub put_words-requires : goal.put_words-requires
put_words-requires c = let e = edition_of c.args.edition in omega (arith, row_parts e, words_bytes e)

pub returns : goal.returns
unfolding le16 le32
returns c =
    let a = c.args in
    let e = edition_of a.edition in
    let m : Member = record { number = a.number; side = side_meant a.side } in
    rw (row_bytes_law e m a.words.now a.first c.requires.0)
    (sets_then (front_bytes e m.number (side_number m.side)) (bytes_of a.words.now a.first (row_words e)) a.out.now a.at
    c.put_front.ensures c.put_words.ensures)
