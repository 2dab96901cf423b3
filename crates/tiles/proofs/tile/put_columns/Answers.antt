-- `tiles::tile::put_columns` meets its contract. Invariant: the words of the first j groups are put.
use native.Mathlib.Omega.{arith}
use borrow.Author.Rules.{rules}
use mathlib.Core.Path.{◌≡◌}
use Rattle.std.proofs.lemmas.List.{get_or-take, length-take-le}
use Rattle.rows.specs.RowsRead.{word_bits}
use Rattle.tiles.proofs.TileLaws.{columns_put_none, columns_put_more}
use Rattle.tiles.proofs.tile.put_columns.Goals as goal

pub loop-j-init : goal.loop-j-init
loop-j-init c = (omega arith, columns_put_none _ _ _ _)

pub put_column_word-requires : goal.put_column_word-requires
put_column_word-requires c =
    let many = length-take-le word_bits c.args.transposed.now c.requires.1.1.0 in
    (omega (arith, many, c.loop-j-test.true), search rules)

pub loop-j-preserved : goal.loop-j-preserved
loop-j-preserved c =
    let many = length-take-le word_bits c.args.transposed.now c.requires.1.1.0 in
    let word = get_or-take word_bits c.args.transposed.now c.loop-j.j 0 (omega (arith, many, c.loop-j-test.true)) in
    (omega (arith, many, c.loop-j-test.true), columns_put_more _ _ _ c.loop-j.invariant.1 (rw word at c.put_column_word.ensures))

pub returns : goal.returns
returns c =
    let l = c.loop-j in
    let many = length-take-le word_bits c.args.transposed.now c.requires.1.1.0 in
    let all : l.j ≡ word_bits = omega (arith, many) in
    rw all at l.invariant.1
