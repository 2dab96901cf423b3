-- `tiles::tile::put_transposed` meets its contract. Invariant: the groups of the first k words are put.
use native.Mathlib.Omega.{arith}
use Rattle.tiles.proofs.TileLaws.{tile_put_none, tile_put_more}
use Rattle.tiles.proofs.tile.put_transposed.Goals as goal

pub loop-k-init : goal.loop-k-init
loop-k-init c = (omega arith, tile_put_none _ _ _)

pub loop-k-preserved : goal.loop-k-preserved
loop-k-preserved c =
    let l = c.loop-k.invariant in
    (omega arith, tile_put_more _ _ l.1 c.transpose.ensures c.put_columns.ensures)
