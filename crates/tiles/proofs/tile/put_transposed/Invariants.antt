-- `tiles::tile::put_transposed` meets its contract. Invariant: the groups of the first k words are put.
use Prim.Native.Nat.{◌≤◌}
use Rattle.tiles.specs.TileSteps.{TilePut}
use Rattle.tiles.proofs.tile.put_transposed.Given as goal

abbrev pub invariant-loop-k : goal.invariant-loop-k
invariant-loop-k l = (l.k ≤ l.words) × TilePut l.tile l.k l.w l.initial.columns l.columns
