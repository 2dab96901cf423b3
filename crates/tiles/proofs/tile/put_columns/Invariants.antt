-- `tiles::tile::put_columns` meets its contract. Invariant: the words of the first j groups are put.
use Prim.Native.Nat.{◌≤◌}
use Rattle.rows.specs.RowsRead.{word_bits}
use Rattle.tiles.specs.TileSteps.{ColumnsPut}
use Rattle.tiles.proofs.tile.put_columns.Given as goal

abbrev pub invariant-loop-j : goal.invariant-loop-j
invariant-loop-j l = (l.j ≤ word_bits) × ColumnsPut l.transposed l.before l.j l.w l.initial.columns l.columns
