-- `tiles::tile::put_members` meets its contract. Invariant: the first i members are put.
use Prim.Native.Nat.{◌≤◌}
use Rattle.rows.specs.RowsRead.{word_bits}
use Rattle.tiles.proofs.TileLaws.{FirstMembers}
use Rattle.tiles.proofs.tile.put_members.Given as goal

abbrev pub invariant-loop-i : goal.invariant-loop-i
invariant-loop-i l = (l.i ≤ word_bits) × FirstMembers l.tile l.words l.i l.w l.initial.columns l.columns
