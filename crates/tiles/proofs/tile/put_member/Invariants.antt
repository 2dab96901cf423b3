-- `tiles::tile::put_member` meets its contract. Invariant: the groups of the first k words are put.
use Prim.Native.Nat.{◌≤◌}
use Rattle.tiles.proofs.TileLaws.{MemberGroups}
use Rattle.tiles.proofs.tile.put_member.Given as goal

abbrev pub invariant-loop-k : goal.invariant-loop-k
invariant-loop-k l = (l.k ≤ l.words) × MemberGroups l.tile l.k l.w l.i l.initial.columns l.columns
