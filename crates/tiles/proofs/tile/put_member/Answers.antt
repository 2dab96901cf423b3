-- `tiles::tile::put_member` meets its contract. Invariant: the groups of the first k words are put.
use native.Mathlib.Omega.{arith}
use mathlib.Core.Path.{refl}
use Rattle.tiles.proofs.TileLaws.{member_none, member_more}
use Rattle.tiles.proofs.tile.put_member.Goals as goal

pub loop-k-init : goal.loop-k-init
loop-k-init c = (omega arith, member_none _ _ _ _)

pub loop-k-preserved : goal.loop-k-preserved
loop-k-preserved c = (omega arith, member_more _ _ _ c.loop-k.invariant.1 refl (c.type_inv.tile _).fits c.put_groups.ensures)
