-- `tiles::tile::put_members` meets its contract. Invariant: the first i members are put.
use native.Mathlib.Omega.{arith}
use mathlib.Core.Path.{◌≡◌}
use Rattle.rows.specs.RowsRead.{word_bits}
use Rattle.tiles.proofs.TileLaws.{members_none, members_more, members_all}
use Rattle.tiles.proofs.tile.put_members.Goals as goal

pub loop-i-init : goal.loop-i-init
loop-i-init c = (omega arith, members_none _ _ _ _)

pub loop-i-preserved : goal.loop-i-preserved
loop-i-preserved c = (omega arith, members_more _ _ _ c.loop-i.invariant.1 c.put_member.ensures)

pub returns : goal.returns
returns c =
    let l = c.loop-i in
    let all : l.i ≡ word_bits = omega arith in
    members_all _ _ (rw all at l.invariant.1)
