-- `tiles::tile::make_room` meets its contract.
use native.Mathlib.Omega.{arith}
use Rattle.tiles.proofs.TileLaws.{room_made}
use Rattle.tiles.proofs.tile.make_room.Goals as goal

pub returns : goal.returns
returns c = room_made c.requires.1.1.1.1.groups c.put_tile.ensures.0 c.put_tile.ensures.1 (omega arith)
