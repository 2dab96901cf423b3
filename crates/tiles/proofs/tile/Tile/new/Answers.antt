-- `tiles::tile::Tile::new` meets its contract.
use Rattle.wire.specs.Capacity.{group_capacity}
use Rattle.columns.proofs.ColumnLaws.{zeros_empty}
use Rattle.tiles.proofs.tile.Tile.new.Goals as goal

pub returns : goal.returns
returns c = record { each = λ w l. (zeros_empty group_capacity).each w }
