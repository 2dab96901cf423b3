-- `tiles::tile::put_word` meets its contract.
use Rattle.tiles.proofs.TileLaws.{word_put}
use Rattle.tiles.proofs.tile.put_word.Goals as goal

pub returns : goal.returns
returns c = word_put _ _ _ _ c.ranges.word.fits c.requires.0 c.requires.1.0 c.requires.1.1
