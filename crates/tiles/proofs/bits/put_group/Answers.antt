-- `tiles::bits::put_group` meets its contract.
use Rattle.laws.proofs.Digits.{one_shifted}
use Rattle.tiles.proofs.BitLaws.{group_put}
use Rattle.tiles.proofs.bits.put_group.Goals as goal

pub returns : goal.returns
returns c = group_put _ _ (rw (one_shifted c.args.i c.requires.1.1.0) at c.put_column_word.ensures)
