-- `rows::decode::word_above` meets its contract.
use Rattle.rows.proofs.RowBits.{above_shift}
use Rattle.rows.proofs.decode.word_above.Goals as goal

pub returns : goal.returns
returns c = rw c.saturating_sub.ensures (above_shift _ _ _ c.ranges.word.fits)
