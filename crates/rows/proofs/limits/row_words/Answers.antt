-- `rows::limits::row_words` meets its contract.
use Rattle.rows.specs.RowsRead.{row_words}
use Rattle.rows.proofs.limits.row_words.Goals as goal

pub returns : goal.returns
unfolding row_words
returns c = rw c.group_limit.ensures
