-- `columns::table::put_column_word` meets its contract.
use borrow.Author.Rules.{rules}
use Rattle.columns.proofs.ColumnLaws.{column_put}
use Rattle.columns.proofs.table.put_column_word.Goals as goal

pub returns : goal.returns
returns c = column_put _ _ _ _ (search rules) (search rules) (search rules)
