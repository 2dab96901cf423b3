-- `columns::table::Columns::new` meets its contract.
use Rattle.columns.specs.Columns.{columns_length}
use Rattle.columns.proofs.ColumnLaws.{zeros_empty}
use Rattle.columns.proofs.table.Columns.new.Goals as goal

pub returns : goal.returns
returns c = zeros_empty columns_length
