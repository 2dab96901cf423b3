-- `arrange` meets its contract: sizes, then starts.
use Rattle.std.proofs.Common.{arith}
use Rattle.ranging.proofs.SizedLaws.{table_placeable, table_arranged}
use Rattle.ranging.proofs.arrange.arrange.Goals as goal

pub start_runs-requires : goal.start_runs-requires
start_runs-requires c =
    table_placeable c.requires.arrangeable _ c.size_groups.ensures _ _
    (omega arith) (omega arith) (omega arith)

pub returns : goal.returns
returns c =
    table_arranged c.requires.arrangeable c.size_groups.new.sizes c.size_groups.ensures _
    c.start_runs.ensures
