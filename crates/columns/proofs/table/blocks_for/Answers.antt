-- `columns::table::blocks_for` meets its contract.
use native.Mathlib.Omega.{arith}
use Rattle.columns.proofs.table.blocks_for.Goals as goal

pub returns : goal.returns
returns c = record { enough = omega arith; most = omega arith }
