-- `rows::decode::key_of` meets its contract.
use native.Mathlib.Omega.{arith}
use Rattle.wire.proofs.MemberFacts.{side_some}
use Rattle.wire.proofs.MemberKeyLaws.{key_made}
use Rattle.rows.proofs.decode.key_of.Goals as goal

pub overflow_sub-result : goal.overflow_sub-result
overflow_sub-result c = let s = side_some _ c.requires in omega arith

pub returns : goal.returns
returns c = key_made _ _ c.requires
