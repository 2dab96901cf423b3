-- `judge_empty` meets its contract.
use Rattle.std.proofs.Common.{arith}
use Rattle.questions.proofs.CountsLaws.{empty_kept, empty_count}
use Rattle.questions.proofs.count.judge_empty.Goals as goal

pub returns-then-lo-ne0 : goal.returns-then-lo-ne0
returns-then-lo-ne0 c = λ hi. empty_count c.args.lo hi c.args.groups.now.tabled.tree (omega arith) c.any_sets.ensures

pub returns-else-lo-ne0 : goal.returns-else-lo-ne0
returns-else-lo-ne0 c = λ hi. empty_kept c.args.lo hi c.if-lo-ne0.false
