-- `judge_count` meets its contract.
use Rattle.questions.proofs.count.judge_count.Goals as goal

pub returns-in-None-clause-judged : goal.returns-in-None-clause-judged
returns-in-None-clause-judged c = rw c.in-None.is (c.judge_empty.ensures _)
