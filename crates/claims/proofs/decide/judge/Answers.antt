-- `judge` meets its contract.
use Rattle.claims.specs.Named.{claim_meant}
use Rattle.claims.proofs.decide.judge.Goals as goal

pub returns-in-Count-clause-judged : goal.returns-in-Count-clause-judged
unfolding claim_meant
returns-in-Count-clause-judged c = rw c.in-Count.is (rw c.meant_by.ensures at c.judge_count.ensures.judged)

pub returns-in-Lists-clause-judged : goal.returns-in-Lists-clause-judged
unfolding claim_meant
returns-in-Lists-clause-judged c = rw c.in-Lists.is c.judge_names.ensures
