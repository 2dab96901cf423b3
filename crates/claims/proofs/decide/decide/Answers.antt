-- `decide` meets its contract.
use Rattle.claims.proofs.DecidedLaws.{showing_shows, decided_shown}
use Rattle.claims.proofs.decide.decide.Goals as goal

pub returns-then-judge-clause-decided : goal.returns-then-judge-clause-decided
returns-then-judge-clause-decided c =
    let k = c.requires.tabled in
    let j = c.judge.ensures in
    let d = j.judged.found c.if-judge.true in
    let t = rw j.groups_unchanged at c.start_runs.ensures in
    decided_shown (c.verdict_on.ensures _ _) (showing_shows k.tree k.rooted d t)
