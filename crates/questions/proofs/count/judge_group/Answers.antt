-- `judge_group` meets its contract.
use Rattle.tables.proofs.SheetInLaws.{group_in_law}
use Rattle.questions.proofs.CountsLaws.{under_judged, over_judged}
use Rattle.questions.proofs.count.judge_group.Goals as goal

pub returns-then-under-clause-judged : goal.returns-then-under-clause-judged
returns-then-under-clause-judged c =
    let q = group_in_law c.args.groups.now c.args.size c.requires.asked.1 c.requires.asked.2 in
    let e = c.if-under.true in
    rw e (under_judged c.args.g.0 c.args.lo _ c.requires.tabled.tree q (rw e at c.under.ensures.sized))

pub returns-else-under-clause-judged : goal.returns-else-under-clause-judged
returns-else-under-clause-judged c =
    let q = group_in_law c.args.groups.now c.args.size c.requires.asked.1 c.requires.asked.2 in
    over_judged c.args.g.0 c.args.lo _ c.requires.tabled.tree q (rw c.if-under.false at c.under.ensures.sized)
    (rw c.under.ensures.groups_unchanged at c.over.ensures.sized)
