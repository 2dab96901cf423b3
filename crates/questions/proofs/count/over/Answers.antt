-- `over` meets its contract.
use Rattle.questions.proofs.CountsLaws.{sized_over, over_never}
use Rattle.questions.proofs.count.over.Goals as goal

pub returns-then-hi-ne-NO_END-clause-sized : goal.returns-then-hi-ne-NO_END-clause-sized
returns-then-hi-ne-NO_END-clause-sized c = sized_over c.args.g.0 c.args.hi c.if-hi-ne-NO_END.true c.sets_between.ensures.sized

pub returns-else-hi-ne-NO_END-clause-sized : goal.returns-else-hi-ne-NO_END-clause-sized
returns-else-hi-ne-NO_END-clause-sized c = over_never c.args.g.0 c.args.hi c.if-hi-ne-NO_END.false
