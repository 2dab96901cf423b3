-- `under` meets its contract.
use Rattle.std.proofs.Common.{◌-◌, arith}
use Rattle.questions.proofs.CountsLaws.{sized_under}
use Rattle.questions.proofs.count.under.Goals as goal

pub returns-then-lo-ne0-clause-sized : goal.returns-then-lo-ne0-clause-sized
returns-then-lo-ne0-clause-sized c =
    sized_under c.args.g.0 c.args.lo (c.args.lo - 1) (omega arith) (omega arith) c.sets_between.ensures.sized
