-- `Pair::join_one` meets its contract.
use mathlib.Core.Bool.{true, false}
use Rattle.spans.proofs.pair.Pair.join_one.Goals as goal

pub join-requires : goal.join-requires
join-requires c = (c.requires.0 true, c.requires.1 false)

pub join-requires-2 : goal.join-requires-2
join-requires-2 c = (c.requires.0 false, c.requires.1 true)
