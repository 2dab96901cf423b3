-- The words of the block, one after the other.
use Rattle.std.proofs.Common.{arith}
use Rattle.rules.proofs.WordLaws.{members_seen_more}
use Rattle.rules.proofs.tests.block_breaks.Goals as goal

pub loop-w-preserved : goal.loop-w-preserved
loop-w-preserved c = members_seen_more c.loop-w.invariant (omega arith) c.breaking-broken.ensures (omega arith)
