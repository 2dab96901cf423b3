-- All groups of the list but those from `son` on are joined.
use Rattle.std.proofs.Common.{drop}
use Rattle.sons.specs.SonLists.{kept_sons}
use Rattle.rules.proofs.JoinLaws.{JoinedBut}
use Rattle.rules.proofs.joins.join_sons.Given as goal

abbrev pub invariant-loop-son : goal.invariant-loop-son
invariant-loop-son l =
    let listed = kept_sons l.sons.starts.now l.sons.order.now l.fn.g.0 in
    JoinedBut listed (drop l.son-index listed) l.columns.words.now l.words l.some l.two
