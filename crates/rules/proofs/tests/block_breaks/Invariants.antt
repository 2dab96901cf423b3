-- The word is 0 where none of the members seen breaks the rule.
use Rattle.std.proofs.Common.{◌*◌}
use Rattle.rows.specs.RowsRead.{word_bits}
use Rattle.columns.specs.Columns.{block_members}
use Rattle.rules.specs.RuleTests.{member_breaks}
use Rattle.rules.proofs.WordLaws.{MembersSeen}
use Rattle.rules.proofs.tests.block_breaks.Given as goal

abbrev pub invariant-loop-w : goal.invariant-loop-w
invariant-loop-w l =
    MembersSeen (member_breaks l.rule l.columns.words.now l.joined.some.now l.joined.two.now l.g.0 l.p.0) (block_members * l.b) (word_bits * l.w) l.broken
