-- A count below `lo`, and one above an upper end.
use Rattle.std.proofs.Common.{arith}
use borrow.Author.Tests.{ne_eqb}
use Rattle.rules.specs.RuleTests.{count_breaks}
use Rattle.rules.proofs.EntryLaws.{entry_read}
use Rattle.rules.proofs.tests.count_breaks.Goals as goal

pub returns-in-5 : goal.returns-in-5
unfolding count_breaks
returns-in-5 c =
    let e = entry_read c.args.groups.now c.args.g.0 _ _ c.requires.0 c.requires.1 c.index.ensures c.index-groups-index.is in
    rw (c.in-5.is, e)

pub returns-then-group : goal.returns-then-group
unfolding count_breaks
returns-then-group c =
    let e = entry_read c.args.groups.now c.args.g.0 _ _ c.requires.0 c.requires.1 c.index.ensures c.index-groups-index.is in
    rw (ne_eqb c.args.rule 5 (λ e. omega arith), ← e, ne_eqb _ _ c.if-group.true)

pub returns-else-group : goal.returns-else-group
unfolding count_breaks
returns-else-group c =
    let e = entry_read c.args.groups.now c.args.g.0 _ _ c.requires.0 c.requires.1 c.index.ensures c.index-groups-index.is in
    rw (ne_eqb c.args.rule 5 (λ e. omega arith), ← e, c.if-group.false)
