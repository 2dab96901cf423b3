-- Each rule's test.
use Rattle.std.proofs.Common.{arith, ◌∙◌, sym}
use borrow.Author.Tests.{lt-ltb, le-ltb, ne_eqb}
use Rattle.rules.specs.RuleTests.{may_break}
use Rattle.rules.proofs.EntryLaws.{entry_read}
use Rattle.rules.proofs.tests.may_break.Goals as goal

pub returns-in-1 : goal.returns-in-1
unfolding may_break
returns-in-1 c = rw (c.in-1.is, c.requires.3)

pub returns-then-p-gt0 : goal.returns-then-p-gt0
unfolding may_break
returns-then-p-gt0 c =
    let read = c.index-groups-index.is in
    let e = sym read ∙ entry_read c.args.groups.now c.args.p.0 _ _ (omega arith) (omega arith) c.index.ensures read in
    rw (c.in-2.is, ← c.requires.3, lt-ltb 0 c.args.p.0 c.if-p-gt0.true, c.is_same.ensures, e)

pub returns-else-p-gt0 : goal.returns-else-p-gt0
unfolding may_break
returns-else-p-gt0 c = rw (c.in-2.is, ← c.requires.3, le-ltb 0 c.args.p.0 c.if-p-gt0.false)

pub returns-in-3 : goal.returns-in-3
unfolding may_break
returns-in-3 c =
    let read = c.index-groups-index-in-3.is in
    let e = sym read ∙ entry_read c.args.groups.now c.args.g.0 _ _ c.requires.0 c.requires.1 c.index-in-3.ensures read in
    rw (c.in-3.is, c.is_cover.ensures, e)

pub returns-then-is_disjoint : goal.returns-then-is_disjoint
unfolding may_break
returns-then-is_disjoint c =
    let q = c.args in
    let read = c.index-groups-index-in_default.is in
    let e = sym read ∙ entry_read c.args.groups.now c.args.g.0 _ _ c.requires.0 c.requires.1 c.index-in_default.ensures read in
    rw (
      ne_eqb q.rule 1 (λ e. omega arith),
      ne_eqb q.rule 2 (λ e. omega arith),
      ne_eqb q.rule 3 (λ e. omega arith),
      c.several.ensures,
      ← e,
      ← c.is_disjoint.ensures,
      c.if-is_disjoint.true,
    )

pub returns-else-is_disjoint : goal.returns-else-is_disjoint
unfolding may_break
returns-else-is_disjoint c =
    let q = c.args in
    let read = c.index-groups-index-in_default.is in
    let e = sym read ∙ entry_read c.args.groups.now c.args.g.0 _ _ c.requires.0 c.requires.1 c.index-in_default.ensures read in
    rw (
      ne_eqb q.rule 1 (λ e. omega arith),
      ne_eqb q.rule 2 (λ e. omega arith),
      ne_eqb q.rule 3 (λ e. omega arith),
      ← e,
      ← c.is_disjoint.ensures,
      c.if-is_disjoint.false,
    )
