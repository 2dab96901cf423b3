-- What is passed is clear; the scan stops at the first rule that is broken.
use Rattle.std.proofs.Common.{arith, refl, sym, true, false, ◌≡◌, ◌∙◌, ◌+◌, ◌*◌, ◌<◌, ◌≤◌}
use borrow.Author.Tests.{ltb-true, ltb-false}
use Rattle.tables.specs.Groups.{parent_in}
use Rattle.tables.proofs.SheetInLaws.{size_in, group_in_law, parent_below}
use Rattle.columns.specs.Columns.{block_members}
use Rattle.rules.proofs.JoinLaws.{sons_readable}
use Rattle.registers.proofs.ScanLaws.{number_at, parent_number}
use Rattle.registers.proofs.ScanLaws.{groups_more, scan_fits, rules_member, rules_not, rules_count, scan_member, scan_count}
use Rattle.registers.proofs.check.scan.Goals.{After-unwrap_or-parent, After-number-number, After-is_of_members}
use Rattle.registers.proofs.check.scan.Goals.{then-is_of_members+then-may_break+else-loop-b-test, then-is_of_members+else-may_break}
use Rattle.registers.proofs.check.scan.Goals.{else-is_of_members+else-count_breaks}
use Rattle.registers.proofs.check.scan.Goals as goal

-- the parent's number, which is below the group's
parent : (c : After-unwrap_or-parent) → c.unwrap_or-parent.result.0 ≡ parent_in c.args.groups.now.table.now c.scan.g
parent c = rw (c.unwrap_or-parent.ensures, parent_number c.get.result.parent, c.get.ensures)

below : (c : After-unwrap_or-parent) → parent_in c.args.groups.now.table.now c.scan.g < c.scan.g
below c = parent_below c.args.groups.now.tabled _ _ (omega arith) refl (omega arith)

-- the rule's number
number : (c : After-number-number) → c.number-number.result ≡ c.loop-rule.rule-index + 1
number c = c.number-number.ensures ∙ number_at _ _ c.loop-rule-test.true

-- whether the rule is one of the first four
few : (c : After-is_of_members) → c.is_of_members.result ≡ true → c.number-number.result < 5
few c e = rw c.number-number.ensures (ltb-true _ _ (sym c.is_of_members.ensures ∙ e))

many : (c : After-is_of_members) → c.is_of_members.result ≡ false → 5 ≤ c.number-number.result
many c e = rw c.number-number.ensures (ltb-false _ _ (sym c.is_of_members.ensures ∙ e))

pub join_asked-requires : goal.join_asked-requires
join_asked-requires c =
    let t = c.args.groups.now in (
      omega arith,
      omega arith,
      record {
        readable = sons_readable c.requires.sons (omega (arith, size_in t.table.now t.size, t.tabled.small)) (group_in_law _ _ (omega arith) (omega arith));
        most = c.blocks_for-blocks.ensures.most;
        some_words = omega (arith, c.blocks_for-blocks.ensures.most);
        two_words = omega (arith, c.blocks_for-blocks.ensures.most);
      },
    )

pub may_break-requires : goal.may_break-requires
may_break-requires c =
    let t = c.args.groups.now.tabled in
    let w = (goal.at.may_break-requires c).After-unwrap_or-parent in
    (omega arith, omega (arith, t.long), omega (arith, parent w, below w), parent w)

pub block_breaks-requires : goal.block_breaks-requires
block_breaks-requires c =
    let t = c.args.groups.now.tabled in
    let w = (goal.at.block_breaks-requires c).After-unwrap_or-parent in
    record {
      block = omega (arith, c.blocks_for-blocks.ensures.most);
      last = omega (arith, t.small);
      parent_last = omega (arith, t.small, parent w, below w);
      some_words = omega (arith, c.blocks_for-blocks.ensures.most);
      two_words = omega (arith, c.blocks_for-blocks.ensures.most);
    }

pub loop-rule-preserved : goal.loop-rule-preserved
loop-rule-preserved c =
    let t = c.args.groups.now.tabled in
    let f = c.blocks_for-blocks.ensures in
    let w = goal.at.loop-rule-preserved c in
    let k = number w.After-number-number in
    let r = rw (← k) at c.loop-rule.invariant.rules in
    rw (← k)
    (elim c.if-is_of_members.branch [
      | then-is_of_members+then-may_break+else-loop-b-test b ↦ record {
        fits = b.broken-is ∙ b.loop-b.invariant.fits;
        rules = rules_member t c.requires _ _ (omega arith) (omega arith) f c.join_asked.ensures r
            (few w.After-is_of_members b.if-is_of_members.true) _ (omega (arith, b.loop-b-test.false))
            (rw (parent w.After-unwrap_or-parent) at b.loop-b.invariant.members);
      }
      | then-is_of_members+else-may_break b ↦ record {
        fits = b.broken-is ∙ c.loop-rule.invariant.fits;
        rules = rules_not t c.requires _ _ (omega arith) (omega arith) f c.join_asked.ensures r
            (few w.After-is_of_members b.if-is_of_members.true) (sym b.may_break.ensures ∙ b.if-may_break.false);
      }
      | else-is_of_members+else-count_breaks b ↦ record {
        fits = b.broken-is ∙ c.loop-rule.invariant.fits;
        rules = rules_count t c.requires _ _ (omega arith) (omega arith) f c.join_asked.ensures r
            (many w.After-is_of_members b.if-is_of_members.false) (sym b.count_breaks.ensures ∙ b.if-count_breaks.false);
      }
    ])

pub scan-preserved : goal.scan-preserved
scan-preserved c =
    record {
      fits = c.loop-rule.invariant.fits;
      groups = groups_more _ _ _ _ c.scan.invariant.groups (omega arith) c.loop-rule.invariant.rules;
    }

pub returns-then-block_breaks : goal.returns-then-block_breaks
returns-then-block_breaks c =
    let t = c.args.groups.now.tabled in
    let w = (goal.at.returns-then-block_breaks c).After-unwrap_or-parent in
    let k = number (goal.at.returns-then-block_breaks c).After-number-number in
    scan_member t c.requires _ _ (omega arith) (omega arith) c.blocks_for-blocks.ensures c.join_asked.ensures
    (rw (← k) at c.loop-rule.invariant.rules) c.scan.invariant.groups _ refl c.number-number.ensures
    (few (goal.at.returns-then-block_breaks c).After-is_of_members c.if-is_of_members.true)
    (block_members * c.loop-b.b) (block_members * (c.loop-b.b + 1)) (omega (arith, c.loop-b-test.true))
    (sym c.may_break.ensures ∙ c.if-may_break.true) _ (rw (parent w) at c.block_breaks.ensures) c.if-block_breaks.true

pub returns-then-count_breaks : goal.returns-then-count_breaks
returns-then-count_breaks c =
    let t = c.args.groups.now.tabled in
    let k = number (goal.at.returns-then-count_breaks c).After-number-number in
    scan_count t c.requires _ _ (omega arith) (omega arith) c.blocks_for-blocks.ensures c.join_asked.ensures
    (rw (← k) at c.loop-rule.invariant.rules) c.scan.invariant.groups _ refl c.number-number.ensures
    (many (goal.at.returns-then-count_breaks c).After-is_of_members c.if-is_of_members.false)
    (sym c.count_breaks.ensures ∙ c.if-count_breaks.true)

pub returns-2 : goal.returns-2
returns-2 c =
    let t = c.args.groups.now in
    rw c.loop-rule.invariant.fits
    (scan_fits t.tabled c.requires _ (omega arith) (groups_more _ _ _ _ c.scan.invariant.groups (omega arith) c.loop-rule.invariant.rules))
