use Rattle.std.proofs.Common.{◌≡◌, length, sym, ◌∙◌, arith}
use Rattle.labels.proofs.Strings.{used_none, used_more, used_found}
use Rattle.labels.proofs.used.used_before.Goals as goal

pub loop-at-init : goal.loop-at-init
loop-at-init c = used_none _ _ _

pub returns-then-same_label : goal.returns-then-same_label
returns-then-same_label c =
    sym (used_found _ _ _ _ _ c.loop-at-test.true (rw c.label_of.ensures at (sym c.same_label.ensures ∙ c.if-same_label.true)))

pub loop-at-preserved : goal.loop-at-preserved
loop-at-preserved c =
    used_more _ _ _ _ c.loop-at.invariant (rw c.label_of.ensures at (sym c.same_label.ensures ∙ c.if-same_label.false))

pub returns : goal.returns
returns c =
    let e : c.loop-at.at-index ≡ length c.args.offsets.now = omega arith in
    sym (rw e at c.loop-at.invariant)
