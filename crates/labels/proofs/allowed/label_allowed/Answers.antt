use Rattle.std.proofs.Common.{sym, ap, ◌∙◌, Bool, ◌&&◌}
use mathlib.Core.Bool.{and_assoc, and-true}
use Rattle.labels.proofs.Strings.{label_more, label_end}
use Rattle.labels.proofs.allowed.label_allowed.Goals as goal

pub loop-x-preserved : goal.loop-x-preserved
loop-x-preserved c =
    let more = label_more c.args.label.now c.loop-x.x-index c.loop-x-test.true in
    rw c.label_byte-allowed.ensures
    (and_assoc c.loop-x.allowed _ _ ∙ ap (λ (x : Bool). c.loop-x.allowed && x) (sym more) ∙ c.loop-x.invariant)

pub returns : goal.returns
returns c = sym (and-true _) ∙ ap (λ (x : Bool). c.loop-x.allowed && x) (sym (label_end _ _ c.loop-x-test.false)) ∙ c.loop-x.invariant
