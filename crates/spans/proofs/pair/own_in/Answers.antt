-- `own_in` meets its contract.
use native.Mathlib.Omega.{arith}
use mathlib.Core.Path.{◌∙◌}
use Rattle.spans.proofs.HeldLaws.{none_of, own_in_endless, own_in_zero, own_in_finite}
use Rattle.spans.proofs.pair.own_in.Goals as goal

pub returns-in-0 : goal.returns-in-0
returns-in-0 c = none_of {l = 1} {m = 0} (omega arith) ∙ own_in_zero c.args.lo _ c.in-0.is

pub returns-in-65535 : goal.returns-in-65535
returns-in-65535 c =
    own_in_endless c.args.lo _ _ (omega arith) (c.from-least.ensures ∙ c.saturating_sub.ensures) c.in-65535.is

pub returns-in_default : goal.returns-in_default
returns-in_default c =
    own_in_finite c.args.lo c.args.hi _ _ (omega arith) (omega arith) (c.from-least.ensures ∙ c.saturating_sub.ensures) (omega arith)
    (omega arith) (omega arith)
