-- `Kind::of` meets its contract.
use Rattle.spans.specs.Held.{mode_kind}
use Rattle.spans.proofs.kind.Kind.of.Goals as goal

pub returns-then-is_same : goal.returns-then-is_same
unfolding mode_kind
returns-then-is_same c = rw (← c.is_same.ensures, c.if-is_same.true)

pub returns-then-is_disjoint : goal.returns-then-is_disjoint
unfolding mode_kind
returns-then-is_disjoint c = rw (← c.is_same.ensures, c.if-is_same.false, ← c.is_disjoint.ensures, c.if-is_disjoint.true)

pub returns-else-is_disjoint : goal.returns-else-is_disjoint
unfolding mode_kind
returns-else-is_disjoint c = rw (← c.is_same.ensures, c.if-is_same.false, ← c.is_disjoint.ensures, c.if-is_disjoint.false)
