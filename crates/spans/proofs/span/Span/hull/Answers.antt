-- `Span::hull` meets its contract.
use native.Mathlib.Omega.{arith}
use Rattle.sizes.specs.Span as sizes
use Rattle.spans.proofs.HeldLaws.{none_by, some_by, some_of, hull_ends}
use Rattle.spans.proofs.span.Span.hull.Goals as goal

pub returns-then-is_empty : goal.returns-then-is_empty
unfolding sizes.hull
returns-then-is_empty c = rw (none_by c.args.self.least c.args.self.most c.is_empty.ensures c.if-is_empty.true)

pub returns-then-is_empty-2 : goal.returns-then-is_empty-2
unfolding sizes.hull
returns-then-is_empty-2 c =
    rw (none_by _ _ c.is_empty-2.ensures c.if-is_empty-2.true, some_of (some_by _ _ c.is_empty.ensures c.if-is_empty.false))

pub returns : goal.returns
returns c =
    rw (c.min.ensures, c.max.ensures)
    (hull_ends _ _ _ _ (omega arith) (omega arith) (some_by _ _ c.is_empty.ensures c.if-is_empty.false)
    (some_by _ _ c.is_empty-2.ensures c.if-is_empty-2.false))
