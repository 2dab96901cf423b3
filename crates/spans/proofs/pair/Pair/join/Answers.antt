-- `Pair::join` meets its contract, kind by kind.
use mathlib.Core.Bool.{true, false}
use mathlib.Core.Path.{◌∙◌}
use Rattle.sizes.specs.Fold as fold
use Rattle.spans.proofs.HeldLaws.{both}
use Rattle.spans.proofs.pair.Pair.join.Goals as goal

pub join-requires : goal.join-requires
join-requires c = (c.requires.0 false, c.requires.1 false)

pub join-requires-in-Lap : goal.join-requires-in-Lap
join-requires-in-Lap c = (c.requires.0 true, c.requires.1 true)

pub join-requires-in-Eq : goal.join-requires-in-Eq
join-requires-in-Eq c = (c.requires.0 true, c.requires.1 true)

pub returns-in-Lap : goal.returns-in-Lap
unfolding fold.joined
returns-in-Lap c =
    rw c.in-Lap.is
    (both _ _ (rw c.in-Lap.is at c.join.ensures)
    (c.hull.ensures ∙ (rw (c.join_one.ensures, c.join-in-Lap.ensures))))

pub returns-in-Add : goal.returns-in-Add
unfolding fold.joined
returns-in-Add c = rw c.in-Add.is (both _ _ (rw c.in-Add.is at c.join.ensures) c.join_one-in-Add.ensures)

pub returns-in-Eq : goal.returns-in-Eq
unfolding fold.joined
returns-in-Eq c = rw c.in-Eq.is (both _ _ (rw c.in-Eq.is at c.join.ensures) c.join-in-Eq.ensures)
