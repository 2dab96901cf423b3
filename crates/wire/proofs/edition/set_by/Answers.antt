-- `set_by` meets its contract: the number of the second edition, and else that of the first.
use mathlib.Core.Path.{sym, ◌∙◌, ap}
use Rattle.wire.specs.Edition.{edition_number}
use Rattle.wire.proofs.EditionFacts.{second_of, first_of}
use Rattle.wire.proofs.edition.set_by.Goals as goal

pub returns-then-edition-eq-EDITION_2 : goal.returns-then-edition-eq-EDITION_2
unfolding edition_number
returns-then-edition-eq-EDITION_2 c set first second = sym (ap set (second_of c.if-edition-eq-EDITION_2.true) ∙ second)

pub returns-else-edition-eq-EDITION_2 : goal.returns-else-edition-eq-EDITION_2
unfolding edition_number
returns-else-edition-eq-EDITION_2 c set first second = sym (ap set (first_of c.if-edition-eq-EDITION_2.false) ∙ first)
