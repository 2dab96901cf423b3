-- `is_edition` meets its contract.
use borrow.Author.Tests.{eq-eqb}
use Rattle.wire.specs.Edition.{edition_number}
use Rattle.wire.proofs.EditionFacts.{second_of, first_of}
use Rattle.wire.proofs.edition.is_edition.Goals as goal

pub returns-then-edition-eq-EDITION_2 : goal.returns-then-edition-eq-EDITION_2
unfolding edition_number
returns-then-edition-eq-EDITION_2 c = rw (second_of c.if-edition-eq-EDITION_2.true, eq-eqb _ _ c.if-edition-eq-EDITION_2.true)

pub returns-else-edition-eq-EDITION_2 : goal.returns-else-edition-eq-EDITION_2
unfolding edition_number
returns-else-edition-eq-EDITION_2 c = rw (first_of c.if-edition-eq-EDITION_2.false)
