-- `any_sets` meets its contract.
use Rattle.questions.proofs.CountsLaws.{place_sized}
use Rattle.questions.proofs.count.any_sets.Goals as goal

pub returns : goal.returns
returns c = place_sized c.args.groups.now.tabled.tree c.ask_place.ensures
