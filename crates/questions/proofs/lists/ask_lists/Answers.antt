-- `ask_lists` meets its contract at kind 7.
use Rattle.questions.proofs.GroupsLaws.{all_groups}
use Rattle.questions.proofs.WaysLaws.{place_tried}
use Rattle.questions.proofs.lists.ask_lists.Goals as goal

pub returns-in-Place : goal.returns-in-Place
returns-in-Place c = rw c.in-Place.is (place_tried (λ g m. (all_groups _ _ c.requires.listed.0 g m).0) c.ask_place.ensures)
