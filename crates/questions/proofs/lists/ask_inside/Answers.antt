-- `ask_inside` meets its contract.
use Rattle.std.proofs.Common.{refl, arith}
use Rattle.wire.specs.SheetFormat.{inside}
use Rattle.questions.specs.Groups.{numbers_of}
use Rattle.questions.proofs.GroupsLaws.{group_at, all_taken}
use Rattle.questions.proofs.WitnessedLaws.{witnessed_yes, witnessed_no}
use Rattle.questions.proofs.WaysLaws.{left_way_none, left_way_more, left_way_found, inside_tried}
use Rattle.questions.proofs.lists.ask_inside.Goals as goal

pub loop-g-init : goal.loop-g-init
loop-g-init c = left_way_none inside refl c.args.left.now _

pub ask_place-requires-clause-listed : goal.ask_place-requires-clause-listed
ask_place-requires-clause-listed c =
    let g = group_at _ c.args.left.now c.requires.listed.0 c.loop-g.g-index (omega arith) in ((g.0, g.1, tt), c.requires.listed.1)

pub returns-then-ask_place : goal.returns-then-ask_place
returns-then-ask_place c =
    let g = group_at _ c.args.left.now c.requires.listed.0 c.loop-g.g-index (omega arith) in
    witnessed_yes
    (left_way_found inside refl c.args.left.now (numbers_of c.args.right.now) c.loop-g.g-index (omega arith)
    ((inside_tried g.0 c.ask_place.ensures).found c.if-ask_place.true))

pub loop-g-preserved : goal.loop-g-preserved
loop-g-preserved c =
    let g = group_at _ c.args.left.now c.requires.listed.0 c.loop-g.g-index (omega arith) in
    left_way_more inside refl c.args.left.now (numbers_of c.args.right.now) c.loop-g.g-index (omega arith) c.loop-g.invariant
    ((inside_tried g.0 c.ask_place.ensures).lacking c.if-ask_place.false)

pub returns : goal.returns
returns c = witnessed_no (rw (all_taken c.args.left.now c.loop-g.g-index (omega arith)) at c.loop-g.invariant)
