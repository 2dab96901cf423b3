-- `ask_apart` meets its contract.
use Rattle.std.proofs.Common.{refl, arith}
use Rattle.wire.specs.SheetFormat.{apart}
use Rattle.questions.specs.Groups.{numbers_of}
use Rattle.questions.proofs.GroupsLaws.{group_at, all_taken}
use Rattle.questions.proofs.WitnessedLaws.{witnessed_yes, witnessed_no}
use Rattle.questions.proofs.WaysLaws.{left_way_none, left_way_more, left_way_found, right_way_none, right_way_more, right_way_found, both_tried}
use Rattle.questions.proofs.lists.ask_apart.Goals as goal

pub loop-g-init : goal.loop-g-init
loop-g-init c = left_way_none apart refl c.args.left.now _

pub loop-h-init : goal.loop-h-init
loop-h-init c = right_way_none _ c.args.right.now

pub ask_place-requires-clause-listed : goal.ask_place-requires-clause-listed
ask_place-requires-clause-listed c =
    let g = group_at _ c.args.left.now c.requires.listed.0 c.loop-g.g-index (omega arith) in
    let h = group_at _ c.args.right.now c.requires.listed.1 c.loop-h.h-index (omega arith) in
    omega arith

pub returns-then-ask_place : goal.returns-then-ask_place
returns-then-ask_place c =
    let g = group_at _ c.args.left.now c.requires.listed.0 c.loop-g.g-index (omega arith) in
    let h = group_at _ c.args.right.now c.requires.listed.1 c.loop-h.h-index (omega arith) in
    witnessed_yes
    (left_way_found apart refl c.args.left.now (numbers_of c.args.right.now) c.loop-g.g-index (omega arith)
    (right_way_found _ c.args.right.now c.loop-h.h-index (omega arith)
    ((both_tried g.0 h.0 c.ask_place.ensures).found c.if-ask_place.true)))

pub loop-h-preserved : goal.loop-h-preserved
loop-h-preserved c =
    let g = group_at _ c.args.left.now c.requires.listed.0 c.loop-g.g-index (omega arith) in
    let h = group_at _ c.args.right.now c.requires.listed.1 c.loop-h.h-index (omega arith) in
    right_way_more _ c.args.right.now c.loop-h.h-index (omega arith) c.loop-h.invariant
    ((both_tried g.0 h.0 c.ask_place.ensures).lacking c.if-ask_place.false)

pub loop-g-preserved : goal.loop-g-preserved
loop-g-preserved c =
    left_way_more apart refl c.args.left.now (numbers_of c.args.right.now) c.loop-g.g-index (omega arith) c.loop-g.invariant
    (rw (all_taken c.args.right.now c.loop-h.h-index (omega arith)) at c.loop-h.invariant)

pub returns : goal.returns
returns c = witnessed_no (rw (all_taken c.args.left.now c.loop-g.g-index (omega arith)) at c.loop-g.invariant)
