-- The groups of the list, one after the other.
use Rattle.std.proofs.Common.{arith, ◌≡◌, ◌<◌, get_or, length}
use Rattle.std.proofs.lemmas.List.{get_or-map, length-map}
use Rattle.sons.specs.SonLists.{kept_sons}
use Rattle.rules.proofs.JoinLaws.{joined_none, left_listed, joined_more, joined_all}
use Rattle.rules.proofs.joins.join_sons.Goals.{In-loop-son}
use Rattle.rules.proofs.joins.join_sons.Goals as goal

pub loop-son-init : goal.loop-son-init
loop-son-init c = joined_none _ _ c.clear.ensures.0 c.clear.ensures.1

-- the number of the group at hand, and that it is on the list
number : (c : In-loop-son) → get_or (kept_sons c.args.sons.now.starts.now c.args.sons.now.order.now c.args.g.0) c.loop-son.son-index 0
    ≡ (get_or c.of-listed.result.now c.loop-son.son-index (record { 0 = 0 })).0
number c = rw (← c.of-listed.ensures) (get_or-map (λ h. h.0) c.of-listed.result.now c.loop-son.son-index _ 0 c.loop-son-test.true)

here : (c : In-loop-son) → c.loop-son.son-index < length (kept_sons c.args.sons.now.starts.now c.args.sons.now.order.now c.args.g.0)
here c = rw (← c.of-listed.ensures, length-map c.of-listed.result.now (λ h. h.0)) c.loop-son-test.true

pub join-requires : goal.join-requires
join-requires c =
    let w = (goal.at.join-requires c).In-loop-son in (
      rw (← number w) (c.requires.readable.groups _ (left_listed _ c.loop-son.invariant (here w))),
      c.requires.most,
      omega (arith, c.requires.some_words),
      omega (arith, c.requires.two_words),
    )

pub loop-son-preserved : goal.loop-son-preserved
loop-son-preserved c =
    let w = (goal.at.loop-son-preserved c).In-loop-son in
    joined_more _ c.loop-son.invariant (here w) (rw (number w) c.join.ensures)

pub returns : goal.returns
returns c =
    joined_all _ c.loop-son.invariant
    (rw (← c.of-listed.ensures, length-map c.of-listed.result.now (λ h. h.0)) c.loop-son-test.false)
