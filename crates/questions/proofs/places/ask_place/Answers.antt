-- `ask_place` meets its contract.
use Rattle.std.proofs.Common.{◌≤◌, ap, ◌∙◌, length-set, rules, arith}
use mathlib.Core.Bool.{not}
use Rattle.wire.specs.Capacity.{group_capacity}
use Rattle.tables.specs.SheetIn.{sheet_in}
use Rattle.tables.proofs.SheetInLaws.{size_in, few_groups_law}
use Rattle.questions.specs.Groups.{numbers_of}
use Rattle.questions.proofs.GroupsLaws.{group_at, all_taken}
use Rattle.questions.proofs.FlagsLaws.{barred_none, barred_next, place_flags}
use Rattle.questions.proofs.PlacesLaws.{place_judged, some_groups}
use Rattle.questions.proofs.places.ask_place.Goals as goal

pub loop-g-init : goal.loop-g-init
loop-g-init c = (search rules, barred_none _ _)

pub index-requires : goal.index-requires
index-requires c = (group_at _ c.args.ins.now c.requires.listed.0 c.loop-g.g-index (omega arith)).0

pub offset_bounds-flags-index : goal.offset_bounds-flags-index
offset_bounds-flags-index c = omega (arith, (group_at _ c.args.ins.now c.requires.listed.0 c.loop-g.g-index (omega arith)).1)

pub bounds-flags-index : goal.bounds-flags-index
bounds-flags-index c = omega (arith, (group_at _ c.args.ins.now c.requires.listed.0 c.loop-g.g-index (omega arith)).1)

pub loop-g-preserved : goal.loop-g-preserved
loop-g-preserved c = (
  simp length-set (c.loop-g.invariant.0),
  barred_next c.args.ins.now c.loop-g.g-index c.index.result (omega arith) c.index.ensures
      (group_at _ c.args.ins.now c.requires.listed.0 c.loop-g.g-index (omega arith)).0 (omega arith) c.loop-g.invariant.1,
)

pub loop-h-init : goal.loop-h-init
loop-h-init c = (c.loop-g.invariant.0, barred_none _ _)

pub index-requires-in-loop-h : goal.index-requires-in-loop-h
index-requires-in-loop-h c = (group_at _ c.args.outs.now c.requires.listed.1 c.loop-h.h-index (omega arith)).0

pub offset_bounds-flags-index-in-loop-h : goal.offset_bounds-flags-index-in-loop-h
offset_bounds-flags-index-in-loop-h c = omega (arith, (group_at _ c.args.outs.now c.requires.listed.1 c.loop-h.h-index (omega arith)).1)

pub bounds-flags-index-in-loop-h : goal.bounds-flags-index-in-loop-h
bounds-flags-index-in-loop-h c = omega (arith, (group_at _ c.args.outs.now c.requires.listed.1 c.loop-h.h-index (omega arith)).1)

pub loop-h-preserved : goal.loop-h-preserved
loop-h-preserved c = (
  simp length-set (c.loop-h.invariant.0),
  barred_next c.args.outs.now c.loop-h.h-index c.index-in-loop-h.result (omega arith) c.index-in-loop-h.ensures
      (group_at _ c.args.outs.now c.requires.listed.1 c.loop-h.h-index (omega arith)).0 (omega arith) c.loop-h.invariant.1,
)

pub returns : goal.returns
returns c =
    let t = c.args.groups.now in
    let ins = numbers_of c.args.ins.now in
    let outs = numbers_of c.args.outs.now in
    let few : (sheet_in t.table.now t.size).size ≤ group_capacity = few_groups_law t.tabled in
    place_judged c.loop-h.flags ins outs _ (ap not c.is_empty.ensures ∙ some_groups c.args.ins.now) t.tabled.tree t.tabled.rooted
    (rw (← size_in t.table.now t.size) at c.requires.listed.0)
    (λ g q. place_flags ins outs
    (rw (all_taken c.args.ins.now c.loop-g.g-index (omega arith)) at c.loop-g.invariant.1)
    (rw (all_taken c.args.outs.now c.loop-h.h-index (omega arith)) at c.loop-h.invariant.1)
    g q.first (omega (arith, q.last)))
    c.choose.ensures
