-- `sets_between` meets its contract.
use Prim.Native.Nat.{max, min}
use Rattle.std.proofs.Common.{ap, ◌∙◌, arith}
use Rattle.questions.proofs.CountsLaws.{tabled_changed, sized_changed, put_own}
use Rattle.questions.proofs.count.sets_between.Goals as goal

pub invariant_of-any_sets : goal.invariant_of-any_sets
invariant_of-any_sets c =
    let own = c.index-groups-i.is in
    record {
      tabled = tabled_changed c.args.groups.now c.args.size c.args.g.0 c.index-i.result c.requires.asked.1 c.requires.asked.2
          c.index-i.ensures c.requires.tabled c.index-groups-i.result _ (ap (λ y. y.parent) own) (ap (λ y. y.mode) own);
    }

pub returns-clause-sized : goal.returns-clause-sized
returns-clause-sized c =
    let own = c.index-groups-i.is in
    sized_changed c.args.groups.now c.args.size c.args.g.0 c.index-i.result c.requires.asked.1 c.requires.asked.2
    c.index-i.ensures c.requires.tabled c.index-groups-i.result _ (ap (λ y. y.parent) own) (ap (λ y. y.mode) own) c.args.least c.args.most
    (c.max.ensures ∙ ap (λ y. max y.lo c.args.least) own) (c.min.ensures ∙ ap (λ y. min y.hi c.args.most) own) (omega arith)
    c.any_sets-found.ensures

pub returns-clause-groups_unchanged : goal.returns-clause-groups_unchanged
returns-clause-groups_unchanged c = put_own c.args.groups.now c.index-i.result c.index-groups-i.result _ c.index-groups-i.is
