use Rattle.std.proofs.Common.{◌≡◌, ◌<◌, ◌≤◌, drop, length, get_or, get_or-take, length-take, below_more, ap, arith}
use Rattle.wire.specs.Edition.{edition_of, group_limit}
use Rattle.wire.specs.SheetFormat.{name_of}
use Rattle.conversion.proofs.TowardsLaws.{many_groups, long_label, allowed}
use Rattle.conversion.proofs.towards.may_go.Goals.{At-loop-j, In-loop-j, After-label_of}
use Rattle.conversion.proofs.towards.may_go.Goals as goal

few : (c : At-loop-j) → c.args.head.groups ≤ group_limit (edition_of c.args.edition)
few c = omega (arith, c.group_limit.ensures, c.if-group_limit-head.false)

-- the label that is measured is a name's
below : (c : In-loop-j) → c.loop-j.j < c.args.head.names
below c = omega (arith, length-take c.args.head.names c.args.labels.now)

label_here : (c : After-label_of) → let a = c.args in
    length c.label_of.result.now ≡ length (name_of (drop (get_or a.labels.now c.loop-j.j 0) a.sheet.now)).label
label_here c =
    let a = c.args in
    let l : c.loop-j.j < a.head.names = omega (arith, length-take a.head.names a.labels.now) in
    rw (get_or-take a.head.names a.labels.now c.loop-j.j 0 l) at (ap length c.label_of.ensures)

pub returns-then-group_limit-head : goal.returns-then-group_limit-head
returns-then-group_limit-head c =
    rw c.at.ensures (record {
      gives = λ d at. many_groups (edition_of c.args.edition) at (omega (arith, c.group_limit.ensures, c.if-group_limit-head.true));
    })

pub label_of-requires : goal.label_of-requires
label_of-requires c =
    let a = c.args in
    let l = below (goal.at.label_of-requires c).In-loop-j in
    rw (get_or-take a.head.names a.labels.now c.loop-j.j 0 l) (c.requires.whole c.loop-j.j l)

pub returns-then-longest-label_of : goal.returns-then-longest-label_of
returns-then-longest-label_of c =
    let d = goal.at.returns-then-longest-label_of c in
    rw c.at-then-longest-label_of.ensures (record {
      gives = λ r at. long_label (edition_of c.args.edition) at (few d.At-loop-j) c.loop-j.j (below d.In-loop-j) c.loop-j.invariant
          (omega (arith, label_here d.After-label_of, c.label_limit-longest.ensures, c.if-longest-label_of.true));
    })

pub loop-j-preserved : goal.loop-j-preserved
loop-j-preserved c =
    below_more _ _ c.loop-j.invariant
    (omega (arith, label_here (goal.at.loop-j-preserved c).After-label_of, c.label_limit-longest.ensures, c.if-longest-label_of.false))

pub returns : goal.returns
returns c =
    let e : c.loop-j.j ≡ c.args.head.names =
    omega (arith, length-take c.args.head.names c.args.labels.now, c.requires.limits.few_names, c.requires.room) in
    record { gives = λ d at. allowed (edition_of c.args.edition) at (few (goal.at.returns c).At-loop-j) (rw e at c.loop-j.invariant) }
