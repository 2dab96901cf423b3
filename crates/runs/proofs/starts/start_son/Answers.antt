-- `start_son` meets its contract.
use Rattle.std.proofs.Common.{arith}
use Rattle.tables.proofs.SheetInLaws.{size_in}
use Rattle.tables.specs.Numbers.{number_in}
use Rattle.tables.specs.SheetIn.{sheet_in}
use Rattle.runs.proofs.StartedLaws.{StartIs, start_room, start_is, started_by}
use Rattle.runs.proofs.starts.start_son.Goals.{After-start_under-first}
use Rattle.runs.proofs.starts.start_son.Goals as goal

pub start_under-first-requires : goal.start_under-first-requires
start_under-first-requires c =
    let w = c.requires.startable in
    rw (c.index-i.ensures, c.index-j.ensures)
    (start_room c.args.groups.now.tabled w.balanced w.top _ c.args.g.0 c.parent-parent.ensures.0 c.requires.started)

started : (c : After-start_under-first) → StartIs (sheet_in c.args.groups.now.table.now c.args.groups.now.size)
    (number_in c.args.sizes.now) (number_in c.args.firsts.now) (number_in c.args.ends.now)
    c.parent-parent.result.0 c.args.g.0 c.start_under-first.result
started c =
    let w = c.requires.startable in
    start_is c.args.groups.now.tabled w.balanced w.top _ c.args.g.0 c.parent-parent.ensures.0 c.requires.started _
    (rw (c.get.ensures, c.index-i.ensures, c.index-j.ensures) at c.start_under-first.ensures)

pub overflow_add-ends : goal.overflow_add-ends
overflow_add-ends c = rw c.index-i.ensures (omega (arith, (started (goal.at.overflow_add-ends c).After-start_under-first).room))

pub returns : goal.returns
returns c =
    let w = c.requires.startable in
    let t = c.args.groups.now.tabled in
    let long = size_in c.args.groups.now.table.now c.args.groups.now.size in
    rw (c.index-i.ensures, c.index-j.ensures)
    (started_by c.args.firsts.now c.args.ends.now _ c.args.g.0 _ t.tree t.rooted w.balanced w.top (omega arith) (omega arith)
    c.parent-parent.ensures.0 c.requires.started (started (goal.at.returns c).After-start_under-first))
