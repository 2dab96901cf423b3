-- `own_of` meets its contract.
use native.Mathlib.Omega.{arith}
use mathlib.Core.Path.{sym, ◌∙◌}
use Rattle.tables.proofs.SheetInLaws.{size_in}
use Rattle.measuring.proofs.TablesLaws.{own_in}
use Rattle.measuring.proofs.measure.own_of.Goals as goal

pub get-group-requires : goal.get-group-requires
get-group-requires c = let g = c.args.reading.now.groups.now in omega (arith, size_in g.table.now g.size)

pub bounds-reading-index : goal.bounds-reading-index
bounds-reading-index c =
    let r = c.args.reading.now in
    let g = r.groups.now in
    omega (arith, size_in g.table.now g.size, r.flagged)

pub returns : goal.returns
returns c =
    let r = c.args.reading.now in
    let g = r.groups.now in
    λ b. c.own.ensures b
    ∙ (rw (c.index.ensures, c.get-group.ensures) (sym (own_in g.table.now g.size c.args.g.0 c.requires r.flags.now b)))
