-- The parent of a group other than the root is there, and is one.
use Rattle.std.proofs.Common.{ap, sym, ◌∙◌}
use native.Mathlib.Omega.{arith}
use Rattle.tables.specs.Names.{meant_number}
use Rattle.tables.proofs.SheetInLaws.{son_in, parent_below}
use Rattle.tables.proofs.table.Groups.parent.Goals as goal

pub unreachable-requires : goal.unreachable-requires
unreachable-requires c =
    let p = c.requires in
    let e = sym (ap meant_number c.in-None.is) ∙ ap (λ g. meant_number g.parent) c.get.ensures in
    omega (arith, (son_in c.args.self.now.tabled c.args.g.0 0 p.1 e p.0).above)

pub returns : goal.returns
returns c =
    let p = c.requires in
    let e = sym (ap meant_number c.in-Some.is) ∙ ap (λ g. meant_number g.parent) c.get.ensures in
    let k = son_in c.args.self.now.tabled c.args.g.0 c.in-Some.parent.0 p.1 e p.0 in
    (k, k.above, parent_below c.args.self.now.tabled c.args.g.0 c.in-Some.parent.0 p.1 e k.group.first)
