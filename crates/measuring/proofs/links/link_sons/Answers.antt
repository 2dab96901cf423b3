-- `link_sons` meets its contract. Invariant: the groups before n are linked.
use Prim.Native.Nat.{◌+◌, ◌-◌}
use mathlib.Core.Path.{◌≡◌, subst}
use native.Mathlib.Omega.{arith}
use lib.Seq.{get_or-set_same}
use Rattle.std.specs.Prelude.{None}
use Rattle.tables.specs.SheetIn.{sheet_in}
use Rattle.measuring.specs.Links.{Chained}
use Rattle.tables.proofs.SheetInLaws.{size_in}
use Rattle.measuring.proofs.LinksLaws.{links_one, links_step}
use Rattle.measuring.proofs.links.link_sons.Goals as goal

pub loop-n-init : goal.loop-n-init
loop-n-init c = record {
  most = omega arith;
  chained = links_one _ _ _ c.args.groups.now.tabled.rooted
      (get_or-set_same c.args.last.now 0 None None (omega arith)) (get_or-set_same c.args.prev.now 0 None None (omega arith));
}

pub loop-n-preserved : goal.loop-n-preserved
loop-n-preserved c =
    let e : c.loop-n.n + 1 - 1 ≡ c.loop-n.n = omega arith in record {
      most = omega arith;
      chained = rw e (links_step _ _ _ _ _ c.loop-n.n _ c.parent.ensures.0 c.args.groups.now.tabled.tree c.loop-n.invariant.chained c.link.ensures);
    }

pub returns : goal.returns
returns c =
    let g = c.args.groups.now in
    let s = sheet_in g.table.now g.size in
    let e : c.loop-n.n - 1 ≡ s.size = omega (arith, size_in g.table.now g.size, g.tabled.some) in
    subst (Chained s c.loop-n.last c.loop-n.prev) e c.loop-n.invariant.chained

pub returns-2 : goal.returns-2
returns-2 c =
    let g = c.args.groups.now in
    let s = sheet_in g.table.now g.size in
    let e : c.loop-n.n ≡ s.size = omega (arith, size_in g.table.now g.size) in
    subst (Chained s c.link.new.last c.link.new.prev) e
    (links_step _ _ _ _ _ c.loop-n.n _ c.parent.ensures.0 g.tabled.tree c.loop-n.invariant.chained c.link.ensures)
