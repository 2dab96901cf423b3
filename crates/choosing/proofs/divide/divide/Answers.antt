-- `divide` meets its contract: the groups before n have their numbers and marks.
use Prim.Native.Nat.{◌+◌, ◌-◌}
use mathlib.Core.Path.{◌≡◌, ap, subst, ◌∙◌}
use lib.ListN.{replicate}
use native.Mathlib.Omega.{arith}
use Rattle.wire.specs.Capacity.{group_capacity}
use Rattle.tables.specs.Numbers.{number_in}
use Rattle.tables.proofs.NumbersLaws.{number_same}
use Rattle.tables.specs.SheetIn.{sheet_in}
use Rattle.tables.proofs.SheetInLaws.{size_in}
use Rattle.measuring.specs.Pairs.{pair_in}
use Rattle.choosing.specs.Divided.{no_part, marked_in, DividedTo}
use Rattle.choosing.proofs.DividedLaws.{mark_same, divided_root, divided_all}
use Rattle.choosing.proofs.divide.divide.Goals as goal

pub loop-n-init : goal.loop-n-init
loop-n-init c =
    let a = c.args in
    let g = a.groups.now in
    let w = c.requires in
    let e = c.give.ensures in
    let some = g.tabled.some in record {
      most = omega arith;
      sizes_long = omega (arith, w.room.0);
      marks_long = omega (arith, w.room.1);
      root = ap (λ t. number_in t 1) e.sizes_after ∙ number_same a.sizes.now 1 a.r (omega arith) (omega (arith, w.room.0));
      state = ap (λ t. marked_in t 1) e.marks_after ∙ mark_same a.marks.now 1 a.c (omega arith) (omega (arith, w.room.1));
      divided = rw (e.sizes_after, e.marks_after, e.left_after)
          (divided_root g.tabled.tree w.folded.measured a.sizes.now a.marks.now
          (replicate group_capacity no_part) a.r a.c g.tabled.rooted.one
          (record {
            sizes_long = omega (arith, w.room.0);
            marks_long = omega (arith, w.room.1);
            left_long = omega arith;
          })
          w.room.2);
    }

pub loop-n-preserved : goal.loop-n-preserved
loop-n-preserved c =
    let i = c.loop-n.invariant in
    let d = c.divide_son in
    let k = d.auto in
    let e : c.loop-n.n + 1 - 1 ≡ c.loop-n.n = omega arith in record {
      most = omega arith;
      sizes_long = omega (arith, k.sizes);
      marks_long = omega (arith, k.marks);
      root = d.ensures.root_unchanged.0 ∙ i.root;
      state = d.ensures.root_unchanged.1 ∙ i.state;
      divided = rw e d.ensures.given;
    }

pub returns : goal.returns
returns c =
    let g = c.args.groups.now in
    let s = sheet_in g.table.now g.size in
    let i = c.loop-n.invariant in
    let e : c.loop-n.n - 1 ≡ s.size = omega (arith, size_in g.table.now g.size, g.tabled.some) in
    divided_all g.tabled.tree
    (subst (DividedTo s (pair_in c.args.spans.now) c.loop-n.sizes c.loop-n.marks c.loop-n.left) e i.divided) i.root i.state

pub returns-2 : goal.returns-2
returns-2 c =
    let g = c.args.groups.now in
    let s = sheet_in g.table.now g.size in
    let i = c.loop-n.invariant in
    let d = c.divide_son in
    let e : c.loop-n.n ≡ s.size = omega (arith, size_in g.table.now g.size) in
    divided_all g.tabled.tree
    (subst (DividedTo s (pair_in c.args.spans.now) d.new.sizes d.new.marks d.new.left) e d.ensures.given)
    (d.ensures.root_unchanged.0 ∙ i.root) (d.ensures.root_unchanged.1 ∙ i.state)
