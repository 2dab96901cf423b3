-- `divide_son` meets its contract.
use mathlib.Core.Path.{ap, ◌∙◌}
use native.Mathlib.Omega.{arith}
use Rattle.tables.proofs.SheetInLaws.{size_in}
use Rattle.measuring.proofs.PairsLaws.{pair_read}
use Rattle.choosing.proofs.DividedLaws.{divisible_alike, shared_alike, divided_divisible, divided_more, kind_table}
use Rattle.choosing.proofs.divide.divide_son.Goals as goal

pub divided-parts-requires : goal.divided-parts-requires
divided-parts-requires c =
    let g = c.args.groups.now in
    let k = c.parent-parent.ensures.0 in
    let f = c.requires.folded in
    rw (c.index.ensures, c.index-2.ensures, c.index-3.ensures, kind_table g _ _ _ _ k c.get.ensures c.of.ensures)
    (divisible_alike _ _ _ (λ b. ap (λ z. z b) (pair_read _ _) ∙ f.followed _ _ k b) (λ b. ap (λ z. z b) (pair_read _ _))
    (divided_divisible g.tabled.tree f.measured _ c.args.g.0 k c.requires.divided))

pub returns-clause-given : goal.returns-clause-given
returns-clause-given c =
    let a = c.args in
    let g = a.groups.now in
    let k = c.parent-parent.ensures.0 in
    let f = c.requires.folded in
    let r = c.requires.son.2 in
    let n = size_in g.table.now g.size in
    let e = c.give.ensures in
    let d = c.divided-parts in
    let share = shared_alike (λ b. ap (λ z. z b) (pair_read _ _) ∙ f.followed _ _ k b) (λ b. ap (λ z. z b) (pair_read _ _))
    (rw (c.index.ensures, c.index-2.ensures, c.index-3.ensures, kind_table g _ _ _ _ k c.get.ensures c.of.ensures) at d.ensures) in
    rw (c.index-4.ensures, e.left_after, e.sizes_after, e.marks_after)
    (divided_more g.tabled.tree f.measured a.sizes.now a.marks.now a.left.now _ a.g.0 d.result.rest d.result.son k
    (record {
      sizes_long = omega (arith, r.sizes_long);
      marks_long = omega (arith, r.marks_long);
      left_long = omega (arith, r.left_long);
    })
    c.requires.divided share)
