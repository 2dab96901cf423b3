-- `size_groups` meets its contract.
use Rattle.std.proofs.Common.{◌≡◌, ◌+◌, ◌-◌, ℕ, sym, refl, ◌∙◌, arith}
use lib.ListN.{set, length-set}
use lib.Seq.{get_or-set_same}
use Rattle.meaning.specs.Arranged.{Arranged}
use Rattle.tables.specs.Numbers.{number_in}
use Rattle.tables.specs.SheetIn.{sheet_in}
use Rattle.tables.proofs.SheetInLaws.{size_in}
use Rattle.measuring.specs.Pairs.{least_in, greatest_in}
use Rattle.ranging.proofs.SizedLaws.{SizedTo, sized_root, size_step, sizing}
use Rattle.ranging.proofs.arrange.size_groups.Goals.{After-saturating_sub}
use Rattle.ranging.proofs.arrange.size_groups.Goals as goal

pub loop-n-init : goal.loop-n-init
loop-n-init c = (
  omega arith,
  λ first f a.
      let t = c.args.groups.now.tabled in
      sized_root t.tree t.rooted.one (get_or-set_same c.args.sizes.now 0 _ 0 (omega arith) ∙ sym a.root_size)
      (get_or-set_same c.args.left.now 0 _ 0 (omega arith) ∙ sym a.root_size),
)

-- one turn
sized : (c : After-saturating_sub) → (first f : ℕ → ℕ)
    → Arranged (sheet_in c.args.groups.now.table.now c.args.groups.now.size) (least_in c.args.spans.now) (greatest_in c.args.spans.now) first f
    → SizedTo (sheet_in c.args.groups.now.table.now c.args.groups.now.size) f (number_in (set c.loop-n.sizes c.index-i.result c.size_under-count.result))
    (number_in (set (set c.loop-n.left c.index-i.result c.size_under-count.result) c.index-j.result c.saturating_sub.result)) c.loop-n.n
sized c first f a =
    let i = c.index-i.ensures in
    let j = c.index-j.ensures in
    let k = c.parent-parent.ensures in
    rw (i, j)
    (size_step c.requires.arrangeable c.loop-n.n _ _ k.0 _ refl
    (rw (c.get.ensures, c.saturating_sub-rest.ensures, i, j) at c.size_under-count.ensures)
    (sizing c.loop-n.sizes c.loop-n.left _ c.loop-n.n _ _ k.1 k.2 (omega (arith, length-set {A = ℕ})) (omega (arith, length-set {A = ℕ}))
    (rw (i, j) at c.saturating_sub.ensures))
    first f a (c.loop-n.invariant.1 first f a))

pub loop-n-preserved : goal.loop-n-preserved
loop-n-preserved c =
    let e : c.loop-n.n + 1 - 1 ≡ c.loop-n.n = omega arith in
    (omega arith, λ first f a. rw e (sized (goal.at.loop-n-preserved c).After-saturating_sub first f a))

pub returns : goal.returns
returns c =
    let long = size_in c.args.groups.now.table.now c.args.groups.now.size in
    λ first f a g q. (c.loop-n.invariant.1 first f a).found g q (omega (arith, q.last))

pub returns-2 : goal.returns-2
returns-2 c =
    let long = size_in c.args.groups.now.table.now c.args.groups.now.size in
    λ first f a g q. (sized (goal.at.returns-2 c).After-saturating_sub first f a).found g q (omega (arith, q.last))
