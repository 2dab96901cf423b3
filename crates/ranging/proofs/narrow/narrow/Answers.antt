-- `narrow` meets its contract.
use Rattle.std.proofs.Common.{◌≡◌, ◌+◌, ◌-◌, ℕ, Bool, ap, ◌∙◌, arith}
use lib.ListN.{set, length-set}
use lib.Seq.{get_or-set_same}
use Rattle.sizes.specs.Span.{Span}
use Rattle.tables.specs.SheetIn.{sheet_in}
use Rattle.tables.proofs.SheetInLaws.{size_in}
use Rattle.spans.specs.declared.span.Span.{Span as SpanCode}
use Rattle.spans.specs.Held.{span_held, mode_kind}
use Rattle.measuring.specs.Pairs.{pair_in}
use Rattle.measuring.specs.Fitting.{Measures}
use Rattle.ranging.specs.Table.{span_in, no_span}
use Rattle.ranging.proofs.NarrowedLaws.{Narrowed, narrowed_root, narrow_step, narrowed_all}
use Rattle.ranging.proofs.narrow.narrow.Goals.{After-meet}
use Rattle.ranging.proofs.narrow.narrow.Goals as goal

pub loop-n-init : goal.loop-n-init
unfolding span_in pair_in
loop-n-init c = (
  omega arith,
  λ z m.
      let t = c.args.groups.now.tabled in
      let root = m.spanned 1 t.rooted.one in
      narrowed_root t.tree t.rooted
      (ap span_held (get_or-set_same c.args.ranges.now 0 _ no_span (omega arith)) ∙ root)
      (ap span_held (get_or-set_same c.args.rest.now 0 _ no_span (omega arith)) ∙ root),
)

-- one turn
turned : (c : After-meet) → (z : ℕ → Bool → Span)
    → Measures (sheet_in c.args.groups.now.table.now c.args.groups.now.size) z c.args.spans.now c.args.after.now
    → Narrowed (sheet_in c.args.groups.now.table.now c.args.groups.now.size) z (span_in (set c.loop-n.ranges c.index-i.result c.meet-range.result))
    (span_in (set (set c.loop-n.rest c.index-i.result c.meet-range.result) c.index-j.result c.meet.result)) c.loop-n.n
unfolding span_in pair_in
turned c z m =
    let i = c.index-i.ensures in
    let j = c.index-j.ensures in
    rw (i, j)
    (narrow_step c.loop-n.ranges c.loop-n.rest c.meet-range.result c.meet.result c.args.groups.now.tabled c.loop-n.n _
    c.parent-parent.ensures.0 (c.of-kind.ensures ∙ ap (λ g. mode_kind g.mode.0) c.get.ensures)
    (rw (i, j) at c.pull.ensures) (rw i at c.meet-range.ensures)
    (rw (i, j) at c.pull-in-loop-n.ensures) (rw i at c.meet.ensures)
    (omega (arith, length-set {A = SpanCode})) (omega (arith, length-set {A = SpanCode})) z m (c.loop-n.invariant.1 z m))

pub loop-n-preserved : goal.loop-n-preserved
loop-n-preserved c =
    let e : c.loop-n.n + 1 - 1 ≡ c.loop-n.n = omega arith in
    (omega arith, λ z m. rw e (turned (goal.at.loop-n-preserved c).After-meet z m))

pub returns : goal.returns
returns c =
    let t = c.args.groups.now in
    let e : c.loop-n.n - 1 ≡ (sheet_in t.table.now t.size).size = omega (arith, size_in t.table.now t.size) in
    λ z m. narrowed_all t.tabled.tree t.tabled.rooted (rw e at (c.loop-n.invariant.1 z m))

pub returns-2 : goal.returns-2
returns-2 c =
    let t = c.args.groups.now in
    let e : c.loop-n.n ≡ (sheet_in t.table.now t.size).size = omega (arith, size_in t.table.now t.size) in
    λ z m. narrowed_all t.tabled.tree t.tabled.rooted (rw e at (turned (goal.at.returns-2 c).After-meet z m))
