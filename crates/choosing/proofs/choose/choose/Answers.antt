-- `choose` meets its contract.
use Prim.Native.Nat.{◌≤◌}
use mathlib.Core.Path.{ap, ◌∙◌, sym, subst}
use native.Mathlib.Omega.{arith}
use borrow.Author.Tests.{ltb-true}
use Rattle.sizes.specs.Span.{In}
use Rattle.sizes.proofs.MeasuredLaws.{spans_measured}
use Rattle.spans.proofs.HeldLaws.{some_by}
use Rattle.measuring.proofs.PairsLaws.{pair_read}
use Rattle.measuring.proofs.DoneLaws.{room_span}
use Rattle.choosing.proofs.ChosenLaws.{folded_table, chose_none, chose_some, least_in_law}
use Rattle.choosing.proofs.choose.choose.Goals as goal

pub returns-then-is_empty : goal.returns-then-is_empty
returns-then-is_empty c =
    let t = c.args.groups.now.tabled in
    let b = c.args.c in
    chose_none (spans_measured _ _ t.tree) c.measure_sheet.ensures t.tree t.rooted.one b _ _ _ _
    (ltb-true _ _ (sym c.is_empty.ensures ∙ c.if-is_empty.true))
    (c.at-root.ensures ∙ (rw c.index.ensures (ap (λ z. z b) (pair_read _ 1))))

pub divide-requires-clause-folded : goal.divide-requires-clause-folded
divide-requires-clause-folded c = folded_table (spans_measured _ _ c.args.groups.now.tabled.tree) c.measure_sheet.ensures

pub divide-requires-clause-room : goal.divide-requires-clause-room
divide-requires-clause-room c =
    let r = c.at-root in
    let l : r.result.least ≤ r.result.most = some_by _ _ c.is_empty.ensures c.if-is_empty.false in
    let e = c.at-root.ensures ∙ (rw c.index.ensures (ap (λ z. z c.args.c) (pair_read c.measure_sheet.new.spans 1))) in
    (c.requires.0.sizes_long, c.requires.0.marks_long, subst (In r.result.least) e (least_in_law _ _ l (omega arith)))

pub returns : goal.returns
returns c =
    let t = c.args.groups.now.tabled in
    let b = c.args.c in
    let m = spans_measured _ _ t.tree in
    let e = c.at-root.ensures ∙ (rw c.index.ensures (ap (λ z. z b) (pair_read c.measure_sheet.new.spans 1))) in
    chose_some m c.measure_sheet.ensures b _ _ _ _ t.rooted.one (some_by _ _ c.is_empty.ensures c.if-is_empty.false) e
    (room_span t m 1 t.rooted.one b) c.divide.ensures
