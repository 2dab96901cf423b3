-- `Span::join` meets its contract: none where one span is none; else the ends have room for their sum.
use Prim.Native.Nat.{◌≤◌}
use native.Mathlib.Omega.{arith}
use mathlib.Core.Path.{sym, ◌∙◌}
use Rattle.spans.specs.Held.{kind_held}
use Rattle.sizes.proofs.SpanLaws.{meet_join}
use Rattle.spans.proofs.HeldLaws.{none_of, none_by, some_by, room_least, join_none_left, join_none_right, lap_of, add_of}
use Rattle.spans.proofs.span.Span.join.Goals.{then-is_empty-via-then-is_empty, then-is_empty-via-else-is_empty+then-is_empty-2}
use Rattle.spans.proofs.span.Span.join.Goals as goal

pub returns-then-is_empty : goal.returns-then-is_empty
returns-then-is_empty c =
    none_of {l = 1} {m = 0} (omega arith)
    ∙ sym
    (elim c.then-is_empty.branch [
      | then-is_empty-via-then-is_empty w ↦ join_none_left (kind_held c.args.kind) _ _ (none_by _ _ c.is_empty.ensures w.if-is_empty.true)
      | then-is_empty-via-else-is_empty+then-is_empty-2 w ↦
          join_none_right (kind_held c.args.kind) _ _ (none_by _ _ w.is_empty-else-is_empty.ensures w.if-is_empty-2.true)
    ])

pub overflow_add-result : goal.overflow_add-result
overflow_add-result c =
    let a = c.args in
    let l : a.self.least ≤ a.self.most = some_by _ _ c.is_empty.ensures c.if-is_empty.false in
    let m : a.other.least ≤ a.other.most = some_by _ _ c.is_empty-else-is_empty.ensures c.if-is_empty-2.false in
    omega (arith, room_least l c.requires.0, room_least m c.requires.1)

pub returns-in-Lap : goal.returns-in-Lap
returns-in-Lap c =
    let l = some_by _ _ c.is_empty.ensures c.if-is_empty.false in
    let m = some_by _ _ c.is_empty-else-is_empty.ensures c.if-is_empty-2.false in
    rw (c.max.ensures, c.saturating_add.ensures, c.in-Lap.is) (lap_of (omega arith) (omega arith) l m c.requires.0 c.requires.1)

pub returns-in-Add : goal.returns-in-Add
returns-in-Add c =
    let l = some_by _ _ c.is_empty.ensures c.if-is_empty.false in
    let m = some_by _ _ c.is_empty-else-is_empty.ensures c.if-is_empty-2.false in
    rw (c.saturating_add-in-Add.ensures, c.in-Add.is) (add_of (omega arith) (omega arith) l m c.requires.0 c.requires.1)

pub returns-in-Eq : goal.returns-in-Eq
returns-in-Eq c = rw c.in-Eq.is (c.meet.ensures ∙ meet_join _ _)
