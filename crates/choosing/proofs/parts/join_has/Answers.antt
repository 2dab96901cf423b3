-- `join_has` meets its contract.
use Prim.Native.Nat.{◌+◌, ◌≤◌}
use mathlib.Core.Path.{refl, sym, ◌∙◌}
use native.Mathlib.Omega.{arith}
use borrow.Author.Tests.{ltb-true, lt-leb, leb-true, leb-false}
use Rattle.spans.specs.Held.{kind_held}
use Rattle.spans.proofs.HeldLaws.{some_by}
use Rattle.choosing.proofs.PartsLaws.{in_none, in_lap, in_add, in_eq, told_then, told_else}
use Rattle.choosing.proofs.parts.join_has.Goals.{then-is_empty-via-then-is_empty, then-is_empty-via-else-is_empty+then-is_empty-2}
use Rattle.choosing.proofs.parts.join_has.Goals.{then-a-r, else-a-r}
use Rattle.choosing.proofs.parts.join_has.Goals as goal

pub returns-then-is_empty : goal.returns-then-is_empty
returns-then-is_empty c =
    told_else refl
    (λ p. let n = in_none (kind_held c.args.kind) _ _ _ _ _ p in
    elim c.then-is_empty.branch [
      | then-is_empty-via-then-is_empty w ↦ omega (arith, ltb-true _ _ (sym c.is_empty.ensures ∙ w.if-is_empty.true))
      | then-is_empty-via-else-is_empty+then-is_empty-2 w ↦
          omega (arith, ltb-true _ _ (sym w.is_empty-else-is_empty.ensures ∙ w.if-is_empty-2.true))
    ])

pub returns-then-max-r : goal.returns-then-max-r
returns-then-max-r c =
    let l = some_by _ _ c.is_empty.ensures c.if-is_empty.false in
    let m = some_by _ _ c.is_empty-else-is_empty.ensures c.if-is_empty-2.false in
    rw (c.in-Lap.is, c.saturating_sub.ensures) (told_then (omega arith) (in_lap {r = c.args.r} l m (omega arith)))

pub returns-else-max-r : goal.returns-else-max-r
returns-else-max-r c =
    let a = c.args in
    let l : a.a.least ≤ a.a.most = some_by _ _ c.is_empty.ensures c.if-is_empty.false in
    let m : a.b.least ≤ a.b.most = some_by _ _ c.is_empty-else-is_empty.ensures c.if-is_empty-2.false in
    told_else (lt-leb _ _ c.if-max-r.false)
    (λ p. omega (arith, ((in_lap {r = c.args.r} l m (omega arith)).1 (rw c.in-Lap.is at p)).0))

pub returns-then-b-r : goal.returns-then-b-r
returns-then-b-r c =
    let a = c.args in
    let l = some_by _ _ c.is_empty.ensures c.if-is_empty.false in
    let m = some_by _ _ c.is_empty-else-is_empty.ensures c.if-is_empty-2.false in
    let e : a.a.least + a.b.least ≤ a.r = elim c.if-a-r.branch [
      | then-a-r w ↦ omega (arith, leb-true _ _ (sym w.value-is ∙ c.if-b-r.true))
      | else-a-r w ↦ omega (arith, leb-true _ _ (sym w.value-is ∙ c.if-b-r.true))
    ] in
    rw (c.in-Add.is, c.saturating_sub-then-b-r.ensures) (told_then e (in_add {r = a.r} l m (omega arith)))

pub returns-else-b-r : goal.returns-else-b-r
returns-else-b-r c =
    let a = c.args in
    let l = some_by _ _ c.is_empty.ensures c.if-is_empty.false in
    let m = some_by _ _ c.is_empty-else-is_empty.ensures c.if-is_empty-2.false in
    told_else c.if-b-r.false
    (λ p. let v : a.a.least + a.b.least ≤ a.r = ((in_add {r = a.r} l m (omega arith)).1 (rw c.in-Add.is at p)).0 in
    elim c.if-a-r.branch [
      | then-a-r w ↦ omega (arith, leb-false _ _ (sym w.value-is ∙ c.if-b-r.false))
      | else-a-r w ↦ omega arith
    ])

pub returns-then-max-r-2 : goal.returns-then-max-r-2
returns-then-max-r-2 c =
    let a = c.args in
    rw (c.in-Eq.is, c.min.ensures) (told_then (omega arith) (in_eq a.a.least a.a.most a.b.least a.b.most a.r (omega arith)))

pub returns-else-max-r-2 : goal.returns-else-max-r-2
returns-else-max-r-2 c =
    told_else (lt-leb _ _ c.if-max-r-2.false)
    (λ p. let v = (in_eq _ _ _ _ _ (omega arith)).1 (rw c.in-Eq.is at p) in omega arith)
