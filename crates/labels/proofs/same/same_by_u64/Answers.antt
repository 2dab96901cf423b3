use Rattle.std.proofs.Common.{◌≡◌, ◌≤◌, ◌-◌, ◌+◌, ℕ, List, length, true, refl, sym, ◌∙◌, arith}
use borrow.Author.Tests.{eq-eqb, ne_eqb}
use lib.Dec.{eqb}
use Rattle.wire.specs.Encoding.{Bytes}
use Rattle.wire.specs.SheetFormat.{same_label}
use Rattle.wire.specs.U64.{u64_at}
use Rattle.wire.proofs.U64Laws.{u64_bytes}
use Rattle.labels.proofs.Strings.{alike, same_none, alike_shorter, alike_last, same_last, same_unlike}
use Rattle.labels.proofs.same.same_by_u64.Goals.{else-loop-i-test, then-loop-i-test+else-u64_at+else-last-i-gt8}
use Rattle.labels.proofs.same.same_by_u64.Goals as goal

module _ (l m : List ℕ) (h : Bytes l) (j : Bytes m) (same : length l ≡ length m) (i : ℕ) (t : alike l m i ≡ true) where
  next : i + 8 ≤ length l → alike l m (i + 8) ≡ eqb (u64_at l i) (u64_at m i)
  next room = alike_last l m (i + 8) (omega arith) (omega arith) h j i 8 _ _ refl t (u64_bytes l i) (u64_bytes m i)

  last : 8 ≤ length l → i ≤ length l → length l ≤ i + 8 →
      same_label l m ≡ eqb (u64_at l (length l - 8)) (u64_at m (length l - 8))
  last eight room end =
      same_last l m same h j (length l - 8) 8 _ _ (omega arith)
      (alike_shorter l m i (omega arith) (omega arith) (length l - 8) (omega arith) t) (u64_bytes l _) (u64_bytes m _)

pub loop-i-init : goal.loop-i-init
loop-i-init c = (omega arith, same_none)

pub returns-then-u64_at : goal.returns-then-u64_at
returns-then-u64_at c =
    sym (same_unlike _ _ (omega arith) (c.loop-i.i + 8) (omega arith)
    (next _ _ (λ i. (c.type_inv.a i).fits) (λ i. (c.type_inv.b i).fits) (omega arith) c.loop-i.i c.loop-i.invariant.1 (omega arith)
    ∙ ne_eqb _ _ (λ e. c.if-u64_at.true (c.u64_at.ensures ∙ e ∙ sym c.u64_at-in-loop-i.ensures))))

pub loop-i-preserved : goal.loop-i-preserved
loop-i-preserved c = (
  omega arith,
  next _ _ (λ i. (c.type_inv.a i).fits) (λ i. (c.type_inv.b i).fits) (omega arith) c.loop-i.i c.loop-i.invariant.1 (omega arith)
      ∙ eq-eqb _ _ (sym c.u64_at.ensures ∙ c.if-u64_at.false ∙ c.u64_at-in-loop-i.ensures),
)

pub returns : goal.returns
returns c =
    let l = c.args.a.now in
    let m = c.args.b.now in
    let i = c.loop-i.i in
    let h : Bytes l = λ k. (c.type_inv.a k).fits in
    let j : Bytes m = λ k. (c.type_inv.b k).fits in
    rw (c.u64_at-2.ensures, c.u64_at-3.ensures)
    (elim c.loop-i-test.branch [
      | else-loop-i-test w ↦
          sym (last l m h j (omega arith) i c.loop-i.invariant.1 (omega arith) (omega arith) (omega arith))
      | then-loop-i-test+else-u64_at+else-last-i-gt8 w ↦
          sym (last l m h j (omega arith) (i + 8)
          (next l m h j (omega arith) i c.loop-i.invariant.1 (omega arith)
          ∙ eq-eqb _ _ (sym w.u64_at.ensures ∙ w.if-u64_at.false ∙ w.u64_at-in-loop-i.ensures))
          (omega arith) (omega arith) (omega arith))
    ])
