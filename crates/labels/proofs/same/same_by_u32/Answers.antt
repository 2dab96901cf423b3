use Rattle.std.proofs.Common.{◌≡◌, ◌≤◌, ◌-◌, ℕ, List, length, refl, sym, ◌∙◌, arith}
use borrow.Author.Tests.{eq-eqb, ne_eqb}
use lib.Dec.{eqb}
use Rattle.wire.specs.Encoding.{Bytes}
use Rattle.wire.specs.SheetFormat.{same_label}
use Rattle.wire.specs.Bytes.{u32_at}
use Rattle.wire.proofs.U64Laws.{u32_bytes}
use Rattle.labels.proofs.Strings.{alike, same_none, alike_shorter, alike_last, same_last, same_unlike}
use Rattle.labels.proofs.same.same_by_u32.Goals as goal

module _ (l m : List ℕ) (h : Bytes l) (j : Bytes m) (four : 4 ≤ length l) (same : length l ≡ length m) where
  first : alike l m 4 ≡ eqb (u32_at l 0) (u32_at m 0)
  first = alike_last l m 4 (omega arith) (omega arith) h j 0 4 _ _ refl same_none (u32_bytes l 0) (u32_bytes m 0)

  last : length l ≤ 8 → u32_at l 0 ≡ u32_at m 0 → same_label l m ≡ eqb (u32_at l (length l - 4)) (u32_at m (length l - 4))
  last eight e =
      same_last l m same h j (length l - 4) 4 _ _ (omega arith)
      (alike_shorter l m 4 (omega arith) (omega arith) (length l - 4) (omega arith) (first ∙ eq-eqb _ _ e)) (u32_bytes l _) (u32_bytes m _)

pub returns-then-u32_at : goal.returns-then-u32_at
returns-then-u32_at c =
    rw (c.u32_at-then-u32_at.ensures, c.u32_at-then-u32_at-2.ensures)
    (sym (last _ _ (λ i. (c.type_inv.a i).fits) (λ i. (c.type_inv.b i).fits) (omega arith) (omega arith) (omega arith)
    (sym c.u32_at.ensures ∙ c.if-u32_at.true ∙ c.u32_at-2.ensures)))

pub returns-else-u32_at : goal.returns-else-u32_at
returns-else-u32_at c =
    rw (ne_eqb _ _ c.if-u32_at.false)
    (sym (same_unlike _ _ (omega arith) 4 (omega arith)
    (first _ _ (λ i. (c.type_inv.a i).fits) (λ i. (c.type_inv.b i).fits) (omega arith) (omega arith)
    ∙ ne_eqb _ _ (λ e. c.if-u32_at.false (c.u32_at.ensures ∙ e ∙ sym c.u32_at-2.ensures)))))
