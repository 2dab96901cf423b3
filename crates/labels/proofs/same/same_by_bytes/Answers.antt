use Rattle.std.proofs.Common.{◌≡◌, ℕ, ◌∷◌, List, [], length, true, false, refl, sym, ◌∙◌, arith}
use mathlib.Core.Logic.{⊎_elim}
use borrow.Author.Tests.{eq-eqb, ne_eqb}
use Rattle.wire.specs.SheetFormat.{same_label}
use Rattle.labels.proofs.same.same_by_bytes.Goals as goal

-- what is left of two labels begins with the bytes x and y
module _ (l m l' m' : List ℕ) (x y : ℕ) (e : l ≡ x ∷ l') (f : m ≡ y ∷ m') where
  unlike : (x ≡ y → ⊥) → same_label l m ≡ false
  unfolding same_label
  unlike h = rw (e, f, ne_eqb x y h)

  alike : x ≡ y → same_label l' m' ≡ same_label l m
  unfolding same_label
  alike h = rw (e, f, eq-eqb x y h)

  shorter : length l ≡ length m → length l' ≡ length m'
  shorter h = let z : length (x ∷ l') ≡ length (y ∷ m') = rw (e, f) at h in omega arith

ended : (l m : List ℕ) → length l ≡ 0 → length m ≡ 0 → true ≡ same_label l m
unfolding same_label
ended [] [] h k = refl
ended [] (y ∷ m) h k = absurd (omega arith)
ended (x ∷ l) m h k = absurd (omega arith)

pub returns-then-x-y : goal.returns-then-x-y
returns-then-x-y c =
    let h = c.in-Some.ensures.steps in
    sym (sym c.loop-x.invariant.1 ∙ unlike _ _ _ _ _ _ h.0 h.1 c.if-x-y.true)

pub loop-x-preserved : goal.loop-x-preserved
loop-x-preserved c =
    let h = c.in-Some.ensures.steps in
    (shorter _ _ _ _ _ _ h.0 h.1 c.loop-x.invariant.0, alike _ _ _ _ _ _ h.0 h.1 c.if-x-y.false ∙ c.loop-x.invariant.1)

pub returns : goal.returns
returns c =
    let e = c.loop-x.invariant.0 in
    ⊎_elim
    (λ w. ended _ _ w.1.0 (omega (arith, w.1.0)) ∙ c.loop-x.invariant.1)
    (λ w. ended _ _ (omega (arith, w.1.0)) w.1.0 ∙ c.loop-x.invariant.1)
    c.in-None.ensures.steps
