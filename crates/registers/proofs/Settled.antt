-- What is said of the check's answer leaves one answer for every sheet and register.
use Prim.Native.Nat.{ℕ}
use mathlib.Core.Path.{◌≡◌, sym, ◌∙◌}
use native.Mathlib.Omega.{arith}
use Rattle.laws.proofs.Cases.{compare_le, compare_eq}
use Rattle.meaning.specs.Sheet.{Sheet}
use Rattle.meaning.specs.Sets.{Sets}
use Rattle.meaning.specs.Fits.{Fits}
use Rattle.meaning.specs.Rule.{Rule, FirstBroken, rule_number, Answered}

-- of two first broken groups neither is below the other, and so for their rules
first_group : {X : Type 0} (s : Sheet) (A : Sets X) (g h : ℕ) (q r : Rule) → FirstBroken s A g q → FirstBroken s A h r → g ≡ h
first_group s A g h q r v w =
    compare_eq g h (λ e. e)
    (λ e. absurd (compare_le g h
    (λ l. w.lowest g v.group (omega arith) q v.broken)
    (λ l. v.lowest h w.group l r w.broken)))

first_rule : {X : Type 0} (s : Sheet) (A : Sets X) (g : ℕ) (q r : Rule) → FirstBroken s A g q → FirstBroken s A g r
    → rule_number q ≡ rule_number r
first_rule s A g q r v w =
    compare_eq (rule_number q) (rule_number r) (λ e. e)
    (λ e. absurd (compare_le (rule_number q) (rule_number r)
    (λ l. w.first q (omega arith) v.broken)
    (λ l. v.first r l w.broken)))

pub answered_once : {X : Type 0} (s : Sheet) (A : Sets X) (g n h m : ℕ) → Answered s A g n → Answered s A h m → (g ≡ h) × (n ≡ m)
answered_once s A g n h m v w =
    compare_eq g 0 (λ x. compare_eq n 0 (λ y. let z = w.fits.1 (v.fits.0 (x, y)) in (x ∙ sym z.0, y ∙ sym z.1))
    (λ y. broken (λ f. y (v.fits.1 f).1))) (λ x. broken (λ f. x (v.fits.1 f).0))
  where
    broken : (Fits s A → ⊥) → (g ≡ h) × (n ≡ m)
    broken u =
        let a = v.breaks u in
        let b = w.breaks u in
        let same = first_group s A g h a.0 b.0 a.2 b.2 in
        let rule = first_rule s A h a.0 b.0 (rw same at a.2) b.2 in
        (same, a.1 ∙ rule ∙ sym b.1)
