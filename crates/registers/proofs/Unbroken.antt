-- The sets of which no rule is broken are those that fit; the answers that follow.
use Prim.Native.Nat.{ℕ, suc}
use mathlib.Core.Path.{◌≡◌, refl}
use mathlib.Core.Bool.{Bool, true, false}
use mathlib.Core.Logic.{inl, inr}
use native.Mathlib.Omega.{arith}
use Rattle.laws.proofs.Cases.{compare_le, compare_eq, split, true_not_false, find}
use Rattle.meaning.specs.Sheet.{Sheet, Group, Son, Top, fin, inf, AtMost}
use Rattle.meaning.specs.Tree.{Tree}
use Rattle.meaning.specs.Sets.{Sets, Distinct, count}
use Rattle.meaning.specs.Fits.{Fits, groups_of}
use Rattle.meaning.specs.Rule.{Rule, Broken, above, outside, lacking, uncovered, shared, below, Answered, rule_number, FirstBroken}
use Rattle.meaning.proofs.SonLaws.{son_parent}

-- no rule is broken at any group
abbrev pub Unbroken : {X : Type 0} → Sheet → Sets X → Type 0
Unbroken s A = (g : ℕ) → Group s g → (q : Rule) → Broken s A g q → ⊥

-- a group is the son of p, or is not
son_or {ℓ} : {C : Type ℓ} (s : Sheet) (p g : ℕ) → (Son s p g → C) → ((Son s p g → ⊥) → C) → C
son_or s p g y n =
    compare_le 1 p
    (λ a. compare_le 1 g
    (λ b. compare_le g s.size
    (λ c. compare_eq (s.parent g) p
    (λ e. y (record { above = a; group = record { first = b; last = c }; under = e }))
    (λ e. n (λ k. e k.under)))
    (λ c. n (λ k. omega arith)))
    (λ b. n (λ k. omega arith)))
    (λ a. n (λ k. omega arith))

-- a member that is in some son of p, or in none
covering {ℓ} : {C : Type ℓ} (s : Sheet) (p : ℕ) (M : ℕ → Bool) → ((g : ℕ) × Son s p g × (M g ≡ true) → C)
    → (((g : ℕ) → Son s p g → M g ≡ false) → C) → C
covering s p M y n =
    find (suc s.size) (λ g. Son s p g × (M g ≡ true))
    (λ g. son_or s p g (λ k. split (M g) (λ e. inl (k, e)) (λ e. inr (λ w. true_not_false _ w.1 e)))
    (λ k. inr (λ w. k w.0)))
    (λ g l w. y (g, w.0, w.1))
    (λ h. n (λ g k. split (M g) (λ e. absurd (h g (omega arith) (k, e))) (λ e. e)))

at_most_or {ℓ} : {C : Type ℓ} (n : ℕ) (t : Top) → (AtMost n t → C) → ((AtMost n t → ⊥) → C) → C
at_most_or n (fin k) y o = compare_le n k y (λ h. o (λ m. omega arith))
at_most_or n inf y o = y tt

-- sets of which no rule is broken fit
pub unbroken_fits : {X : Type 0} (s : Sheet) (A : Sets X) → Tree s → Distinct A → Unbroken s A → Fits s A
unbroken_fits s A t' d u =
    record {
      distinct = d;
      rules = λ i l. record {
        inside = λ p g k m. split (groups_of A i p) (λ e. e) (λ e. absurd (u g k.group outside (p, i, k, l, m, e)));
        equal = λ p g k t m. split (groups_of A i g) (λ e. e) (λ e. absurd (u g k.group lacking (p, i, k, t, l, m, e)));
        covered = λ p k t m. covering s p (groups_of A i) (λ w. w) (λ h. absurd (u p k uncovered (i, t, l, m, h)));
        apart = λ p g h j k t m n.
            compare_eq g h (λ e. e)
            (λ e. compare_le g h
            (λ o. absurd (u p (son_parent t' j) shared (g, h, i, t, j, k, omega arith, l, m, n)))
            (λ o. absurd (u p (son_parent t' j) shared (h, g, i, t, k, j, o, l, n, m))));
      };
      least = λ g k. compare_le (s.lo g) (count A g) (λ h. h) (λ h. absurd (u g k below h));
      most = λ g k. at_most_or (count A g) (s.hi g) (λ h. h) (λ h. absurd (u g k above h));
    }

-- sets that fit break no rule at any group
pub fits_unbroken : {X : Type 0} (s : Sheet) (A : Sets X) → Fits s A → Unbroken s A
fits_unbroken s A f g k outside (p, i, j, l, a, b) = true_not_false _ ((f.rules i l).inside p g j a) b
fits_unbroken s A f g k lacking (p, i, j, t, l, a, b) = true_not_false _ ((f.rules i l).equal p g j t a) b
fits_unbroken s A f g k uncovered (i, t, l, a, h) =
    let w = (f.rules i l).covered g k t a in true_not_false _ w.2 (h w.0 w.1)
fits_unbroken s A f g k shared (h, j, i, t, x, y, o, l, a, b) =
    let e = (f.rules i l).apart g h j x y t a b in omega arith
fits_unbroken s A f g k below h = omega (arith, f.least g k)
fits_unbroken s A f g k above h = h (f.most g k)

-- 0 and 0 answers for sets that fit, a first broken group with its rule for others
pub fits_answered : {X : Type 0} {s : Sheet} {A : Sets X} → Fits s A → Answered s A 0 0
fits_answered f = record { fits = (λ e. f, λ w. (refl, refl)); breaks = λ h. absurd (h f) }

pub broken_answered : {X : Type 0} {s : Sheet} {A : Sets X} {g : ℕ} (q : Rule) → FirstBroken s A g q → Answered s A g (rule_number q)
broken_answered {X} {s} {A} {g} q b = record {
  fits = (λ w. absurd (omega (arith, b.group.first)), λ f. absurd (fits_unbroken s A f g b.group q b.broken));
  breaks = λ h. (q, refl, b);
}
