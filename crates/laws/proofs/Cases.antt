-- Cases on a test, on two numbers and on a bounded search; conjunctions and disjunctions taken apart.
use Prim.Native.Nat.{ℕ, ◌≤◌, ◌<◌, suc, zero}
use mathlib.Core.Path.{◌≡◌, refl, sym, ◌∙◌}
use mathlib.Core.Bool.{Bool, true, false, ◌&&◌, false≢true, ◌||◌, true≢false}
use mathlib.Core.Logic.{by_cases, ◌⊎◌, ⊎_elim}
use native.Mathlib.Omega.{arith}
use native.Mathlib.Nat.{le_refl}
use native.Mathlib.Decide.{dec_le, ℕ_discrete}

-- cases on a test, and conjunctions
pub split {ℓ} : {C : Type ℓ} (b : Bool) → (b ≡ true → C) → (b ≡ false → C) → C
split true y n = y refl
split false y n = n refl

pub and_true : (a b : Bool) → (a && b) ≡ true → (a ≡ true) × (b ≡ true)
and_true true b h = (refl, h)
and_true false b h = absurd (false≢true h)

-- cases on two numbers
pub compare_le {ℓ} : {C : Type ℓ} (a b : ℕ) → (a ≤ b → C) → (b < a → C) → C
compare_le a b y n = by_cases (dec_le a b) y (λ h. n (omega arith))

pub compare_eq {ℓ} : {C : Type ℓ} (a b : ℕ) → (a ≡ b → C) → ((a ≡ b → ⊥) → C) → C
compare_eq a b y n = by_cases (ℕ_discrete a b) y n

-- a number below suc n is n, or below n
pub below_suc {ℓ} : {C : Type ℓ} (m n : ℕ) → m < suc n → (m ≡ n → C) → (m < n → C) → C
below_suc m n l y r = compare_eq m n y (λ h. r (omega arith))

-- disjunctions taken apart
pub or_true {ℓ} : {C : Type ℓ} (a b : Bool) → (a || b) ≡ true → (a ≡ true → C) → (b ≡ true → C) → C
or_true true b h l r = l refl
or_true false b h l r = r h

pub or_left : (a b : Bool) → a ≡ true → (a || b) ≡ true
or_left a b h = rw h

pub or_right : (a b : Bool) → b ≡ true → (a || b) ≡ true
or_right true b h = refl
or_right false b h = h

pub or_false : (a b : Bool) → (a || b) ≡ false → (a ≡ false) × (b ≡ false)
or_false true b h = absurd (true≢false h)
or_false false b h = (refl, h)

-- a test that is not true is false
pub not_true_false : (b : Bool) → (b ≡ true → ⊥) → b ≡ false
not_true_false true h = absurd (h refl)
not_true_false false h = refl

pub true_not_false : (b : Bool) → b ≡ true → b ≡ false → ⊥
true_not_false b t f = true≢false (sym t ∙ f)

-- some number below n has what can be decided of each, or none has
pub find {ℓ} : {C : Type ℓ} (n : ℕ) (P : ℕ → Type 0) → ((g : ℕ) → P g ⊎ (P g → ⊥)) → ((g : ℕ) → g < n → P g → C)
    → (((g : ℕ) → g < n → P g → ⊥) → C) → C
find zero P d y o = o (λ g l. absurd (omega arith))
find (suc n) P d y o =
    ⊎_elim
    (λ p. y n (le_refl (suc n)) p)
    (λ p. find n P d (λ g l. y g (omega arith))
    (λ h. o (λ g l w. below_suc g n l (λ (e : g ≡ n). p (rw e at w)) (λ k. h g k w))))
    (d n)
