-- Tests that pass, the refusal of a list of tests, and going on after one.
use Prim.Native.Nat.{◌≤◌, ℕ, zero, suc}
use mathlib.Core.Path.{◌≡◌, refl}
use mathlib.Core.Bool.{true, false}
use mathlib.Core.List.{List, [], ◌∷◌}
use native.Mathlib.Omega.{arith}
use lib.ListN.{take}
use lib.Dec.{eqb}
use borrow.Author.Tests.{eqb-false, eqb-true}
use Rattle.laws.proofs.Cases.{split}
use Rattle.wire.specs.Record.{Test, test, refusal, Reading, onward, read, refused}

-- every test passes
abbrev pub Pass : List Test → Type 0
Pass [] = Unit {0}
Pass (test n ok ∷ ts) = (ok ≡ true) × Pass ts

-- no test's number is 0
abbrev pub Nonzero : List Test → Type 0
Nonzero [] = Unit {0}
Nonzero (test n ok ∷ ts) = (1 ≤ n) × Nonzero ts

-- a refusal is 0 exactly when every test passes
pub refusal_zero : (ts : List Test) → Pass ts → refusal ts ≡ 0
unfolding refusal
refusal_zero [] p = refl
refusal_zero (test n ok ∷ ts) p = rw p.0 (refusal_zero ts p.1)

pub passed : (ts : List Test) → Nonzero ts → refusal ts ≡ 0 → Pass ts
unfolding refusal
passed [] w e = tt
passed (test n true ∷ ts) w e = (refl, passed ts w.1 e)
passed (test n false ∷ ts) w e = absurd (omega arith)

-- the first k tests
pub pass_take : (k : ℕ) (ts : List Test) → Pass ts → Pass (take k ts)
pass_take zero ts p = tt
pass_take (suc k) [] p = tt
pass_take (suc k) (test n ok ∷ ts) p = (p.0, pass_take k ts p.1)

pub refusal_take : (k : ℕ) (ts : List Test) → (refusal (take k ts) ≡ 0 → ⊥) → refusal ts ≡ refusal (take k ts)
unfolding refusal
refusal_take zero ts w = absurd (w refl)
refusal_take (suc k) [] w = refl
refusal_take (suc k) (test n true ∷ ts) w = refusal_take k ts w
refusal_take (suc k) (test n false ∷ ts) w = refl

-- what reading goes on to where every test passed
pub onward_passed : {A : Type 0} (ts : List Test) (r : ℕ) (next : Reading A) → Pass ts → onward (refusal ts) r next ≡ next
unfolding onward
onward_passed ts r next p = rw (refusal_zero ts p)

-- a refusal is no value
pub never_read : {A C : Type 0} {n r : ℕ} {a : A} → refused n r ≡ read a → C
never_read e = let z : ◌≡◌ {A = ℕ} 0 1 = cc in absurd (omega arith)

-- no refusal is 0
abbrev pub Positive : {A : Type 0} → Reading A → Type 0
Positive (read a) = Unit {0}
Positive (refused n r) = 1 ≤ n

pub onward_positive : {A : Type 0} (n r : ℕ) (next : Reading A) → Positive next → Positive (onward n r next)
unfolding onward
onward_positive n r next p = split (eqb n 0) (λ e. rw e p) (λ e. let h : n ≡ 0 → ⊥ = eqb-false n 0 e in rw e (omega arith))

-- reading came to an end only past tests that passed
pub onward_read : {A : Type 0} (ts : List Test) → Nonzero ts → (r : ℕ) (next : Reading A) (a : A)
    → onward (refusal ts) r next ≡ read a → Pass ts × (next ≡ read a)
unfolding onward
onward_read ts w r next a e =
    split (eqb (refusal ts) 0) (λ t. (passed ts w (eqb-true _ _ t), rw t at e))
    (λ t. never_read (rw t at e))
