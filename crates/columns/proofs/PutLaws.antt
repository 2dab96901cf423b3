-- Digits that are set beside others, in one step or in two.
use Prim.Native.Nat.{ℕ, ◌≤◌, ◌<◌, max}
use mathlib.Core.Path.{◌≡◌, ◌∙◌}
use native.Mathlib.Omega.{arith}
use Rattle.wire.specs.Capacity.{group_capacity}
use Rattle.columns.specs.ColumnSteps.{Put}

-- what is put in two steps, or not at all
pub put_as : {n : ℕ} {f h d e : ℕ → ℕ → ℕ} → ((g i : ℕ) → 1 ≤ g → g ≤ group_capacity → i < n → f g i ≡ h g i)
    → Put n f d e → Put n h d e
put_as x p = record { each = λ g i a b l. p.each g i a b l ∙ (rw (x g i a b l)) }

pub put_none : {n : ℕ} {f : ℕ → ℕ → ℕ} (d : ℕ → ℕ → ℕ) → ((g i : ℕ) → f g i ≡ 0) → Put n f d d
put_none d x = record { each = λ g i a b l. rw (x g i) (omega arith) }

pub put_then : {n : ℕ} {f h k c d e : ℕ → ℕ → ℕ} → Put n f c d → Put n h d e
    → ((g i : ℕ) → 1 ≤ g → g ≤ group_capacity → i < n → max (f g i) (h g i) ≡ k g i) → Put n k c e
put_then p q x =
    record { each = λ g i a b l. let y = p.each g i a b l in let z = q.each g i a b l in let v = x g i a b l in omega arith }
