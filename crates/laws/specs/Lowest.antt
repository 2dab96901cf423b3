-- The lowest digit of a number that is set.
use Rattle.std.specs.Prelude.{ℕ, suc, ◌<◌, ◌≡◌}
use Rattle.std.specs.Int.Count.{ones}
use Rattle.laws.specs.Digit.{digit}

-- t is the lowest set digit of m, and r is m without it
pub record Lowest (m t r : ℕ) : Type 0 where
  pub set : digit m t ≡ 1
  pub under : (j : ℕ) → j < t → digit m j ≡ 0
  pub cleared : digit r t ≡ 0
  pub others : (j : ℕ) → (j ≡ t → ⊥) → digit r j ≡ digit m j
  pub fewer : ones m ≡ suc (ones r)
