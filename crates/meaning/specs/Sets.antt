-- Finite sets of members, one for each group: document 01, "Meaning", "Sets are finite sets of members." The type X of a
-- member is open; the contracts take numbers, where `renumbered_fits` says that nothing is lost by that, and of a register
-- the members that its rows name.
use Rattle.std.specs.Prelude.{ℕ, ◌<◌, ◌≡◌, Bool}
use Rattle.laws.specs.Sum.{sum, bit}

-- the members are `who 0` to `who (bound - 1)`; `has g x` says whether x is in the set of group g
pub record Sets (X : Type 0) : Type 0 where
  pub bound : ℕ
  pub who : ℕ → X
  pub has : ℕ → X → Bool

-- each member is listed once
pub record Distinct {X : Type 0} (A : Sets X) : Type 0 where
  pub once : (i j : ℕ) → i < A.bound → j < A.bound → A.who i ≡ A.who j → i ≡ j

-- the number of members in the set of group g: what 004, Definition 3, line 5, bounds
unfoldable pub count : {X : Type 0} → Sets X → ℕ → ℕ
count A g = sum (λ i. bit (A.has g (A.who i))) A.bound

-- sets whose members are the numbers below `bound`
abbrev pub numbered : ℕ → (ℕ → ℕ → Bool) → Sets ℕ
numbered n h = record { bound = n; who = λ i. i; has = h }
