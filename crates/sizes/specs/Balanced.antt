-- The structural rules as inequalities between numbers, one for each group.
use Rattle.std.specs.Prelude.{ℕ, ◌≤◌, ◌+◌, ◌≡◌, true, Bool}
use Rattle.laws.specs.Sum.{bit}
use Rattle.meaning.specs.Sheet.{Sheet, Son, Group, AtMost}
use Rattle.meaning.specs.Sons.{sons}

-- The rules at group p, for a number f g at each group g: counts of sets that meet the rules satisfy them, and so do the
-- 0s and 1s of one member.
pub record RuleAt (s : Sheet) (p : ℕ) (f : ℕ → ℕ) : Type 0 where
  pub inside : (g : ℕ) → Son s p g → f g ≤ f p
  pub equal : (g : ℕ) → Son s p g → s.same p ≡ true → f g ≡ f p
  pub apart : s.disjoint p ≡ true → sons s p f ≤ f p
  pub covered : s.cover p ≡ true → f p ≤ sons s p f

pub record Balanced (s : Sheet) (f : ℕ → ℕ) : Type 0 where
  pub at : (p : ℕ) → Group s p → RuleAt s p f

-- A choice: numbers f for the members other than one, and that one's groups M. `may g b` says whether that member may be
-- in group g (b true) or out of it (b false).
pub record Choice (s : Sheet) (may : ℕ → Bool → Bool) (f : ℕ → ℕ) (M : ℕ → Bool) : Type 0 where
  pub others : Balanced s f
  pub one : Balanced s (λ g. bit (M g))
  pub least : (g : ℕ) → Group s g → s.lo g ≤ f g + bit (M g)
  pub most : (g : ℕ) → Group s g → AtMost (f g + bit (M g)) (s.hi g)
  pub allowed : (g : ℕ) → Group s g → may g (M g) ≡ true

-- f gives every group a size that the rules and its bounds allow
pub record Sizes (s : Sheet) (f : ℕ → ℕ) : Type 0 where
  pub balanced : Balanced s f
  pub least : (g : ℕ) → Group s g → s.lo g ≤ f g
  pub most : (g : ℕ) → Group s g → AtMost (f g) (s.hi g)
