-- When sets fit a sheet: source document 004, Definition 3; document 01, "Meaning".
use Rattle.std.specs.Prelude.{ℕ, ◌≤◌, ◌<◌, ◌≡◌, Bool, true}
use Rattle.meaning.specs.Sheet.{Sheet, Group, Son, AtMost}
use Rattle.meaning.specs.Sets.{Sets, Distinct, count}

-- The rules for one member, who is in group g where `M g` is true. Each of Definition 3's first four lines speaks of
-- one member at a time.
pub record Meets (s : Sheet) (M : ℕ → Bool) : Type 0 where
  -- line 1: every group is part of its parent
  pub inside : (p g : ℕ) → Son s p g → M g ≡ true → M p ≡ true
  -- line 2: the sons of a 'same' group each equal it
  pub equal : (p g : ℕ) → Son s p g → s.same p ≡ true → M p ≡ true → M g ≡ true
  -- line 3: a 'cover' group is part of the union of its sons
  pub covered : (p : ℕ) → Group s p → s.cover p ≡ true → M p ≡ true → (g : ℕ) × Son s p g × (M g ≡ true)
  -- line 4: two different sons of a 'disjoint' group share nobody
  pub apart : (p g h : ℕ) → Son s p g → Son s p h → s.disjoint p ≡ true → M g ≡ true → M h ≡ true → g ≡ h

-- the groups that the member numbered i is in
abbrev pub groups_of : {X : Type 0} → Sets X → ℕ → ℕ → Bool
groups_of A i g = A.has g (A.who i)

-- The sets fit the sheet: every member meets the rules, and every count is from lo to hi (Definition 3, line 5).
pub record Fits {X : Type 0} (s : Sheet) (A : Sets X) : Type 0 where
  pub distinct : Distinct A
  pub rules : (i : ℕ) → i < A.bound → Meets s (groups_of A i)
  pub least : (g : ℕ) → Group s g → s.lo g ≤ count A g
  pub most : (g : ℕ) → Group s g → AtMost (count A g) (s.hi g)

-- Some finite sets fit (document 01, refusal 8): members range over the natural numbers, an endless supply.
abbrev pub Possible : Sheet → Type 0
Possible s = (A : Sets ℕ) × Fits s A

-- Some finite sets fit and give group g k members (document 01, "Ranges").
abbrev pub Attains : Sheet → ℕ → ℕ → Type 0
Attains s g k = (A : Sets ℕ) × Fits s A × (count A g ≡ k)
