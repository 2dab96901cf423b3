-- The six rules of a register, and when sets break one at a group: document 01, "Registers".
use Rattle.std.specs.Prelude.{ℕ, ◌<◌, ◌≡◌, true, false, ◌↔◌}
use Rattle.meaning.specs.Sheet.{Sheet, Group, Son, AtMost}
use Rattle.meaning.specs.Sets.{Sets, count}
use Rattle.meaning.specs.Fits.{groups_of, Fits}

pub data Rule : Type 0 where
  outside : Rule
  lacking : Rule
  uncovered : Rule
  shared : Rule
  below : Rule
  above : Rule

-- document 01's number of each rule
abbrev pub rule_number : Rule → ℕ
rule_number outside = 1
rule_number lacking = 2
rule_number uncovered = 3
rule_number shared = 4
rule_number below = 5
rule_number above = 6

-- the sets break the rule at group g
abbrev pub Broken : {X : Type 0} → Sheet → Sets X → ℕ → Rule → Type 0
-- 1: a member outside the parent
Broken s A g outside = (p i : ℕ) × Son s p g × (i < A.bound) × (groups_of A i g ≡ true) × (groups_of A i p ≡ false)
-- 2: the parent is 'same' and has a member the group lacks
Broken s A g lacking =
    (p i : ℕ) × Son s p g × (s.same p ≡ true) × (i < A.bound) × (groups_of A i p ≡ true) × (groups_of A i g ≡ false)
-- 3: 'cover' and a member in no son
Broken s A g uncovered =
    (i : ℕ) × (s.cover g ≡ true) × (i < A.bound) × (groups_of A i g ≡ true) × ((h : ℕ) → Son s g h → groups_of A i h ≡ false)
-- 4: 'disjoint' and a member in two sons
Broken s A g shared =
    (h k i : ℕ) × (s.disjoint g ≡ true) × Son s g h × Son s g k × (h < k) × (i < A.bound) × (groups_of A i h ≡ true)
    × (groups_of A i k ≡ true)
-- 5: below lo
Broken s A g below = count A g < s.lo g
-- 6: above hi
Broken s A g above = AtMost (count A g) (s.hi g) → ⊥

-- "The answer is the lowest broken group with its first broken rule": rule r is broken at group g, none at a lower group,
-- and no earlier rule at g.
pub record FirstBroken {X : Type 0} (s : Sheet) (A : Sets X) (g : ℕ) (r : Rule) : Type 0 where
  pub group : Group s g
  pub broken : Broken s A g r
  pub lowest : (h : ℕ) → Group s h → h < g → (q : Rule) → Broken s A h q → ⊥
  pub first : (q : Rule) → rule_number q < rule_number r → Broken s A g q → ⊥

-- the answer to a register: 0 and 0 exactly when the sets fit, otherwise the first broken group and rule
pub record Answered {X : Type 0} (s : Sheet) (A : Sets X) (g n : ℕ) : Type 0 where
  pub fits : ((g ≡ 0) × (n ≡ 0)) ↔ Fits s A
  pub breaks : (Fits s A → ⊥) → (r : Rule) × (n ≡ rule_number r) × FirstBroken s A g r
