-- The sons of a group as a chain from the last one to the first.
use Rattle.std.specs.Prelude.{ℕ, zero, suc, ◌≤◌, ◌≡◌, cond, List, get_or, Option, Some, None}
use Rattle.tables.specs.declared.groups.GroupNo.{GroupNo}
use Rattle.meaning.specs.Sheet.{Sheet}
use Rattle.meaning.specs.Sons.{is_son}

-- the group numbered n, none for 0
abbrev pub group_of : ℕ → Option GroupNo
group_of zero = None
group_of (suc n) = Some (record { 0 = suc n })

-- what a table has for group g, none for the group numbered 0
abbrev pub link_in : List (Option GroupNo) → ℕ → Option GroupNo
link_in t zero = None
link_in t (suc g) = get_or t g None

-- the greatest son of p below n, 0 where there is none
unfoldable pub son_below : Sheet → ℕ → ℕ → ℕ
son_below s p zero = 0
son_below s p (suc n) = cond (is_son s p n) n (son_below s p n)

-- what linking group g to its parent p does to the two tables
pub record Linked (last prev : List (Option GroupNo)) (g p : ℕ) (last' prev' : List (Option GroupNo)) : Type 0 where
  pub own : link_in last' g ≡ None
  pub parents : link_in last' p ≡ group_of g
  pub others : (h : ℕ) → (h ≡ g → ⊥) → (h ≡ p → ⊥) → link_in last' h ≡ link_in last h
  pub brother : link_in prev' g ≡ link_in last p
  pub brothers : (h : ℕ) → (h ≡ g → ⊥) → link_in prev' h ≡ link_in prev h

-- the links among the first n groups
pub record Chained (s : Sheet) (last prev : List (Option GroupNo)) (n : ℕ) : Type 0 where
  pub sons : (p : ℕ) → 1 ≤ p → p ≤ n → link_in last p ≡ group_of (son_below s p (suc n))
  pub brothers : (g : ℕ) → 1 ≤ g → g ≤ n → link_in prev g ≡ group_of (son_below s (s.parent g) g)
