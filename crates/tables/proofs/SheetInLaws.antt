-- Laws of the sheet that a table of groups holds: its size, the fields of a group, parents and sons.
use Prim.Native.Nat.{ℕ, ◌≤◌, ◌-◌, ◌<◌}
use mathlib.Core.Path.{◌≡◌, ap, ◌∙◌, sym}
use mathlib.Core.List.{List}
use native.Mathlib.Omega.{arith}
use lib.Dec.{eqb}
use Rattle.laws.specs.Digit.{digit}
use Rattle.laws.proofs.Digits.{digit_zero}
use Rattle.wire.specs.Limits.{no_end}
use Rattle.wire.specs.Capacity.{group_capacity}
use Rattle.meaning.specs.Sheet.{Group, end_of, Son}
use Rattle.tables.specs.declared.groups.Group.{Group as TableGroup}
use Rattle.tables.specs.Groups.{group_in}
use Rattle.tables.specs.Modes.{disjoint_mode, cover_mode, same_mode}
use Rattle.tables.specs.SheetIn.{sheet_in, Tabled}
use Rattle.tables.proofs.GroupsLaws.{length_groups_in, group_at_groups_in}

pub size_in : (t : List TableGroup) (n : ℕ) → (sheet_in t n).size ≡ n
unfolding sheet_in
size_in t n = length_groups_in t n

pub group_in_law : (t : List TableGroup) (n : ℕ) {g : ℕ} → 1 ≤ g → g ≤ n → Group (sheet_in t n) g
group_in_law t n a b = record { first = a; last = omega (arith, size_in t n) }

-- the fields of a group
module _ (t : List TableGroup) (n g : ℕ) (k : Group (sheet_in t n) g) where
  pub parent_in_law : (sheet_in t n).parent g ≡ (group_in t (g - 1)).parent
  unfolding sheet_in
  parent_in_law = ap (λ r. r.parent) (group_at_groups_in t n g k.first (omega (arith, size_in t n)))

  pub lo_in_law : (sheet_in t n).lo g ≡ (group_in t (g - 1)).lo
  unfolding sheet_in
  lo_in_law = ap (λ r. r.lo) (group_at_groups_in t n g k.first (omega (arith, size_in t n)))

  pub hi_in_law : (sheet_in t n).hi g ≡ end_of no_end (group_in t (g - 1)).hi
  unfolding sheet_in
  hi_in_law = ap (λ r. end_of no_end r.hi) (group_at_groups_in t n g k.first (omega (arith, size_in t n)))

  pub disjoint_in : (sheet_in t n).disjoint g ≡ disjoint_mode (group_in t (g - 1)).mode
  unfolding sheet_in
  disjoint_in =
      ap (λ r. eqb (digit r.mode 0) 1) (group_at_groups_in t n g k.first (omega (arith, size_in t n)))
      ∙ ap (λ x. eqb x 1) (digit_zero (group_in t (g - 1)).mode)

  pub cover_in : (sheet_in t n).cover g ≡ cover_mode (group_in t (g - 1)).mode
  unfolding sheet_in digit
  cover_in = ap (λ r. cover_mode r.mode) (group_at_groups_in t n g k.first (omega (arith, size_in t n)))

  pub same_in : (sheet_in t n).same g ≡ same_mode (group_in t (g - 1)).mode
  unfolding sheet_in digit
  same_in = ap (λ r. same_mode r.mode) (group_at_groups_in t n g k.first (omega (arith, size_in t n)))

pub few_groups_law : {t : List TableGroup} {n : ℕ} → Tabled t n → (sheet_in t n).size ≤ group_capacity
few_groups_law {t} {n} k = omega (arith, size_in t n, k.small)

-- number 0, which is no group, has no parent
pub none_above : {t : List TableGroup} {n : ℕ} → Tabled t n → (sheet_in t n).parent 0 ≡ 0
unfolding sheet_in
none_above k = k.rooted.top

-- the number that the table has as a group's parent is below the group's; a group other than the root is a son of that group
module _ {t : List TableGroup} {n : ℕ} (k : Tabled t n) (g p : ℕ) (b : g ≤ n) (e : p ≡ (group_in t (g - 1)).parent) where
  pub parent_below : 1 ≤ g → p < g
  parent_below a =
      let q = group_in_law t n a b in
      omega (arith, k.tree.before g q, parent_in_law t n g q)

  pub son_in : 2 ≤ g → Son (sheet_in t n) p g
  son_in a =
      let q = group_in_law t n {g = g} (omega arith) b in
      let up = parent_in_law t n g q in
      record { above = omega (arith, k.rooted.rest g q a); group = q; under = up ∙ sym e }
