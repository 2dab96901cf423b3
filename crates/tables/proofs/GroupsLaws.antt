-- Laws of the table of groups: how many there are, and which stands at a place.
use Prim.Native.Nat.{ℕ, ◌<◌, ◌-◌, ◌≤◌}
use mathlib.Core.Path.{◌≡◌}
use mathlib.Core.List.{List}
use native.Mathlib.Omega.{arith}
use lib.ListN.{length, get_or}
use Rattle.laws.proofs.TabulateLaws.{length_tabulate, get_d_tabulate}
use Rattle.wire.specs.SheetFormat.{GroupRecord}
use Rattle.meaning.specs.OfRecords.{group_at}
use Rattle.tables.specs.declared.groups.Group.{Group as TableGroup}
use Rattle.tables.specs.Groups.{group_in, groups_in}

pub length_groups_in : (t : List TableGroup) (n : ℕ) → length (groups_in t n) ≡ n
unfolding groups_in
length_groups_in t n = length_tabulate (group_in t) n

get_d_groups_in : (t : List TableGroup) (n g : ℕ) (d : GroupRecord) → g < n → get_or (groups_in t n) g d ≡ group_in t g
unfolding groups_in
get_d_groups_in t n g d l = get_d_tabulate (group_in t) n g d l

-- group g of the table's groups is the one at its place
pub group_at_groups_in : (t : List TableGroup) (n g : ℕ) → 1 ≤ g → g ≤ n → group_at (groups_in t n) g ≡ group_in t (g - 1)
group_at_groups_in t n g a b = get_d_groups_in t n (g - 1) _ (omega arith)
