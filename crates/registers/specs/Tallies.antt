-- What the check has gathered before it looks for broken rules: the columns, each group's sons, and each group's count.
use Rattle.std.specs.Prelude.{ℕ, ◌≤◌, ◌<◌, ◌≡◌, List, get_or, length}
use Rattle.wire.specs.Limits.{row_limit}
use Rattle.meaning.specs.Sheet.{Sheet, Group}
use Rattle.meaning.specs.Sets.{Sets, count}
use Rattle.tables.specs.declared.groups.Group.{Group as TableGroup}
use Rattle.tables.specs.declared.groups.GroupNo.{GroupNo}
use Rattle.tables.specs.Groups.{group_numbers}
use Rattle.tables.specs.SheetIn.{sheet_in}
use Rattle.columns.specs.Columns.{column_digit, column_sets}
use Rattle.sons.specs.SonLists.{SonsListed}

-- entry g of the table is the count of group g
pub record Counted {X : Type 0} (s : Sheet) (A : Sets X) (t : List ℕ) : Type 0 where
  pub each : (g : ℕ) → Group s g → get_or t g 0 ≡ count A g

-- all that the scan takes: the columns c of n members, the lists of sons, and the counts u
pub record Gathered (t : List TableGroup) (size : ℕ) (c : List ℕ) (n : ℕ) (starts : List ℕ) (order : List GroupNo) (u : List ℕ) : Type 0 where
  pub members : n ≤ row_limit
  pub others : (g i : ℕ) → Group (sheet_in t size) g → n ≤ i → i < row_limit → column_digit c g i ≡ 0
  pub sons : SonsListed (sheet_in t size) starts order
  pub long : group_numbers ≤ length u
  pub counts : Counted (sheet_in t size) (column_sets c n) u
