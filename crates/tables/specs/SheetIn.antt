-- The sheet that a table of groups holds, and what holds of the table where the sheet is readable.
use Rattle.std.specs.Prelude.{ℕ, ◌*◌, ◌≤◌, List, length}
use Rattle.tables.specs.declared.groups.Group.{Group}
use Rattle.wire.specs.Limits.{no_end}
use Rattle.wire.specs.Capacity.{group_capacity}
use Rattle.meaning.specs.Sheet.{Sheet}
use Rattle.meaning.specs.Tree.{Tree, Rooted}
use Rattle.meaning.specs.OfRecords.{sheet_of}
use Rattle.tables.specs.Groups.{groups_in}

-- the sheet of the first n groups of the table
unfoldable pub sheet_in : List Group → ℕ → Sheet
sheet_in t n = sheet_of (groups_in t n)

-- No end of an interval that the groups of a table give is above this: `no_end` for each group.
abbrev pub size_limit : ℕ
size_limit = no_end * group_capacity

-- the table holds the groups of a readable sheet: a tree with group 1 as its root (document 01, "Records of a sheet", kind 2)
pub record Tabled (t : List Group) (n : ℕ) : Type 0 where
  pub some : 1 ≤ n
  pub small : n ≤ group_capacity
  pub long : n ≤ length t
  pub tree : Tree (sheet_in t n)
  pub rooted : Rooted (sheet_in t n)
