-- What the table of groups holds: for each group its parent, lo, hi and mode.
use Rattle.std.specs.Prelude.{ℕ, ◌+◌, ◌-◌, List, get_or}
use Rattle.tables.specs.declared.groups.Group.{Group}
use Rattle.laws.specs.Tabulate.{tabulate}
use Rattle.wire.specs.Capacity.{group_capacity}
use Rattle.wire.specs.SheetFormat.{GroupRecord}
use Rattle.tables.specs.Entry.{no_group}
use Rattle.tables.specs.Names.{meant_number}

-- the record of a group
abbrev pub group_record : Group → GroupRecord
group_record g = record { parent = meant_number g.parent; lo = g.lo; hi = g.hi; mode = g.mode.0 }

-- the record of the group numbered g + 1
abbrev pub group_in : List Group → ℕ → GroupRecord
group_in t g = group_record (get_or t g no_group)

-- the records of the first n groups
unfoldable pub groups_in : List Group → ℕ → List GroupRecord
groups_in t n = tabulate (group_in t) n

-- the length of a table that is reached by group numbers: these start at 1, and 0 is for none
abbrev pub group_numbers : ℕ
group_numbers = group_capacity + 1

-- the fields of group g
abbrev pub parent_in : List Group → ℕ → ℕ
parent_in t g = (group_in t (g - 1)).parent

abbrev pub lo_in : List Group → ℕ → ℕ
lo_in t g = (group_in t (g - 1)).lo

abbrev pub hi_in : List Group → ℕ → ℕ
hi_in t g = (group_in t (g - 1)).hi

abbrev pub mode_in : List Group → ℕ → ℕ
mode_in t g = (group_in t (g - 1)).mode
