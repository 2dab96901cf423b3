-- A table of one number for each group.
use Rattle.std.specs.Prelude.{ℕ, ◌-◌, List, get_or}

-- the number of group g in a table of one number a group
abbrev pub number_in : List ℕ → ℕ → ℕ
number_in t g = get_or t (g - 1) 0
