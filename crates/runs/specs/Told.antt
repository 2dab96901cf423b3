-- Starts in document 01's words, for given sizes: what `start_runs` leaves in its table.
use Rattle.std.specs.Prelude.{ℕ, ◌+◌, ◌*◌, ◌≤◌, ◌≡◌, List, length}
use Rattle.wire.specs.Capacity.{group_capacity}
use Rattle.meaning.specs.Sheet.{Sheet, Son}
use Rattle.meaning.specs.Arranged.{first_of}
use Rattle.sizes.specs.Balanced.{Balanced}
use Rattle.tables.specs.declared.groups.Group.{Group}
use Rattle.tables.specs.SheetIn.{size_limit, sheet_in}
use Rattle.tables.specs.Numbers.{number_in}

-- The root starts at 1, and every son where document 01 says.
pub record Told (s : Sheet) (size first : ℕ → ℕ) : Type 0 where
  pub root : first 1 ≡ 1
  pub son : (p g : ℕ) → Son s p g → first g ≡ first_of s first size p g

-- No run ends above this: each group moves the end on by at most `size_limit`.
abbrev pub run_limit : ℕ
run_limit = 1 + size_limit * group_capacity

-- the tables that `start_runs` takes: lent long enough, the sizes balanced and not too large
pub record Startable (groups : List Group) (n : ℕ) (sizes firsts ends : List ℕ) : Type 0 where
  pub sizes_long : n ≤ length sizes
  pub firsts_long : n ≤ length firsts
  pub ends_long : n ≤ length ends
  pub balanced : Balanced (sheet_in groups n) (number_in sizes)
  pub top : number_in sizes 1 ≤ size_limit
