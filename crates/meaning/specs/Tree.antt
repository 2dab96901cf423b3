-- What reading a sheet makes sure of: the groups are a tree with one root. No contract speaks of it.
use Rattle.std.specs.Prelude.{ℕ, ◌≤◌, ◌<◌, ◌≡◌}
use Rattle.meaning.specs.Sheet.{Sheet, Group}

-- every group's parent has a lower number
pub record Tree (s : Sheet) : Type 0 where
  pub before : (g : ℕ) → Group s g → s.parent g < g

-- group 1 is the one group without a parent
pub record Rooted (s : Sheet) : Type 0 where
  pub one : Group s 1
  pub top : s.parent 1 ≡ 0
  pub rest : (g : ℕ) → Group s g → 2 ≤ g → 1 ≤ s.parent g
