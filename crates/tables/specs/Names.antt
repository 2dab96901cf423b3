-- What a name means: document 01, "Records of a sheet", "group (0 stands for the empty set, else 1 to G)". A group's parent is a number of
-- the same kind, 0 where there is none.
use Rattle.std.specs.Prelude.{ℕ, ◌≤◌, ◌≡◌, Option, Some, None}
use Rattle.tables.specs.declared.groups.GroupNo.{GroupNo}

-- the number of a name's group: 0 for the empty set
abbrev pub meant_number : Option GroupNo → ℕ
meant_number None = 0
meant_number (Some g) = g.0

-- a group's number is from 1 on
abbrev pub Numbered : Option GroupNo → Type 0
Numbered None = Unit {0}
Numbered (Some g) = 1 ≤ g.0

-- m is what a name with the group n means
pub record Means (n : ℕ) (m : Option GroupNo) : Type 0 where
  pub number : meant_number m ≡ n
  pub numbered : Numbered m
