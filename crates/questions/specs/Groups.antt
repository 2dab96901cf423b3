-- Lists of groups, and the groups among what names mean.
use Rattle.std.specs.Prelude.{ℕ, zero, suc, ◌≤◌, List, [], ◌∷◌, map}
use Rattle.tables.specs.declared.groups.GroupNo.{GroupNo}

-- the numbers of the groups on a list
abbrev pub numbers_of : List GroupNo → List ℕ
numbers_of l = map (λ g. g.0) l

-- "0 stands for the empty set": the groups among what names mean
unfoldable pub groups_among : List ℕ → List ℕ
groups_among [] = []
groups_among (zero ∷ l) = groups_among l
groups_among (suc g ∷ l) = suc g ∷ groups_among l

-- every number on the list is a group of a sheet of `size` groups
abbrev pub AllGroups : ℕ → List ℕ → Type 0
AllGroups size [] = Unit {0}
AllGroups size (g ∷ l) = (1 ≤ g) × (g ≤ size) × AllGroups size l
