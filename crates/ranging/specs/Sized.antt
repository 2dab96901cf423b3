-- The sizes of the arrangement, by the numbers that measuring leaves.
use Rattle.std.specs.Prelude.{ℕ, Bool, cond}
use Rattle.meaning.specs.Sheet.{Top}
use Rattle.meaning.specs.Arranged.{cap}

-- The size of a son with the bounds l and u, by its parent's modes ('same', 'disjoint', 'cover') and count w; r is what the
-- parent has left.
unfoldable pub size_by : Bool → Bool → Bool → ℕ → Top → ℕ → ℕ → ℕ
size_by e d c l u w r = cond e w (cond c (cond d (cap u r) (cap u w)) l)
