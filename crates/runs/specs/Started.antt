-- Starting the groups one after another: the starts up to a group are right, and with each group stands where the last of
-- its sons so far ended.
use Rattle.std.specs.Prelude.{ℕ, ◌+◌, ◌-◌, min, suc, ◌*◌, ◌≤◌, ◌≡◌, Bool, cond}
use Rattle.meaning.specs.Sheet.{Sheet, Group, Son}
use Rattle.meaning.specs.Arranged.{ended, first_of}
use Rattle.tables.specs.SheetIn.{size_limit}

-- The start of a son with y members: the modes of its parent ('same', 'disjoint', 'cover'), the parent's start a and count
-- z, and where the previous son ended, w.
unfoldable pub start_by : Bool → Bool → Bool → ℕ → ℕ → ℕ → ℕ → ℕ
start_by e d c a w z y = cond e a (cond d w (cond c (min w (a + z - y)) a))

-- the groups up to i have their starts
pub record Started (s : Sheet) (f first end : ℕ → ℕ) (i : ℕ) : Type 0 where
  pub root : first 1 ≡ 1
  pub son : (p g : ℕ) → Son s p g → g ≤ i → first g ≡ first_of s first f p g
  pub last : (p : ℕ) → Group s p → p ≤ i → end p ≡ ended s first f p (suc i)
  pub near : (g : ℕ) → Group s g → g ≤ i → first g + f g ≤ 1 + size_limit * g
  pub close : (g : ℕ) → Group s g → g ≤ i → end g ≤ 1 + size_limit * i
