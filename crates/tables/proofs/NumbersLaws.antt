-- Laws of a table of one number for each group: a store is read back, and the others stay.
use Prim.Native.Nat.{ℕ, ◌-◌, ◌≤◌}
use mathlib.Core.Path.{◌≡◌}
use mathlib.Core.List.{List}
use native.Mathlib.Omega.{arith}
use lib.ListN.{length, set}
use lib.Seq.{get_or-set_same, get_or-set_other}
use Rattle.tables.specs.Numbers.{number_in}

-- a store at group g
pub number_same : (t : List ℕ) (g x : ℕ) → 1 ≤ g → g ≤ length t → number_in (set t (g - 1) x) g ≡ x
number_same t g x a l = get_or-set_same t (g - 1) x 0 (omega arith)

pub number_other : (t : List ℕ) (g h x : ℕ) → 1 ≤ g → 1 ≤ h → (h ≡ g → ⊥) → number_in (set t (g - 1) x) h ≡ number_in t h
number_other t g h x a b n = get_or-set_other t (g - 1) (h - 1) x 0 (λ e. n (omega arith))
