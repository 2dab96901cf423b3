-- A sheet as mathematics: groups 1 to `size`, each with a parent, bounds and modes (document 01, "Records of a sheet").
use Rattle.std.specs.Prelude.{ℕ, ◌≤◌, ◌≡◌, Bool, cond, eqb}

-- an upper end: a number, or none
pub data Top : Type 0 where
  fin : ℕ → Top
  inf : Top

-- n does not pass the upper end
abbrev pub AtMost : ℕ → Top → Type 0
AtMost n (fin k) = n ≤ k
AtMost n inf = Unit {0}

-- the upper end that n stands for, where the number `none` stands for no end
unfoldable pub end_of : ℕ → ℕ → Top
end_of none n = cond (eqb n none) inf (fin n)

pub record Sheet : Type 0 where
  pub size : ℕ
  pub parent : ℕ → ℕ
  pub lo : ℕ → ℕ
  pub hi : ℕ → Top
  pub disjoint : ℕ → Bool
  pub cover : ℕ → Bool
  pub same : ℕ → Bool

-- g is the number of a group
pub record Group (s : Sheet) (g : ℕ) : Type 0 where
  pub first : 1 ≤ g
  pub last : g ≤ s.size

-- "A son is a group whose parent this is." Parent 0 is no group, so a group with parent 0 is nobody's son.
pub record Son (s : Sheet) (p g : ℕ) : Type 0 where
  pub above : 1 ≤ p
  pub group : Group s g
  pub under : s.parent g ≡ p
