-- When a question has a witness, exactly: as a choice for a place (kinds 5 to 7), as sizes under a narrowed bound (kind 4).
use Rattle.std.specs.Prelude.{ℕ, ◌<◌, ◌≤◌}
use mathlib.Core.List.{List, [], ◌∷◌, Memᴰ}
use Rattle.wire.specs.SheetFormat.{ListKind, inside, apart, place}
use Rattle.meaning.specs.Sheet.{Top, fin, inf}

-- n passes the upper end
abbrev pub MoreThan : ℕ → Top → Type 0
MoreThan n (fin k) = k < n
MoreThan n inf = ⊥

-- The places of such a member: in a group of l and in none of r (kind 5), in a group of l and in one of r (kind 6), in all
-- of l and in none of r (kind 7). The empty set, 0, has no member.
pub data Way (l r : List ℕ) : ListKind → List ℕ → List ℕ → Type 0 where
  away : {g : ℕ} → Memᴰ g l → 1 ≤ g → Way l r inside (g ∷ []) r
  along : {g h : ℕ} → Memᴰ g l → 1 ≤ g → Memᴰ h r → 1 ≤ h → Way l r apart (g ∷ h ∷ []) []
  within_all : ((g : ℕ) → Memᴰ g l → 1 ≤ g) → Way l r place l r
