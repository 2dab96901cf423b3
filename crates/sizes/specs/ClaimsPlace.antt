-- Places: a member in every group of one list and in no group of another. Some sets that fit have such a member exactly
-- when a choice exists under the place's flags.
use Rattle.std.specs.Prelude.{ℕ, ◌≡◌, Bool, false, ◌||◌, true, eqb}
use mathlib.Core.List.{List, [], ◌∷◌, Memᴰ}
use Rattle.meaning.specs.Sheet.{Sheet, Group}

-- whether g is on the list
unfoldable pub is_in : ℕ → List ℕ → Bool
is_in g [] = false
is_in g (h ∷ hs) = eqb g h || is_in g hs

-- M is in every group of `ins` and in none of `outs`
pub record AtPlace (s : Sheet) (ins outs : List ℕ) (M : ℕ → Bool) : Type 0 where
  pub held : (g : ℕ) → Memᴰ g ins → Group s g → M g ≡ true
  pub kept : (g : ℕ) → Memᴰ g outs → Group s g → M g ≡ false
