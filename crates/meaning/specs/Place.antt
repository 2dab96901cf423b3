-- Claims of kind 7, and what a claim of any kind asks: document 02, card 1.
use Rattle.std.specs.Prelude.{ℕ, ◌<◌, ◌≡◌, Bool, true, false, ◌&&◌, List, [], ◌∷◌}
use Rattle.wire.specs.SheetFormat.{ListKind, inside, apart, place}
use Rattle.meaning.specs.Sheet.{Sheet}
use Rattle.meaning.specs.Sets.{Sets}
use Rattle.meaning.specs.Fits.{Fits}
use Rattle.meaning.specs.Claim.{Claim, within, separate, named, union}

-- x is in every one of the named sets
abbrev pub every : {X : Type 0} → Sets X → List ℕ → X → Bool
every A [] x = true
every A (g ∷ gs) x = named A g x && every A gs x

-- the member numbered i fills the place: it is in every left set and in no right set
pub record Fills {X : Type 0} (A : Sets X) (l r : List ℕ) (i : ℕ) : Type 0 where
  pub listed : i < A.bound
  pub left : every A l (A.who i) ≡ true
  pub right : union A r (A.who i) ≡ false

-- the place can be filled: "some sets that fit have a member in every left set and in no right set"
abbrev pub Fillable : Sheet → List ℕ → List ℕ → Type 0
Fillable s l r = (A : Sets ℕ) × Fits s A × ((i : ℕ) × Fills A l r i)

-- What a claim asks: whether all sets that fit are as it says (kinds 4 to 6), whether some have such a member (kind 7).
pub data Question : Type 0 where
  all_say : Claim → Question
  some_place : List ℕ → List ℕ → Question

-- what a claim on two lists asks
abbrev pub lists_ask : ListKind → List ℕ → List ℕ → Question
lists_ask inside l r = all_say (within l r)
lists_ask apart l r = all_say (separate l r)
lists_ask place l r = some_place l r
