-- What a claim says of sets, and when they break it: document 01, "Records of a sheet" (kinds 4, 5, 6) and "Meaning".
use Rattle.std.specs.Prelude.{ℕ, zero, suc, ◌≤◌, ◌<◌, ◌≡◌, Bool, true, false, ◌||◌, List, [], ◌∷◌}
use Rattle.laws.specs.Sum.{sum, bit}
use Rattle.meaning.specs.Sheet.{Sheet, Top, AtMost}
use Rattle.meaning.specs.Sets.{Sets}
use Rattle.meaning.specs.Fits.{Fits}

-- A claim about named sets. Each name is given by the group that it means, 0 for the empty set.
pub data Claim : Type 0 where
  counted : ℕ → ℕ → Top → Claim
  within : List ℕ → List ℕ → Claim
  separate : List ℕ → List ℕ → Claim

-- "The set of a name is its group's set, or the empty set for 0."
abbrev pub named : {X : Type 0} → Sets X → ℕ → X → Bool
named A zero x = false
named A (suc g) x = A.has (suc g) x

-- x is in the union of the named sets
abbrev pub union : {X : Type 0} → Sets X → List ℕ → X → Bool
union A [] x = false
union A (g ∷ gs) x = named A g x || union A gs x

-- the number of members in a named set
unfoldable pub count_named : {X : Type 0} → Sets X → ℕ → ℕ
count_named A g = sum (λ i. bit (named A g (A.who i))) A.bound

-- what the claim says of the sets: kind 4, the count is from lo to hi; kind 5, the union of the left sets is part of
-- the union of the right; kind 6, the two unions share nobody
abbrev pub Says : {X : Type 0} → Claim → Sets X → Type 0
Says (counted g lo hi) A = (lo ≤ count_named A g) × AtMost (count_named A g) hi
Says (within l r) A = (i : ℕ) → i < A.bound → union A l (A.who i) ≡ true → union A r (A.who i) ≡ true
Says (separate l r) A = (i : ℕ) → i < A.bound → union A l (A.who i) ≡ true → union A r (A.who i) ≡ true → ⊥

-- Sets break a claim when what it says is not so of them.
abbrev pub Breaks : {X : Type 0} → Claim → Sets X → Type 0
Breaks c A = Says c A → ⊥

-- some finite sets fit and break the claim
abbrev pub Breakable : Sheet → Claim → Type 0
Breakable s c = (A : Sets ℕ) × Fits s A × Breaks c A
