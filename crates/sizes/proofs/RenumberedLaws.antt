-- Laws of renumbered sets: they fit alike, have the same counts, and break and fill the same claims.
use Prim.Native.Nat.{ℕ, zero, suc}
use mathlib.Core.Path.{◌≡◌, refl, ◌∙◌}
use mathlib.Core.Bool.{Bool}
use mathlib.Core.List.{List, [], ◌∷◌}
use Rattle.meaning.specs.Sheet.{Sheet}
use Rattle.meaning.specs.Sets.{numbered, Distinct, Sets, count}
use Rattle.meaning.specs.Fits.{Fits}
use Rattle.meaning.specs.Claim.{named, union, Claim, counted, within, separate, count_named, Says, Breaks, Breakable}
use Rattle.meaning.specs.Place.{every, Fills, Fillable}
use Rattle.sizes.specs.Renumbered.{renumbered}

pub numbered_distinct : (n : ℕ) (h : ℕ → ℕ → Bool) → Distinct (numbered n h)
numbered_distinct n h = record { once = λ i j k l e. e }

pub renumbered_count : {X : Type 0} (A : Sets X) (g : ℕ) → count (renumbered A) g ≡ count A g
unfolding count
renumbered_count A g = refl

pub renumbered_fits : {X : Type 0} {s : Sheet} {A : Sets X} → Fits s A → Fits s (renumbered A)
unfolding count
renumbered_fits {A = A} f =
    record { distinct = numbered_distinct _ _; rules = f.rules; least = f.least; most = f.most }

-- named sets and their unions have the same members
named_renumbered : {X : Type 0} (A : Sets X) (g i : ℕ) → named (renumbered A) g i ≡ named A g (A.who i)
named_renumbered A zero i = refl
named_renumbered A (suc g) i = refl

union_renumbered : {X : Type 0} (A : Sets X) (l : List ℕ) (i : ℕ) → union (renumbered A) l i ≡ union A l (A.who i)
union_renumbered A [] i = refl
union_renumbered A (g ∷ l) i = rw (named_renumbered A g i, union_renumbered A l i)

every_renumbered : {X : Type 0} (A : Sets X) (l : List ℕ) (i : ℕ) → every (renumbered A) l i ≡ every A l (A.who i)
every_renumbered A [] i = refl
every_renumbered A (g ∷ l) i = rw (named_renumbered A g i, every_renumbered A l i)

renumbered_says : {X : Type 0} (c : Claim) (A : Sets X) → Says c (renumbered A) → Says c A
unfolding count_named
renumbered_says (counted g lo hi) A w = simp (named_renumbered A) at w
renumbered_says (within l r) A w = λ i k. rw (← union_renumbered A l i, ← union_renumbered A r i) (w i k)
renumbered_says (separate l r) A w = λ i k. rw (← union_renumbered A l i, ← union_renumbered A r i) (w i k)

-- Sets over any type of member that fit and break a claim give such sets of numbers.
pub renumbered_breaks : {X : Type 0} {s : Sheet} (c : Claim) {A : Sets X} → Fits s A → Breaks c A → Breakable s c
renumbered_breaks c {A} f n = (renumbered A, renumbered_fits f, λ w. n (renumbered_says c A w))

-- Renumbered sets have a member in every left set and in no right set where the sets do.
pub renumbered_fills : {X : Type 0} {s : Sheet} {l r : List ℕ} {A : Sets X} {i : ℕ} → Fits s A → Fills A l r i → Fillable s l r
renumbered_fills {l = l} {r = r} {A = A} {i = i} f w = (
  renumbered A,
  renumbered_fits f,
  (i, record { listed = w.listed; left = every_renumbered A l i ∙ w.left; right = union_renumbered A r i ∙ w.right }),
)
