-- Laws of lists of groups: the groups among the meanings of names, and unions over them.
use Prim.Native.Nat.{ℕ, ◌≤◌, zero, suc, ◌<◌, ◌+◌}
use mathlib.Core.Path.{◌≡◌, refl, ap}
use mathlib.Core.Bool.{◌||◌}
use mathlib.Core.List.Memᴰ
use mathlib.Core.List.{List, Memᴰ, [], ◌∷◌, ◌++◌}
use mathlib.Core.Logic.{◌⊎◌, inl, inr, ⊎_elim}
use native.Mathlib.Omega.{arith}
use native.Mathlib.Numerals.{add-one}
use lib.ListN.{length, get_or, take, get_or-map}
use Rattle.std.proofs.lemmas.List.{length-map, take_all}
use lib.Seq.{take-suc}
use Rattle.meaning.specs.Sets.{Sets}
use Rattle.meaning.specs.Claim.{union}
use Rattle.tables.specs.declared.groups.GroupNo.{GroupNo}
use Rattle.questions.specs.Groups.{numbers_of, groups_among, AllGroups}

-- every number on the list is at most n: a group of a sheet of n groups, or 0
abbrev pub AllUpTo : ℕ → List ℕ → Type 0
AllUpTo n l = (g : ℕ) → Memᴰ g l → g ≤ n

-- The empty set has no members: what names mean and the groups among it have the same union.
pub union_groups : {X : Type 0} (A : Sets X) (l : List ℕ) (x : X) → union A (groups_among l) x ≡ union A l x
unfolding groups_among
union_groups A [] x = refl
union_groups A (zero ∷ l) x = union_groups A l x
union_groups A (suc g ∷ l) x = ap (λ b. A.has (suc g) x || b) (union_groups A l x)

pub among_none : groups_among [] ≡ []
unfolding groups_among
among_none = refl

pub among_more : (g : ℕ) (l : List ℕ) → groups_among (g ∷ l) ≡ groups_among (g ∷ []) ++ groups_among l
unfolding groups_among
among_more zero l = refl
among_more (suc g) l = refl

pub among_one : (g : ℕ) → 1 ≤ g → groups_among (g ∷ []) ≡ g ∷ []
unfolding groups_among
among_one zero l = absurd (omega arith)
among_one (suc g) l = refl

pub among_zero : groups_among (0 ∷ []) ≡ []
unfolding groups_among
among_zero = refl

pub among_all : (size : ℕ) (l : List ℕ) → AllUpTo size l → AllGroups size (groups_among l)
unfolding groups_among
among_all size [] h = tt
among_all size (zero ∷ l) h = among_all size l (λ g m. h g (Memᴰ.tail m))
among_all size (suc g ∷ l) h =
    (omega arith, h (suc g) (Memᴰ.head refl), among_all size l (λ i m. h i (Memᴰ.tail m)))

-- names are left out exactly where one means the empty set
pub among_length : (l : List ℕ) → length (groups_among l) ≤ length l
unfolding groups_among
among_length [] = omega arith
among_length (zero ∷ l) = omega (arith, among_length l)
among_length (suc g ∷ l) = omega (arith, among_length l)

pub among_short : (l : List ℕ) → length (groups_among l) < length l → Memᴰ 0 l
unfolding groups_among
among_short [] h = absurd (omega arith)
among_short (zero ∷ l) h = Memᴰ.head refl
among_short (suc g ∷ l) h = Memᴰ.tail (among_short l (omega arith))

pub among_whole : (l : List ℕ) → length l ≤ length (groups_among l) → groups_among l ≡ l
unfolding groups_among
among_whole [] h = refl
among_whole (zero ∷ l) h = absurd (omega (arith, among_length l))
among_whole (suc g ∷ l) h = ap (λ k. suc g ∷ k) (among_whole l (omega arith))

-- the numbers on a list
pub get_d_in : (l : List ℕ) (i : ℕ) → i < length l → Memᴰ (get_or l i 0) l
get_d_in [] i h = absurd (omega arith)
get_d_in (x ∷ l) zero h = Memᴰ.head refl
get_d_in (x ∷ l) (suc i) h = Memᴰ.tail (get_d_in l i (omega arith))

pub in_take_next : (t : List ℕ) (i g : ℕ) → i < length t → Memᴰ g (take (i + 1) t)
    → Memᴰ g (take i t) ⊎ (g ≡ get_or t i 0)
in_take_next t i g l m =
    ⊎_elim inl (λ o. inr (Memᴰ.eq_of_singleton o))
    (Memᴰ.append_cases (take i t) (rw (add-one, take-suc t i 0 l) at m))

-- the groups on a list, and their numbers
pub number_at : (l : List GroupNo) (i : ℕ) → get_or (numbers_of l) i 0 ≡ (get_or l i (record { 0 = 0 })).0
number_at l i = get_or-map (λ g. g.0) l i (record { 0 = 0 })

pub length_numbers : (l : List GroupNo) → length (numbers_of l) ≡ length l
length_numbers l = length-map l (λ g. g.0)

-- one group of a list
pub all_groups : (size : ℕ) (l : List ℕ) → AllGroups size l → (g : ℕ) → Memᴰ g l → (1 ≤ g) × (g ≤ size)
all_groups size [] w g m = absurd (Memᴰ.not-nil m)
all_groups size (h ∷ l) w g m =
    ⊎_elim (λ (e : g ≡ h). rw e (w.0, w.1)) (λ i. all_groups size l w.2 g i) (Memᴰ.cases_cons m)

pub all_taken : (l : List GroupNo) (i : ℕ) → length l ≤ i → take i (numbers_of l) ≡ numbers_of l
all_taken l i h = take_all i (numbers_of l) (omega (arith, length_numbers l))

pub group_at : (size : ℕ) (l : List GroupNo) → AllGroups size (numbers_of l) → (i : ℕ) → i < length l
    → (1 ≤ (get_or l i (record { 0 = 0 })).0) × ((get_or l i (record { 0 = 0 })).0 ≤ size)
group_at size l w i h =
    rw (number_at l i) at
    (all_groups size (numbers_of l) w (get_or (numbers_of l) i 0) (get_d_in (numbers_of l) i (omega (arith, length_numbers l))))

-- the groups among numbers of a sheet, or 0
pub among_known : (size : ℕ) (l : List ℕ) → AllUpTo size l → AllUpTo size (groups_among l)
among_known size l h g m = (all_groups size (groups_among l) (among_all size l h) g m).1
