-- The arrangement: document 01, "The arrangement"; its sizes are 004's choice in Lemma 6. Members are numbers, a group is a
-- run. L and U are the bottom-up bounds: the least and the greatest count of a group, before any parent has narrowed them.
use Rattle.std.specs.Prelude.{ℕ, zero, suc, ◌+◌, ◌-◌, min, ◌≡◌, cond, ◌&&◌, ltb}
use Rattle.laws.specs.Sum.{sum}
use Rattle.meaning.specs.Sheet.{Sheet, Son, Top, fin, inf}
use Rattle.meaning.specs.Sons.{is_son, only, sons}
use Rattle.meaning.specs.Part.{BottomUp}

-- the smaller of an upper end and a number
abbrev pub cap : Top → ℕ → ℕ
cap (fin u) n = min u n
cap inf n = n

-- "what the parent has left after earlier sons and the least of later ones"
unfoldable pub left_for : Sheet → (ℕ → ℕ) → (ℕ → ℕ) → ℕ → ℕ → ℕ
left_for s L size p g = size p - (sum (only s p size) g + (sons s p L - sum (only s p L) (suc g)))

-- The size of the son g of p. Under 'same' the parent's count (none where 'same' with 'disjoint' has two or more sons);
-- under 'disjoint' with 'cover' the smaller of its greatest and what is left; under 'cover' alone the smaller of its
-- greatest and the parent's count; otherwise its least.
unfoldable pub size_of : Sheet → (ℕ → ℕ) → (ℕ → Top) → (ℕ → ℕ) → ℕ → ℕ → ℕ
size_of s L U size p g =
    cond (s.same p) (cond (s.disjoint p && ltb 1 (sons s p (λ h. 1))) 0 (size p))
    (cond (s.cover p) (cond (s.disjoint p) (cap (U g) (left_for s L size p g)) (cap (U g) (size p))) (L g))

-- where the last son of p before number n ended, where p starts if there is none
unfoldable pub ended : Sheet → (ℕ → ℕ) → (ℕ → ℕ) → ℕ → ℕ → ℕ
ended s first size p zero = first p
ended s first size p (suc n) = cond (is_son s p n) (first n + size n) (ended s first size p n)

-- The start of the son g of p. Under 'same' or no mode where its parent starts; under 'disjoint' where the previous son
-- ended; under 'cover' alone there too, but not so late that it would pass the parent's end.
unfoldable pub first_of : Sheet → (ℕ → ℕ) → (ℕ → ℕ) → ℕ → ℕ → ℕ
first_of s first size p g =
    cond (s.same p) (first p)
    (cond (s.disjoint p) (ended s first size p g)
    (cond (s.cover p) (min (ended s first size p g) (first p + size p - size g)) (first p)))

pub record Arranged (s : Sheet) (L : ℕ → ℕ) (U : ℕ → Top) (first size : ℕ → ℕ) : Type 0 where
  -- "The root takes its least count and starts at 1."
  pub root_size : size 1 ≡ L 1
  pub root_first : first 1 ≡ 1
  pub son_size : (p g : ℕ) → Son s p g → size g ≡ size_of s L U size p g
  pub son_first : (p g : ℕ) → Son s p g → first g ≡ first_of s first size p g

-- the arrangement that document 01 fixes: from the bottom-up bounds
abbrev pub ArrangedBottomUp : Sheet → (ℕ → ℕ) → (ℕ → ℕ) → Type 0
ArrangedBottomUp s first size = (L : ℕ → ℕ) × (U : ℕ → Top) × BottomUp s L U × Arranged s L U first size
