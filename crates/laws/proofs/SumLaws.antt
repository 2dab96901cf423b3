-- Laws of `bit` and `sum`.
use Prim.Native.Nat.{◌≤◌, zero-le, ℕ, zero, suc, ◌<◌, ◌+◌, ◌-◌, min}
use mathlib.Core.Path.{◌≡◌, refl, sym, ap}
use mathlib.Core.Bool.{Bool, true, false, cond, ◌&&◌}
use native.Mathlib.Omega.{arith}
use native.Mathlib.Nat.{le_refl, add-zero, add-suc}
use borrow.Author.Tests.{eq-eqb, ne_eqb, lt-ltb, le-ltb, le-leb, lt-leb}
use lib.Dec.{eqb, leb, ltb}
use Rattle.laws.specs.Sum.{bit, sum}
use Rattle.laws.proofs.Cases.{below_suc, compare_eq, compare_le}

-- bits
pub bit_most : (b : Bool) → bit b ≤ 1
bit_most true = omega arith
bit_most false = omega arith

pub bit_le : (a b : Bool) → (a ≡ true → b ≡ true) → bit a ≤ bit b
bit_le true b h = rw (h refl) (omega arith)
bit_le false b h = zero-le

pub bit_le_true : (a b : Bool) → bit a ≤ bit b → a ≡ true → b ≡ true
bit_le_true a true h e = refl
bit_le_true true false h e = absurd (omega arith)
bit_le_true false false h e = e

pub bit_eq : (a b : Bool) → bit a ≡ bit b → a ≡ b
bit_eq true true h = refl
bit_eq true false h = absurd (omega arith)
bit_eq false true h = absurd (omega arith)
bit_eq false false h = refl

pub bit_true : (b : Bool) → 1 ≤ bit b → b ≡ true
bit_true true h = refl
bit_true false h = absurd (omega arith)

pub true_bit : {b : Bool} → b ≡ true → bit b ≡ 1
true_bit h = rw h

pub false_bit : {b : Bool} → b ≡ false → bit b ≡ 0
false_bit h = rw h

-- sums
pub sum_le : (f h : ℕ → ℕ) (n : ℕ) → ((m : ℕ) → m < n → f m ≤ h m) → sum f n ≤ sum h n
unfolding sum
sum_le f h zero p = zero-le
sum_le f h (suc n) p = omega (arith, sum_le f h n (λ m q. p m (omega arith)), p n (le_refl (suc n)))

pub sum_eq : (f h : ℕ → ℕ) (n : ℕ) → ((m : ℕ) → m < n → f m ≡ h m) → sum f n ≡ sum h n
unfolding sum
sum_eq f h zero p = refl
sum_eq f h (suc n) p = omega (arith, sum_eq f h n (λ m q. p m (omega arith)), p n (le_refl (suc n)))

pub sum_suc : (f : ℕ → ℕ) (n : ℕ) → sum f (suc n) ≡ sum f n + f n
unfolding sum
sum_suc f n = refl

-- the first term apart
pub sum_first : (f : ℕ → ℕ) (n : ℕ) → sum f (suc n) ≡ f 0 + sum (λ m. f (suc m)) n
unfolding sum
sum_first f zero = omega arith
sum_first f (suc n) = omega (arith, sum_first f n)

pub sum_zero : (f : ℕ → ℕ) (n : ℕ) → ((m : ℕ) → m < n → f m ≡ 0) → sum f n ≡ 0
unfolding sum
sum_zero f zero p = refl
sum_zero f (suc n) p = omega (arith, sum_zero f n (λ m q. p m (omega arith)), p n (le_refl (suc n)))

pub sum_add : (f h : ℕ → ℕ) (n : ℕ) → sum (λ m. f m + h m) n ≡ sum f n + sum h n
unfolding sum
sum_add f h zero = refl
sum_add f h (suc n) = omega (arith, sum_add f h n)

-- a term is at most the sum
pub sum_term : (f : ℕ → ℕ) (n g : ℕ) → g < n → f g ≤ sum f n
unfolding sum
sum_term f zero g l = absurd (omega arith)
sum_term f (suc n) g l = below_suc g n l (λ e. rw e (omega arith)) (λ k. omega (arith, sum_term f n g k))

-- a sum up to a number, with the term at it, is at most a longer sum
pub sum_prefix : (f : ℕ → ℕ) (n g : ℕ) → g < n → sum f g + f g ≤ sum f n
unfolding sum
sum_prefix f zero g l = absurd (omega arith)
sum_prefix f (suc n) g l = below_suc g n l (λ e. rw e (omega arith)) (λ k. omega (arith, sum_prefix f n g k))

pub sum_longer : (f : ℕ → ℕ) (k n : ℕ) → k ≤ n → sum f k ≤ sum f n
sum_longer f k n l = compare_eq k n (λ e. rw e (le_refl _)) (λ h. omega (arith, sum_prefix f n k (omega arith)))

-- the terms after a number, in two sums of which one is not above the other
pub sum_gap : (a b : ℕ → ℕ) (k n : ℕ) → ((m : ℕ) → m < n → a m ≤ b m) → k ≤ n → sum b k + sum a n ≤ sum b n + sum a k
unfolding sum
sum_gap a b k zero h l = let e : k ≡ 0 = omega arith in rw e (omega arith)
sum_gap a b k (suc n) h l =
    compare_le k n
    (λ i. omega (arith, sum_gap a b k n (λ m j. h m (omega arith)) i, h n (le_refl (suc n))))
    (λ i. let e : k ≡ suc n = omega arith in rw e (omega arith))

-- the gap of one term, in two such sums
pub sum_gap_term : (a b : ℕ → ℕ) (n g : ℕ) → ((m : ℕ) → m < n → a m ≤ b m) → g < n → sum a n + b g ≤ sum b n + a g
unfolding sum
sum_gap_term a b n g h l = omega (arith, sum_gap a b (suc g) n h l, sum_le a b g (λ m k. h m (omega arith)))

-- terms that are not above, with a sum that is not below, are equal
pub sum_tight : (f h : ℕ → ℕ) (n : ℕ) → ((m : ℕ) → m < n → f m ≤ h m) → sum h n ≤ sum f n
    → (m : ℕ) → m < n → f m ≡ h m
sum_tight f h n p q m l = omega (arith, sum_gap_term f h n m p l, p m l)

-- the place of a number below a sum among its terms
pub locate : (f : ℕ → ℕ) (n x : ℕ) → x < sum f n → (g : ℕ) × (g < n) × (sum f g ≤ x) × (x < sum f g + f g)
unfolding sum
locate f zero x l = absurd (omega arith)
locate f (suc n) x l =
    compare_le (sum f n) x
    (λ h. (n, le_refl (suc n), h, l))
    (λ h. let w = locate f n x h in (w.0, omega arith, w.2, w.3))

-- a sum that is not 0 has a term that is not 0
pub sum_some : (f : ℕ → ℕ) (n : ℕ) → 1 ≤ sum f n → (g : ℕ) × (g < n) × (1 ≤ f g)
sum_some f n l = let w = locate f n 0 l in (w.0, w.1, omega arith)

-- terms at most c of which no two are positive
pub sum_one : (f : ℕ → ℕ) (c n : ℕ) → ((m : ℕ) → m < n → f m ≤ c)
    → ((g h : ℕ) → g < h → h < n → 1 ≤ f g → 1 ≤ f h → ⊥) → sum f n ≤ c
unfolding sum
sum_one f c zero p q = zero-le
sum_one f c (suc n) p q =
    compare_le 1 (f n)
    (λ h. compare_le 1 (sum f n)
    (λ k. let w = sum_some f n k in absurd (q w.0 n w.1 (le_refl (suc n)) w.2 h))
    (λ k. omega (arith, p n (le_refl (suc n)))))
    (λ h. omega (arith, sum_one f c n (λ m l. p m (omega arith)) (λ a b l k. q a b l (omega arith))))

-- one term apart
pub sum_but : (f : ℕ → ℕ) (n j : ℕ) → j < n → sum f n ≡ sum (λ i. cond (eqb i j) 0 (f i)) n + f j
unfolding sum
sum_but f zero j l = absurd (omega arith)
sum_but f (suc n) j l =
    below_suc
    j
    n
    l
    (λ e. let same = sum_eq (λ i. cond (eqb i j) 0 (f i)) f n (λ i k. rw (ne_eqb i j (omega arith))) in
    rw (eq-eqb n j (sym e)) (omega (arith, ap f e)))
    (λ k. rw (ne_eqb n j (omega arith)) (omega (arith, sum_but f n j k)))

-- the numbers from a up to the number before e, below n
pub sum_run : (a e n : ℕ) → a ≤ e → sum (λ m. bit (leb a m && ltb m e)) n ≡ min n e - min n a
unfolding sum
sum_run a e zero h = omega arith
sum_run a e (suc n) h =
    compare_le a n
    (λ x. compare_le (suc n) e
    (λ y. rw (le-leb a n x, lt-ltb n e y) (omega (arith, sum_run a e n h)))
    (λ y. rw (le-leb a n x, le-ltb n e (omega arith)) (omega (arith, sum_run a e n h))))
    (λ x. rw (lt-leb a n x) (omega (arith, sum_run a e n h)))

-- the first k terms apart
pub sum_parts : (f : ℕ → ℕ) (k n : ℕ) → sum f (k + n) ≡ sum f k + sum (λ m. f (k + m)) n
unfolding sum
sum_parts f k zero = rw (add-zero k) (omega arith)
sum_parts f k (suc n) = rw (add-suc k n) (omega (arith, sum_parts f k n))
