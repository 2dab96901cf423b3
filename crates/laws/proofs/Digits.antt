-- The binary digits of a word: what 'and', 'or', the lowest set digit and the number of ones are in terms of digits.
use Prim.Native.Nat.{ℕ, ◌%◌, suc, ◌/◌, ◌≤◌, ◌^◌, zero, ◌+◌, ◌*◌, ◌<◌, min, max, ◌-◌}
use mathlib.Core.Path.{◌≡◌, ap, ◌∙◌, refl, sym}
use native.Mathlib.Omega.{arith}
use native.Mathlib.Nat.{div-one, zero-div, pow-suc, zero-add, lt_of_le_of_lt, add-zero}
use native.Mathlib.Numerals.{one-add}
use borrow.Author.Tests.{eq-eqb, ne_eqb}
use lib.Dec.{eqb}
use lib.Arith.{lt-one}
use lib.Pow.{shr-shr, shr_lt, shr_le, pow-lt, split, shl-shr}
use lib.Bits.{block_half, block_odd, bit_and, and_step, bit_or, or_step, and_self, and_le_l}
use lib.Count.{ones, ones_step, count_trailing_zeros}
use Rattle.laws.specs.Sum.{bit, sum}
use Rattle.laws.specs.Digit.{digit}
use Rattle.laws.specs.Lowest.{Lowest}
use Rattle.laws.proofs.Cases.{compare_eq, compare_le}
use Rattle.laws.proofs.SumLaws.{sum_eq, sum_zero, sum_first}

pub digit_zero : (w : ℕ) → digit w 0 ≡ w % 2
unfolding digit
digit_zero w = ap (λ (x : ℕ). x % 2) (div-one w)

pub digit_suc : (w k : ℕ) → digit w (suc k) ≡ digit (w / 2) k
unfolding digit
digit_suc w k = rw (← one-add k, ← shr-shr w 1 k)

pub digit_le : (w k : ℕ) → digit w k ≤ 1
unfolding digit
digit_le w k = omega arith

pub digit_of_zero : (k : ℕ) → digit 0 k ≡ 0
unfolding digit
digit_of_zero k = rw (zero-div (2 ^ k))

-- the digits below n of a * 2 ^ n + r are r's
pub digit_low : (n k a r : ℕ) → k < n → digit (a * 2 ^ n + r) k ≡ digit r k
digit_low zero k a r l = absurd (omega arith)
digit_low (suc n) zero a r l = rw (digit_zero (a * 2 ^ suc n + r), digit_zero r) (block_odd a n r)
digit_low (suc n) (suc k) a r l =
    rw (digit_suc (a * 2 ^ suc n + r) k, digit_suc r k, block_half a n r) (digit_low n k a (r / 2) (omega arith))

and_half : (a b : ℕ) → (bit_and a b / 2 ≡ bit_and (a / 2) (b / 2)) × (bit_and a b % 2 ≡ min (a % 2) (b % 2))
and_half a b = omega (arith, and_step a b)

or_half : (a b : ℕ) → (bit_or a b / 2 ≡ bit_or (a / 2) (b / 2)) × (bit_or a b % 2 ≡ max (a % 2) (b % 2))
or_half a b = omega (arith, or_step a b)

pub digit_and : (a b k : ℕ) → digit (bit_and a b) k ≡ min (digit a k) (digit b k)
digit_and a b zero = rw (digit_zero (bit_and a b), digit_zero a, digit_zero b) (and_half a b).1
digit_and a b (suc k) =
    rw (digit_suc (bit_and a b) k, digit_suc a k, digit_suc b k, (and_half a b).0) (digit_and (a / 2) (b / 2) k)

pub digit_or : (a b k : ℕ) → digit (bit_or a b) k ≡ max (digit a k) (digit b k)
digit_or a b zero = rw (digit_zero (bit_or a b), digit_zero a, digit_zero b) (or_half a b).1
digit_or a b (suc k) =
    rw (digit_suc (bit_or a b) k, digit_suc a k, digit_suc b k, (or_half a b).0) (digit_or (a / 2) (b / 2) k)

-- a power of two has one digit set
pub digit_pow : (j k : ℕ) → digit (2 ^ j) k ≡ bit (eqb j k)
digit_pow zero zero = digit_zero 1
digit_pow zero (suc k) = rw (digit_suc 1 k, ne_eqb 0 (suc k) (λ e. omega arith)) (digit_of_zero k)
digit_pow (suc j) zero =
    rw (digit_zero (2 ^ suc j), ne_eqb (suc j) 0 (λ e. omega arith), pow-suc 2 j) (omega arith)
digit_pow (suc j) (suc k) =
    let half : 2 ^ suc j / 2 ≡ 2 ^ j = rw (pow-suc 2 j) (omega arith) in
    rw (digit_suc (2 ^ suc j) k, half)
    (compare_eq j k
    (λ e. rw (eq-eqb (suc j) (suc k) (ap suc e)) (digit_pow j k ∙ (rw (eq-eqb j k e))))
    (λ e. rw (ne_eqb (suc j) (suc k) (λ f. e (omega arith))) (digit_pow j k ∙ (rw (ne_eqb j k e)))))

pub ones_of_zero : ones 0 ≡ 0
unfolding ones
ones_of_zero = refl

ones_half : (m : ℕ) → ones m ≡ m % 2 + ones (m / 2)
ones_half m = ones_step m

lowest_odd : (m : ℕ) → m % 2 ≡ 1 → Lowest m 0 (m / 2 * 2)
lowest_odd m e =
    record {
      set = digit_zero m ∙ e;
      under = λ j l. absurd (omega arith);
      cleared = digit_zero (m / 2 * 2) ∙ omega arith;
      others = other m;
      fewer = let h : m / 2 * 2 / 2 ≡ m / 2 = omega arith in
          let z = rw h at (ones_half (m / 2 * 2)) in omega (arith, ones_half m);
    }
  where
    other : (m j : ℕ) → (j ≡ 0 → ⊥) → digit (m / 2 * 2) j ≡ digit m j
    other m zero h = absurd (h refl)
    other m (suc j) h = let k : m / 2 * 2 / 2 ≡ m / 2 = omega arith in rw (digit_suc (m / 2 * 2) j, digit_suc m j, k)

lowest_even : (m t r : ℕ) → m % 2 ≡ 0 → Lowest (m / 2) t r → Lowest m (suc t) (r * 2)
lowest_even m t r e h =
    record {
      set = digit_suc m t ∙ h.set;
      under = low;
      cleared = rw (digit_suc (r * 2) t, half) h.cleared;
      others = other;
      fewer = let z = rw half at (ones_half (r * 2)) in omega (arith, ones_half m, h.fewer);
    }
  where
    half : r * 2 / 2 ≡ r
    half = omega arith

    low : (j : ℕ) → j < suc t → digit m j ≡ 0
    low zero l = digit_zero m ∙ e
    low (suc j) l = digit_suc m j ∙ h.under j (omega arith)

    other : (j : ℕ) → (j ≡ suc t → ⊥) → digit (r * 2) j ≡ digit m j
    other zero n = rw (digit_zero (r * 2), digit_zero m) (omega arith)
    other (suc j) n = rw (digit_suc (r * 2) j, digit_suc m j, half) (h.others j (λ k. n (ap suc k)))

rest_odd : (m : ℕ) → m % 2 ≡ 1 → bit_and m (m - 1) ≡ m / 2 * 2
rest_odd m e =
    let h : (m - 1) / 2 ≡ m / 2 = omega arith in
    let z = rw h at (and_step m (m - 1)) in omega (arith, and_self (m / 2))

rest_even : (m : ℕ) → 0 < m → m % 2 ≡ 0 → bit_and m (m - 1) ≡ bit_and (m / 2) (m / 2 - 1) * 2
rest_even m p e =
    let h : (m - 1) / 2 ≡ m / 2 - 1 = omega arith in
    let z = rw h at (and_step m (m - 1)) in omega arith

-- `trailing_zeros` of a word that is not 0 is its lowest set digit, and `m & (m - 1)` is the word without it
pub lowest : (n m : ℕ) → 0 < m → m < 2 ^ n → (count_trailing_zeros n m < n) × Lowest m (count_trailing_zeros n m) (bit_and m (m - 1))
unfolding count_trailing_zeros
lowest zero m p l = absurd (omega (arith, lt-one l))
lowest (suc n) m p l =
    compare_eq (m % 2) 0
    (λ e. let w = lowest n (m / 2) (omega arith) (let z = rw (pow-suc 2 n) at l in omega arith) in
    rw (e, rest_even m p e) (omega (arith, w.0), lowest_even m (count_trailing_zeros n (m / 2)) (bit_and (m / 2) (m / 2 - 1)) e w.1))
    (λ e. let o : m % 2 ≡ 1 = omega arith in rw (o, rest_odd m o) (omega arith, lowest_odd m o))

-- `count_ones` is the number of set digits
pub ones_digits : (n m : ℕ) → m < 2 ^ n → ones m ≡ sum (digit m) n
ones_digits zero m l = rw (lt-one l, sum_zero (digit 0) 0 (λ k h. absurd (omega arith))) ones_of_zero
ones_digits (suc n) m l =
    let h : m / 2 < 2 ^ n = (let z = rw (pow-suc 2 n) at l in omega arith) in
    ones_step m ∙ (rw (
      sum_first (digit m) n,
      digit_zero m,
      ones_digits n (m / 2) h,
      sum_eq (digit (m / 2)) (λ k. digit m (suc k)) n (λ k o. sym (digit_suc m k)),
    ))

-- the digits from k on
pub digit_shift : (w k j : ℕ) → digit (w / 2 ^ k) j ≡ digit w (k + j)
unfolding digit
digit_shift w k j = rw (shr-shr w k j)

pub digit_none : (w k j : ℕ) → w / 2 ^ k ≡ 0 → k ≤ j → digit w j ≡ 0
digit_none w k j e l =
    let s : j ≡ k + (j - k) = omega arith in
    rw (s, ← digit_shift w k (j - k), e) (digit_of_zero (j - k))

pub digit_beyond : (n w j : ℕ) → w < 2 ^ n → n ≤ j → digit w j ≡ 0
digit_beyond n w j h l = digit_none w n j (lt-one (shr_lt 0 n (rw (zero-add n) h))) l

pub digit_some : (n w k : ℕ) → w < 2 ^ n → 0 < w / 2 ^ k → (j : ℕ) × (k ≤ j) × (j < n) × (digit w j ≡ 1)
digit_some n w k h p =
    let t = count_trailing_zeros n (w / 2 ^ k) in
    let one : digit w (k + t) ≡ 1 = sym (digit_shift w k t) ∙ (lowest n (w / 2 ^ k) p (lt_of_le_of_lt (shr_le w k) h)).1.set in
    (k + t, omega arith, compare_le n (k + t) (λ o. absurd (omega (arith, digit_beyond n w (k + t) h o))) (λ o. o), one)

-- `a - (a & b)` has the digits that a has and b lacks
less_half : (a b : ℕ) → ((a - bit_and a b) / 2 ≡ a / 2 - bit_and (a / 2) (b / 2)) × ((a - bit_and a b) % 2 ≡ a % 2 - b % 2)
less_half a b = omega (arith, and_step a b, and_le_l (a / 2) (b / 2))

pub digit_less : (a b k : ℕ) → digit (a - bit_and a b) k ≡ digit a k - digit b k
digit_less a b zero = rw (digit_zero (a - bit_and a b), digit_zero a, digit_zero b) (less_half a b).1
digit_less a b (suc k) =
    rw (digit_suc (a - bit_and a b) k, digit_suc a k, digit_suc b k, (less_half a b).0) (digit_less (a / 2) (b / 2) k)

-- `1 << k` in a word of 64 digits
pub one_shifted : (k : ℕ) → k < 64 → 1 * 2 ^ k % 18446744073709551616 ≡ 2 ^ k
one_shifted k l = omega (arith, pow-lt l)

-- the digits of a remainder, and of a word that is shifted up
pub digit_mod : (n w k : ℕ) → k < n → digit (w % 2 ^ n) k ≡ digit w k
digit_mod n w k l = sym (digit_low n k (w / 2 ^ n) (w % 2 ^ n) l) ∙ (rw (split w n))

pub digit_under : (w n k : ℕ) → k < n → digit (w * 2 ^ n) k ≡ 0
digit_under w n k l = rw (add-zero (w * 2 ^ n)) at (digit_low n k w 0 l ∙ digit_of_zero k)

pub digit_raised : (w n k : ℕ) → n ≤ k → digit (w * 2 ^ n) k ≡ digit w (k - n)
digit_raised w n k l =
    let e : n + (k - n) ≡ k = omega arith in
    sym (rw (shl-shr w n, e) at (digit_shift (w * 2 ^ n) n (k - n)))
