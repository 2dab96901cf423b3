-- Six exchanges are the transpose: where each digit stands after some of them, and that each exchange brings all digits one step on.
use Prim.Native.Nat.{ℕ, ◌+◌, ◌*◌, ◌/◌, ◌%◌, ◌<◌, zero, suc, ◌-◌}
use mathlib.Core.Path.{◌≡◌, refl}
use mathlib.Core.List.{List}
use mathlib.Core.Bool.{Bool, true, ◌&&◌}
use native.Mathlib.Omega.{arith}
use borrow.Author.Tests.{ltb-true, eqb-true}
use lib.ListN.{get_or}
use lib.Dec.{eqb, ltb}
use Rattle.laws.specs.Digit.{digit}
use Rattle.laws.proofs.Cases.{and_true, below_suc}
use Rattle.bit_matrix.specs.Matrix.{side, Transposed}
use Rattle.bit_matrix.specs.Exchange.{from_row, from_column, Mask, Exchanged}

-- after exchanges down to blocks of s digits, p = 64 / s: which word, and which of its digits, stands at digit c of word r
abbrev word_from : ℕ → ℕ → ℕ → ℕ → ℕ
word_from p s r c = c / s * s + r / p

abbrev digit_from : ℕ → ℕ → ℕ → ℕ → ℕ
digit_from p s r c = r % p * s + c % s

pub record Turned (p s : ℕ) (t : List ℕ) (at : ℕ) (u : List ℕ) (to : ℕ) : Type 0 where
  pub each : (r c : ℕ) → r < side → c < side
      → digit (get_or u (to + r) 0) c ≡ digit (get_or t (at + word_from p s r c) 0) (digit_from p s r c)

-- a test of all numbers below n
unfoldable every : (ℕ → Bool) → ℕ → Bool
every f zero = true
every f (suc n) = f n && every f n

every_one : (f : ℕ → Bool) (n : ℕ) → every f n ≡ true → (i : ℕ) → i < n → f i ≡ true
unfolding every
every_one f zero h i l = absurd (omega arith)
every_one f (suc n) h i l =
    let w = and_true (f n) (every f n) h in below_suc i n l (λ e. rw e w.0) (λ k. every_one f n w.1 i k)

-- whether m is a mask for blocks of s digits, and whether its exchange is the step from blocks of 2 * s to blocks of s digits
unfoldable mask_test : ℕ → ℕ → Bool
mask_test s m = every (λ c. eqb (digit m c) 1) s && every (λ c. eqb (digit m c + digit m (s + c)) 1) (side - s)

abbrev inside_test : ℕ → ℕ → ℕ → ℕ → Bool
inside_test s m r c = ltb (from_row m r c) side && ltb (from_column s m r c) side

abbrev word_test : ℕ → ℕ → ℕ → ℕ → ℕ → Bool
word_test p s m r c = eqb (word_from p (2 * s) (from_row m r c) (from_column s m r c)) (word_from (2 * p) s r c)

abbrev digit_test : ℕ → ℕ → ℕ → ℕ → ℕ → Bool
digit_test p s m r c = eqb (digit_from p (2 * s) (from_row m r c) (from_column s m r c)) (digit_from (2 * p) s r c)

abbrev place_test : ℕ → ℕ → ℕ → ℕ → ℕ → Bool
place_test p s m r c = inside_test s m r c && (word_test p s m r c && digit_test p s m r c)

unfoldable places_test : ℕ → ℕ → ℕ → Bool
places_test p s m = every (λ r. every (place_test p s m r) side) side

pub record Step (p s m : ℕ) : Type 0 where
  pub mask : Mask s m
  pub inside : (r c : ℕ) → r < side → c < side → (from_row m r c < side) × (from_column s m r c < side)
  pub word : (r c : ℕ) → r < side → c < side → word_from p (2 * s) (from_row m r c) (from_column s m r c) ≡ word_from (2 * p) s r c
  pub place : (r c : ℕ) → r < side → c < side → digit_from p (2 * s) (from_row m r c) (from_column s m r c) ≡ digit_from (2 * p) s r c

step_by : (p s m : ℕ) → mask_test s m ≡ true → places_test p s m ≡ true → Step p s m
unfolding mask_test places_test
step_by p s m h k =
    record {
      mask = let w = and_true (every (λ c. eqb (digit m c) 1) s) (every (λ c. eqb (digit m c + digit m (s + c)) 1) (side - s)) h in
          record {
            first = λ c l. eqb-true _ _ (every_one _ s w.0 c l);
            next = λ c l. eqb-true _ _ (every_one _ (side - s) w.1 c (omega arith));
          };
      inside = λ r c o l.
          let w = and_true (ltb (from_row m r c) side) (ltb (from_column s m r c) side) (tested r c o l).0 in
          (ltb-true _ _ w.0, ltb-true _ _ w.1);
      word = λ r c o l. eqb-true _ _ (both r c o l).0;
      place = λ r c o l. eqb-true _ _ (both r c o l).1;
    }
  where
    tested : (r c : ℕ) → r < side → c < side → (inside_test s m r c ≡ true) × ((word_test p s m r c && digit_test p s m r c) ≡ true)
    tested r c o l =
        and_true (inside_test s m r c) (word_test p s m r c && digit_test p s m r c)
        (every_one (place_test p s m r) side (every_one (λ r. every (place_test p s m r) side) side k r o) c l)

    both : (r c : ℕ) → r < side → c < side → (word_test p s m r c ≡ true) × (digit_test p s m r c ≡ true)
    both r c o l = and_true (word_test p s m r c) (digit_test p s m r c) (tested r c o l).1

-- the six steps, with the masks of the code
pub step_32 : Step 1 32 4294967295
unfolding every mask_test places_test digit
step_32 = step_by _ _ _ refl refl

pub step_16 : Step 2 16 281470681808895
unfolding every mask_test places_test digit
step_16 = step_by _ _ _ refl refl

pub step_8 : Step 4 8 71777214294589695
unfolding every mask_test places_test digit
step_8 = step_by _ _ _ refl refl

pub step_4 : Step 8 4 1085102592571150095
unfolding every mask_test places_test digit
step_4 = step_by _ _ _ refl refl

pub step_2 : Step 16 2 3689348814741910323
unfolding every mask_test places_test digit
step_2 = step_by _ _ _ refl refl

pub step_1 : Step 32 1 6148914691236517205
unfolding every mask_test places_test digit
step_1 = step_by _ _ _ refl refl

pub turned_none : (t : List ℕ) (at : ℕ) → Turned 1 side t at t at
turned_none t at =
    record {
      each = λ r c o l.
          let a : word_from 1 side r c ≡ r = omega arith in
          let b : digit_from 1 side r c ≡ c = omega arith in rw (a, b);
    }

pub turned_more : {p s m : ℕ} {t : List ℕ} {at : ℕ} {u : List ℕ} {to : ℕ} {v : List ℕ} → Step p s m → Turned p (2 * s) t at u to
    → Exchanged s m side u to v → Turned (2 * p) s t at v 0
turned_more k h x =
    record {
      each = λ r c o l.
          let i = k.inside r c o l in
          let z : 0 + r ≡ r = omega arith in
          rw (z, x.each r c o l, h.each _ _ i.0 i.1, k.word r c o l, k.place r c o l);
    }

pub turned_all : {t : List ℕ} {at : ℕ} {u : List ℕ} → Turned side 1 t at u 0 → Transposed t at u
turned_all {t} {at} {u} h =
    record {
      each = λ r c o l.
          let a : word_from side 1 r c ≡ c = omega arith in
          let b : digit_from side 1 r c ≡ r = omega arith in
          let z : 0 + r ≡ r = omega arith in
          rw (z, a, b) at (h.each r c o l);
    }
