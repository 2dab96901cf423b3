-- One exchange, two words at a time: which digits the two words have that are written.
use Prim.Native.Nat.{ℕ, ◌*◌, ◌%◌, ◌^◌, ◌-◌, ◌/◌, ◌+◌, ◌≤◌, ◌<◌}
use mathlib.Core.Path.{◌≡◌}
use mathlib.Core.List.{List}
use native.Mathlib.Omega.{arith}
use lib.ListN.{get_or, length, set, length-set}
use lib.Seq.{get_or-set_same, get_or-set_other}
use lib.Bits.{bit_and, bit_or}
use Rattle.laws.specs.Digit.{digit}
use Rattle.laws.proofs.Cases.{compare_le, compare_eq}
use Rattle.laws.proofs.Digits.{digit_le, digit_and, digit_or, digit_less, digit_shift, digit_beyond, digit_mod, digit_under, digit_raised}
use Rattle.bit_matrix.specs.Matrix.{side}
use Rattle.bit_matrix.specs.Exchange.{Mask, from_row, from_column, Exchanged}

-- what is written of words x and y
abbrev even_word : ℕ → ℕ → ℕ → ℕ → ℕ
even_word s m x y = bit_or (bit_and x m) (bit_and y m * 2 ^ s % 2 ^ side)

abbrev odd_word : ℕ → ℕ → ℕ → ℕ → ℕ
odd_word s m x y = bit_or ((x - bit_and x m) / 2 ^ s) (y - bit_and y m)

-- their digits, at a digit of the mask and at one that it lacks
module _ {s m : ℕ} (k : Mask s m) (x y c : ℕ) (l : c < side) where
  before : s ≤ c → digit m (c - s) + digit m c ≡ 1
  before o = let e : s + (c - s) ≡ c = omega arith in rw e at (k.next (c - s) (omega arith))

  even_lower : digit m c ≡ 1 → digit (even_word s m x y) c ≡ digit x c
  even_lower e =
      rw (digit_or (bit_and x m) (bit_and y m * 2 ^ s % 2 ^ side) c, digit_and x m c, digit_mod side (bit_and y m * 2 ^ s) c l)
      (compare_le s c
      (λ o. rw (digit_raised (bit_and y m) s c o, digit_and y m (c - s)) (omega (arith, e, before o, digit_le x c)))
      (λ o. rw (digit_under (bit_and y m) s c o) (omega (arith, e, digit_le x c))))

  even_upper : digit m c ≡ 0 → digit (even_word s m x y) c ≡ digit y (c - s)
  even_upper e =
      rw (digit_or (bit_and x m) (bit_and y m * 2 ^ s % 2 ^ side) c, digit_and x m c, digit_mod side (bit_and y m * 2 ^ s) c l)
      (compare_le s c
      (λ o. rw (digit_raised (bit_and y m) s c o, digit_and y m (c - s)) (omega (arith, e, before o, digit_le y (c - s))))
      (λ o. absurd (omega (arith, e, k.first c o))))

  odd_lower : x < 2 ^ side → digit m c ≡ 1 → digit (odd_word s m x y) c ≡ digit x (s + c)
  odd_lower h e =
      rw (digit_or ((x - bit_and x m) / 2 ^ s) (y - bit_and y m) c, digit_shift (x - bit_and x m) s c, digit_less x m (s + c), digit_less y m c)
      (compare_le side (s + c)
      (λ o. omega (arith, e, digit_beyond side x (s + c) h o, digit_le y c))
      (λ o. omega (arith, e, k.next c o, digit_le y c)))

  odd_upper : x < 2 ^ side → digit m c ≡ 0 → digit (odd_word s m x y) c ≡ digit y c
  odd_upper h e =
      rw (digit_or ((x - bit_and x m) / 2 ^ s) (y - bit_and y m) c, digit_shift (x - bit_and x m) s c, digit_less x m (s + c), digit_less y m c)
      (compare_le side (s + c)
      (λ o. omega (arith, e, digit_beyond side x (s + c) h o))
      (λ o. omega (arith, e, k.next c o, digit_le x (s + c))))

-- what is written from words n and n + 32
abbrev even_from : ℕ → ℕ → List ℕ → ℕ → ℕ → ℕ
even_from s m t at n = even_word s m (get_or t (at + n) 0) (get_or t (at + n + 32) 0)

abbrev odd_from : ℕ → ℕ → List ℕ → ℕ → ℕ → ℕ
odd_from s m t at n = odd_word s m (get_or t (at + n) 0) (get_or t (at + n + 32) 0)

-- words 2 * n and 2 * n + 1 have the digits that an exchange gives them
module _ {s m : ℕ} (k : Mask s m) (t : List ℕ) (at n c : ℕ) (l : c < side) where
  even_digit : digit (even_from s m t at n) c ≡ digit (get_or t (at + from_row m (2 * n) c) 0) (from_column s m (2 * n) c)
  even_digit =
      let x = get_or t (at + n) 0 in
      let y = get_or t (at + n + 32) 0 in
      let z : 2 * n % 2 ≡ 0 = omega arith in
      compare_eq (digit m c) 1
      (λ e. let a : at + (2 * n / 2 + 0) ≡ at + n = omega arith in
      let b : c + s * 0 - s * 0 ≡ c = omega arith in rw (e, z, a, b) (even_lower k x y c l e))
      (λ e. let f : digit m c ≡ 0 = omega (arith, digit_le m c) in
      let a : at + (2 * n / 2 + 32) ≡ at + n + 32 = omega arith in
      let b : c + s * 0 - s * 1 ≡ c - s = omega arith in rw (f, z, a, b) (even_upper k x y c l f))

  odd_digit : get_or t (at + n) 0 < 2 ^ side
      → digit (odd_from s m t at n) c ≡ digit (get_or t (at + from_row m (2 * n + 1) c) 0) (from_column s m (2 * n + 1) c)
  odd_digit h =
      let x = get_or t (at + n) 0 in
      let y = get_or t (at + n + 32) 0 in
      let z : (2 * n + 1) % 2 ≡ 1 = omega arith in
      compare_eq (digit m c) 1
      (λ e. let a : at + ((2 * n + 1) / 2 + 0) ≡ at + n = omega arith in
      let b : c + s * 1 - s * 0 ≡ s + c = omega arith in rw (e, z, a, b) (odd_lower k x y c l h e))
      (λ e. let f : digit m c ≡ 0 = omega (arith, digit_le m c) in
      let a : at + ((2 * n + 1) / 2 + 32) ≡ at + n + 32 = omega arith in
      let b : c + s * 1 - s * 1 ≡ c = omega arith in rw (f, z, a, b) (odd_upper k x y c l h f))

pub exchanged_none : (s m : ℕ) (t : List ℕ) (at : ℕ) (u : List ℕ) → Exchanged s m 0 t at u
exchanged_none s m t at u = record { each = λ r c o l. absurd (omega arith) }

pub exchanged_more : {s m : ℕ} {t : List ℕ} {at : ℕ} {u : List ℕ} (n : ℕ) → Mask s m → 2 * n + 1 < length u → get_or t (at + n) 0 < 2 ^ side
    → Exchanged s m (2 * n) t at u
    → Exchanged s m (2 * (n + 1)) t at (set (set u (2 * n) (even_from s m t at n)) (2 * n + 1) (odd_from s m t at n))
exchanged_more {s} {m} {t} {at} {u} n k o h v =
    let a = even_from s m t at n in
    let b = odd_from s m t at n in
    record {
      each = λ r c i l.
          compare_eq r (2 * n + 1)
          (λ e. rw (e, get_or-set_same (set u (2 * n) a) (2 * n + 1) b 0 (simp length-set o)) (odd_digit k t at n c l h))
          (λ e. rw (get_or-set_other (set u (2 * n) a) (2 * n + 1) r b 0 e)
          (compare_eq r (2 * n)
          (λ f. rw (f, get_or-set_same u (2 * n) a 0 (omega arith)) (even_digit k t at n c l))
          (λ f. rw (get_or-set_other u (2 * n) r a 0 f) (v.each r c (omega arith) l))));
    }
