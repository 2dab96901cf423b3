-- The members of a word that pass a test, as its digits; whether some member of several words does.
use Prim.Native.Nat.{ℕ, ◌+◌, ◌*◌, ◌-◌, ◌≤◌, ◌<◌, ◌^◌}
use mathlib.Core.Path.{◌≡◌, ◌∙◌}
use mathlib.Core.Bool.{Bool, true, false, not, ◌&&◌}
use mathlib.Core.List.{List}
use native.Mathlib.Omega.{arith}
use native.Mathlib.Nat.{div-one}
use mir.Syntax.{w64}
use lib.ListN.{get_or}
use lib.Bits.{bit_and, bit_or, and_le_l, and_le_r, or_zero_l, or_add_and}
use Rattle.laws.specs.Sum.{bit}
use Rattle.laws.proofs.Cases.{split, compare_le, compare_eq}
use Rattle.laws.proofs.SumLaws.{bit_true}
use Rattle.std.proofs.lemmas.Nat.Bits.{bit_at_not}
use Rattle.laws.specs.Digit.{digit}
use Rattle.laws.proofs.Digits.{digit_le, digit_and, digit_of_zero, digit_some}
use Rattle.rows.specs.RowsRead.{word_bits}
use Rattle.columns.specs.Columns.{column_word, in_column}
use Rattle.columns.proofs.ColumnLaws.{digit_at, bit_column}
use Rattle.rules.specs.RuleTests.{MembersPassing}

-- a word of a table that has one column
pub first_word : (t : List ℕ) (w : ℕ) → get_or t w 0 ≡ get_or t (column_word 0 w) 0
first_word t w = let e : column_word 0 w ≡ w = omega arith in rw e

-- the digits of one column's word, and those that another's lacks
pub members_in : (t : List ℕ) (g w : ℕ) {a : ℕ} → a ≡ get_or t (column_word g w) 0 → MembersPassing (in_column t g) w a
members_in t g w x = record { each = λ j l. rw (x, bit_column t g (word_bits * w + j)) (let d = digit_at t g w j l in omega arith) }

-- the digits of a word that another lacks
digit_lacking : (a b j : ℕ) → b < 2 ^ 64 → j < 64 → digit (bit_and a (18446744073709551615 - b)) j ≡ digit a j - digit b j
unfolding digit
digit_lacking a b j m l =
    digit_and a (18446744073709551615 - b) j ∙ (rw (bit_at_not w64 b j m l) (omega (arith, digit_le a j, digit_le b j)))

pub passing_as : {f h : ℕ → Bool} {w word : ℕ} → ((i : ℕ) → h i ≡ f i) → MembersPassing f w word → MembersPassing h w word
passing_as e p = record { each = λ j l. p.each j l ∙ (rw (e _)) }

pub members_lack : (c d : List ℕ) (g p w : ℕ) {a b r : ℕ} → a ≡ get_or c (column_word g w) 0 → b ≡ get_or d (column_word p w) 0
    → b < 2 ^ 64 → r ≡ bit_and a (18446744073709551615 - b) → MembersPassing (λ i. in_column c g i && not (in_column d p i)) w r
members_lack c d g p w {a} {b} x y m z =
    record {
      each = λ j l.
          rw z
          (digit_lacking a b j m l
          ∙ both (in_column c g (word_bits * w + j)) (in_column d p (word_bits * w + j)) ((members_in c g w x).each j l) ((members_in d p w y).each j l));
    }
  where
    both : (m n : Bool) {h k : ℕ} → h ≡ bit m → k ≡ bit n → h - k ≡ bit (m && not n)
    both true true u v = omega arith
    both true false u v = omega arith
    both false true u v = omega arith
    both false false u v = omega arith

-- of the members before `to`, and not before `from`, some passes a test exactly where a number is not 0
pub record MembersSeen (f : ℕ → Bool) (from to all : ℕ) : Type 0 where
  pub some : (all ≡ 0 → ⊥) → (i : ℕ) × (from ≤ i) × (i < to) × (f i ≡ true)
  pub none : all ≡ 0 → (i : ℕ) → from ≤ i → i < to → f i ≡ false

pub members_seen_more : {f : ℕ → Bool} {from w all word : ℕ} → MembersSeen f from (word_bits * w) all → from ≤ word_bits * w
    → MembersPassing f w word
    → word < 2 ^ 64 → MembersSeen f from (word_bits * (w + 1)) (bit_or all word)
members_seen_more {f} {from} {w} {all} {word} s o p l =
    record {
      some = λ e.
          compare_eq all 0
          (λ z. let d = digit_some 64 word 0 l (rw (div-one word) (positive z e)) in
          (word_bits * w + d.0, omega arith, omega arith, bit_true _ (omega (arith, p.each d.0 d.2))))
          (λ z. let x = s.some z in (x.0, x.1, omega arith, x.3));
      none = λ e i a b.
          let z : (all ≡ 0) × (word ≡ 0) = omega (arith, or_add_and all word, and_le_l all word, and_le_r all word) in
          compare_le (word_bits * w) i
          (λ c. let j : word_bits * w + (i - word_bits * w) ≡ i = omega arith in
          let d = rw (z.1, digit_of_zero, j) at (p.each (i - word_bits * w) (omega arith)) in
          split (f i) (λ x. absurd (let y = rw x at d in omega arith)) (λ x. x))
          (λ c. s.none z.0 i a c);
    }
  where
    positive : all ≡ 0 → (bit_or all word ≡ 0 → ⊥) → 0 < word
    positive z e = let x : word ≡ 0 → ⊥ = λ y. e (rw (z, y) (or_zero_l 0)) in omega arith
