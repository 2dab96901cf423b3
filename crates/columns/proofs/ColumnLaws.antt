-- Laws of columns of digits, word by word.
use Prim.Native.Nat.{ℕ, ◌+◌, ◌*◌, ◌/◌, ◌%◌, ◌<◌, ◌≤◌, suc}
use mathlib.Core.Path.{◌≡◌, sym, refl, ◌∙◌}
use mathlib.Core.Bool.{true}
use mathlib.Core.List.{List}
use lib.ListN.{get_or, length, set, replicate, get_or-eq_default, length-replicate}
use Rattle.std.proofs.lemmas.List.{get_or-replicate}
use lib.Dec.{eqb}
use native.Mathlib.Omega.{arith}
use borrow.Author.Tests.{eq-eqb, ne_eqb, eqb-true}
use lib.Seq.{get_or-set_same, get_or-set_other}
use lib.Bits.{bit_or}
use Rattle.laws.specs.Sum.{bit}
use Rattle.laws.specs.Digit.{digit}
use Rattle.laws.proofs.Cases.{compare_eq, compare_le}
use Rattle.laws.proofs.Digits.{digit_le, digit_or}
use Rattle.wire.specs.Capacity.{group_capacity}
use Rattle.meaning.specs.Sets.{Distinct}
use Rattle.rows.specs.RowsRead.{word_bits}
use Rattle.columns.specs.Columns.{column_sets, column_word, column_digit, in_column, column_words, columns_length}
use Rattle.columns.specs.ColumnSteps.{ColumnPut, Empty}

pub columns_distinct : (t : List ℕ) (n : ℕ) → Distinct (column_sets t n)
columns_distinct t n = record { once = λ i j k l e. e }

-- digit j of word w
pub digit_at : (t : List ℕ) (g w j : ℕ) → j < word_bits → column_digit t g (word_bits * w + j) ≡ digit (get_or t (column_word g w) 0) j
unfolding column_digit
digit_at t g w j l =
    let q : (word_bits * w + j) / word_bits ≡ w = omega arith in
    let r : (word_bits * w + j) % word_bits ≡ j = omega arith in
    rw (q, r)

pub column_le : (t : List ℕ) (g i : ℕ) → column_digit t g i ≤ 1
unfolding column_digit
column_le t g i = digit_le (get_or t (column_word g (i / word_bits)) 0) (i % word_bits)

-- a digit as a test, and back
pub digit_bit : (d : ℕ) → d ≤ 1 → bit (eqb d 1) ≡ d
digit_bit d l = compare_eq d 1 (λ e. rw (eq-eqb d 1 e) (sym e)) (λ e. rw (ne_eqb d 1 e) (omega arith))

pub bit_column : (t : List ℕ) (g i : ℕ) → bit (in_column t g i) ≡ column_digit t g i
unfolding in_column
bit_column t g i = digit_bit (column_digit t g i) (column_le t g i)

pub column_one : (t : List ℕ) (g i : ℕ) → in_column t g i ≡ true → column_digit t g i ≡ 1
unfolding in_column
column_one t g i e = eqb-true (column_digit t g i) 1 e

pub one_column : (t : List ℕ) (g i : ℕ) → 1 ≤ column_digit t g i → in_column t g i ≡ true
unfolding in_column
one_column t g i l = eq-eqb (column_digit t g i) 1 (omega (arith, column_le t g i))

-- columns of zeros have no digit
pub zeros_empty : (n : ℕ) → Empty (replicate n 0)
zeros_empty n = record { each = λ i. compare_le (suc i) n (λ l. get_or-replicate n i 0 0 l) (λ l. get_or-eq_default (replicate n 0) 0 (simp length-replicate (omega arith))) }

-- a word is put to a group's column
pub column_put : (t : List ℕ) (h w word : ℕ) → h ≤ group_capacity → w < column_words → columns_length ≤ length t
    → ColumnPut h w word t (set t (column_word h w) (bit_or (get_or t (column_word h w) 0) word))
unfolding column_digit
column_put t h w word a b c =
    record {
      put = record {
        each = λ g i x y l.
            compare_eq (column_word g (i / word_bits)) (column_word h w)
            (λ e. let s : g ≡ h = omega arith in
            let q : i / word_bits ≡ w = omega arith in
            rw (e, get_or-set_same t (column_word h w) (bit_or (get_or t (column_word h w) 0) word) 0 (omega arith), eq-eqb (i / word_bits) w q, eq-eqb g h s)
            (digit_or (get_or t (column_word h w) 0) word (i % word_bits)))
            (λ e. rw (get_or-set_other t (column_word h w) (column_word g (i / word_bits)) (bit_or (get_or t (column_word h w) 0) word) 0 e)
            (compare_eq (i / word_bits) w
            (λ q. compare_eq g h (λ s. absurd (e (rw (q, s)))) (λ s. rw (eq-eqb (i / word_bits) w q, ne_eqb g h s) (omega arith)))
            (λ q. rw (ne_eqb (i / word_bits) w q) (omega arith))));
      };
    }

-- the words of u below w are f's, those from w on are t's
pub record WordsTo (f : ℕ → ℕ) (w : ℕ) (t u : List ℕ) : Type 0 where
  pub done : (v : ℕ) → v < w → get_or u v 0 ≡ f v
  pub left : (v : ℕ) → w ≤ v → get_or u v 0 ≡ get_or t v 0

pub words_to_none : (f : ℕ → ℕ) (t : List ℕ) → WordsTo f 0 t t
words_to_none f t = record { done = λ v l. absurd (omega arith); left = λ v l. refl }

pub words_to_more : {f : ℕ → ℕ} {w : ℕ} {t u : List ℕ} (x : ℕ) → WordsTo f w t u → w < length u → x ≡ f w
    → WordsTo f (w + 1) t (set u w x)
words_to_more {f} {w} {t} {u} x c l e =
    record {
      done = λ v o.
          compare_eq v w
          (λ z. rw z (get_or-set_same u w x 0 l ∙ e))
          (λ z. get_or-set_other u w v x 0 z ∙ c.done v (omega arith));
      left = λ v o. get_or-set_other u w v x 0 (λ z. omega arith) ∙ c.left v (omega arith);
    }
