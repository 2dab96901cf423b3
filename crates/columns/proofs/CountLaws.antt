-- The ones of columns, word by word, are the counts of the sets that the columns list.
use Prim.Native.Nat.{ℕ, ◌+◌, ◌*◌, ◌^◌, ◌<◌, zero, suc, ◌≤◌, ◌-◌}
use mathlib.Core.Path.{◌≡◌, refl, sym, ◌∙◌}
use mathlib.Core.List.{List}
use native.Mathlib.Omega.{arith}
use lib.ListN.{get_or, length, set, take, drop, length-drop}
use Rattle.std.specs.List.{sum_by}
use Rattle.std.proofs.lemmas.List.Sums.{sum_by_more}
use native.Mathlib.Numerals.{add-one}
use lib.Seq.{get_or-drop, get_or-set_same, get_or-set_other}
use lib.Count.{ones}
use Rattle.laws.specs.Sum.{sum}
use Rattle.laws.specs.Digit.{digit}
use Rattle.laws.proofs.Cases.{compare_eq}
use Rattle.laws.proofs.SumLaws.{sum_eq, sum_parts, sum_zero}
use Rattle.laws.proofs.Digits.{ones_digits}
use Rattle.meaning.specs.Sets.{count}
use Rattle.rows.specs.RowsRead.{word_bits}
use Rattle.columns.specs.Columns.{column_stride, column_word, column_digit, column_sets}
use Rattle.columns.specs.Counts.{ColumnsCounted}
use Rattle.columns.proofs.ColumnLaws.{digit_at, column_le, bit_column}

-- one word more
pub count_word : (t : List ℕ) (g w : ℕ) → get_or t (column_word g w) 0 < 2 ^ 64
    → sum (column_digit t g) (word_bits * (w + 1)) ≡ sum (column_digit t g) (word_bits * w) + ones (get_or t (column_word g w) 0)
count_word t g w l =
    let e : word_bits * (w + 1) ≡ word_bits * w + word_bits = omega arith in
    rw (
      e,
      sum_parts (column_digit t g) (word_bits * w) word_bits,
      sum_eq (λ j. column_digit t g (word_bits * w + j)) (digit (get_or t (column_word g w) 0)) word_bits (digit_at t g w),
      ones_digits word_bits (get_or t (column_word g w) 0) l,
    )

-- at most one for each member
pub count_most : (t : List ℕ) (g n : ℕ) → sum (column_digit t g) n ≤ n
unfolding sum
count_most t g zero = omega arith
count_most t g (suc n) = omega (arith, count_most t g n, column_le t g n)

-- so the ones of the first words of a column are the column's
pub ones_column : (t : List ℕ) (g words : ℕ) → ((w : ℕ) → w < words → get_or t (column_word g w) 0 < 2 ^ 64) → column_word g words ≤ length t
    → sum_by ones (take words (drop (column_stride * g) t)) ≡ sum (column_digit t g) (word_bits * words)
unfolding sum
ones_column t g zero h l = refl
ones_column t g (suc w) h l =
    let column = drop (column_stride * g) t in
    let within : w < length column = simp length-drop (omega arith) in
    let more = sum_by_more ones column w 0 within in
    let same : column_stride * g + w ≡ column_word g w = omega arith in
    let one : get_or column w 0 ≡ get_or t (column_word g w) 0 = rw (get_or-drop (column_stride * g) t w 0, same) refl in
    rw (← add-one w) (more ∙ (rw one (omega (arith, ones_column t g w (λ v o. h v (omega arith)) (omega arith), count_word t g w (h w (omega arith))))))

-- columns that have no digit from member n on list n members
pub column_count : (t : List ℕ) (g n m : ℕ) → n ≤ m → ((i : ℕ) → n ≤ i → i < m → column_digit t g i ≡ 0)
    → sum (column_digit t g) m ≡ count (column_sets t n) g
unfolding count
column_count t g n m l z =
    let e : m ≡ n + (m - n) = omega arith in
    rw (
      e,
      sum_parts (column_digit t g) n (m - n),
      sum_zero (λ k. column_digit t g (n + k)) (m - n) (λ k o. z (n + k) (omega arith) (omega arith)),
    )
    (omega (arith, sum_eq (column_digit t g) _ n (λ i o. sym (bit_column t g i))))

-- the counts of the groups before g
pub counts_none : (t : List ℕ) (words : ℕ) (u : List ℕ) → ColumnsCounted t 0 words u
counts_none t words u = record { each = λ g a b. absurd (omega arith) }

pub counts_more : {t : List ℕ} {words g n : ℕ} {u v : List ℕ} → ColumnsCounted t (g - 1) words u → g < length u
    → n ≡ sum (column_digit t g) (word_bits * words) → v ≡ set u g n → ColumnsCounted t g words v
counts_more {t} {words} {g} {n} {u} {v} k l e s =
    record {
      each = λ h x y.
          compare_eq h g
          (λ z. rw (s, z, get_or-set_same u g n 0 l) e)
          (λ z. rw (s, get_or-set_other u g h n 0 z) (k.each h x (omega arith)));
    }
