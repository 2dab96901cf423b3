-- The words of membership bytes hold their bits, and whether a bit above the groups is set, word by word.
use Prim.Native.Nat.{◌*◌, ℕ, ◌+◌, ◌/◌, ◌%◌, ◌<◌, zero, suc, ◌-◌, ◌^◌, ◌≤◌}
use mathlib.Core.Path.{◌≡◌, refl, sym, ◌∙◌}
use mathlib.Core.Bool.{false, false≢true, not, Bool, true, true≢false}
use mathlib.Core.List.{List}
use native.Mathlib.Omega.{arith}
use native.Mathlib.Numerals.{add-one}
use borrow.Author.Tests.{eqb-true, eqb-false, not-true, not-false}
use lib.ListN.{get_or}
use lib.Dec.{eqb}
use Rattle.laws.specs.Digit.{digit}
use Rattle.laws.proofs.Cases.{compare_le}
use Rattle.laws.proofs.Digits.{digit_low, digit_shift, digit_none, digit_some}
use Rattle.wire.specs.Edition.{Edition, edition1, edition2, group_limit, membership_bytes}
use Rattle.wire.specs.U64.{u64_at}
use Rattle.wire.specs.Encoding.{Bytes}
use Rattle.wire.proofs.EditionFacts.{group_bits}
use Rattle.wire.proofs.U64Laws.{bytes_at, u64_bytes}
use Rattle.rows.specs.RowsRead.{word_bits, row_words, word_bytes, bit_at, WordAt, Above}

-- the words of a row have a bit for each group, and are its membership bytes
pub words_groups : (ed : Edition) → group_limit ed ≡ word_bits * row_words ed
unfolding row_words group_limit
words_groups edition1 = refl
words_groups edition2 = refl

pub words_bytes : (ed : Edition) → membership_bytes ed ≡ word_bytes * row_words ed
words_bytes ed = omega (arith, words_groups ed, group_bits ed)

-- a row has two words or four
pub words_least : (ed : Edition) → 2 ≤ row_words ed
unfolding row_words group_limit
words_least edition1 = omega arith
words_least edition2 = omega arith

pub words_two : (ed : Edition) → row_words ed ≤ 2 → row_words ed ≡ 2
unfolding row_words group_limit
words_two edition1 l = refl
words_two edition2 l = absurd (omega arith)

pub words_four : (ed : Edition) → 2 < row_words ed → row_words ed ≡ 4
unfolding row_words group_limit
words_four edition1 l = absurd (omega arith)
words_four edition2 l = refl

-- bits counted from n bytes further on
bit_on : (b : List ℕ) (offset n j : ℕ) → bit_at b (offset + n) j ≡ bit_at b offset (8 * n + j)
unfolding bit_at
bit_on b offset n j =
    let q : offset + (8 * n + j) / 8 ≡ offset + n + j / 8 = omega arith in
    let r : (8 * n + j) % 8 ≡ j % 8 = omega arith in rw (q, r)

bit_low : (b : List ℕ) (offset j : ℕ) → j < 8 → bit_at b offset j ≡ digit (get_or b offset 0) j
unfolding bit_at
bit_low b offset j l =
    let q : offset + j / 8 ≡ offset = omega arith in
    let r : j % 8 ≡ j = omega arith in rw (q, r)

-- the digits of a field are the bits of its bytes
digit_bytes : (n : ℕ) (b : List ℕ) (i j : ℕ) → Bytes b → j < 8 * n → digit (bytes_at n b i) j ≡ bit_at b i j
unfolding bytes_at
digit_bytes zero b i j h l = absurd (omega arith)
digit_bytes (suc n) b i j h l =
    compare_le 8 j
    (λ o. let s : j ≡ 8 * 1 + (j - 8) = omega arith in
    let high : (bytes_at n b (suc i) * 256 + get_or b i 0) / 2 ^ 8 ≡ bytes_at n b (suc i) = omega (arith, h i) in
    rw (s, ← bit_on b i 1 (j - 8), add-one i, ← digit_shift (bytes_at n b (suc i) * 256 + get_or b i 0) 8 (j - 8), high)
    (digit_bytes n b (suc i) (j - 8) h (omega arith)))
    (λ o. digit_low 8 j (bytes_at n b (suc i)) (get_or b i 0) o ∙ sym (bit_low b i j o))

pub word_at : (b : List ℕ) (offset k : ℕ) → Bytes b → WordAt b offset k (u64_at b (offset + 8 * k))
word_at b offset k h =
    record {
      each = λ j l.
          let s : 8 * (8 * k) + j ≡ word_bits * k + j = omega arith in
          rw (u64_bytes b (offset + 8 * k)) (digit_bytes 8 b (offset + 8 * k) j h l ∙ bit_on b offset (8 * k) j ∙ (rw s));
    }

-- no bit is above the groups
pub above_nothing : {f : ℕ → ℕ} (groups before n : ℕ) → before + n ≤ groups → Above groups before n f false
above_nothing groups before n l = record { some = λ e. absurd (false≢true e); none = λ e j a b. absurd (omega arith) }

-- whether a digit of a word is above the groups, by a shift
pub above_shift : (groups before word : ℕ) → word < 2 ^ 64
    → Above groups before word_bits (digit word) (not (eqb (word / 2 ^ (groups - before)) 0))
above_shift groups before word h =
    let high = word / 2 ^ (groups - before) in
    record {
      some = λ e.
          let z : high ≡ 0 → ⊥ = eqb-false high 0 (not-true (eqb high 0) e) in
          let w = digit_some 64 word (groups - before) h (omega arith) in
          (w.0, omega arith, w.2, w.3);
      none = λ e j a b. digit_none word (groups - before) j (eqb-true high 0 (not-false (eqb high 0) e)) (omega arith);
    }

-- the bits of one word more
pub above_on : {b : List ℕ} {offset groups k word : ℕ} {r : Bool} → Above groups 0 (word_bits * k) (bit_at b offset) false
    → WordAt b offset k word → Above groups (word_bits * k) word_bits (digit word) r
    → Above groups 0 (word_bits * (k + 1)) (bit_at b offset) r
above_on {b} {offset} {groups} {k} {word} c w a =
    record {
      some = λ e.
          let j = a.some e in
          (word_bits * k + j.0, omega arith, omega arith, sym (w.each j.0 j.2) ∙ j.3);
      none = λ e j l m.
          compare_le (word_bits * k) j
          (λ o. let s : j ≡ word_bits * k + (j - word_bits * k) = omega arith in
          rw s (sym (w.each (j - word_bits * k) (omega arith)) ∙ a.none e (j - word_bits * k) (omega arith) (omega arith)))
          (λ o. c.none refl j l o);
    }

-- where no bit is found, none is among fewer
pub above_fewer : {f : ℕ → ℕ} {groups m n : ℕ} → m ≤ n → Above groups 0 n f false → Above groups 0 m f false
above_fewer l a = record { some = λ e. absurd (false≢true e); none = λ e j b k. a.none refl j b (omega arith) }

-- a bit that is found stays found
pub above_more : {f : ℕ → ℕ} {groups m n : ℕ} → m ≤ n → Above groups 0 m f true → Above groups 0 n f true
above_more l a =
    record { some = λ e. let j = a.some e in (j.0, j.1, omega arith, j.3); none = λ e. absurd (true≢false e) }
