-- A row written as one of another edition, from the words of its membership bytes; and one row more.
use Prim.Native.Nat.{ℕ, zero, suc, ◌+◌, ◌*◌, ◌≤◌, ◌<◌}
use mathlib.Core.Bool.{true}
use mathlib.Core.Path.{◌≡◌, refl, sym, ◌∙◌, ap}
use mathlib.Core.List.{List, [], ◌∷◌, flat_map}
use native.Mathlib.Omega.{arith}
use native.Mathlib.Nat.{zero-add, mul-le-mul_left}
use lib.ListN.{length, take, drop, get_or, length-take, get_or-eq_default}
use lib.Seq.{get_or-take, get_or-drop, sets}
use Rattle.laws.specs.Tabulate.{tabulate}
use Rattle.laws.proofs.SetsLaws.{sets_then}
use Rattle.wire.specs.Bytes.{u16_at, u32_at}
use Rattle.wire.specs.U64.{u64_at, le64}
use Rattle.wire.specs.Edition.{Edition, edition1, edition2, membership_bytes, group_limit, row_bytes, row_head}
use Rattle.wire.specs.Member.{is_side, side_of}
use Rattle.wire.specs.RegisterFormat.{row_of, member_of}
use Rattle.wire.specs.Encoding.{Bytes, encode_row, encode_register}
use Rattle.wire.specs.Conversion.{row_in, rows_in}
use Rattle.wire.proofs.U64Laws.{bytes_at, u64_bytes, le64s_tabulated}
use Rattle.wire.proofs.EditionFacts.{groups_within}
use Rattle.wire.proofs.Facts.{bytes_drop}
use Rattle.wire.proofs.Fields.{u16_drop, u32_drop}
use Rattle.wire.proofs.RoundTripRegister.{bytes_take}
use Rattle.wire.proofs.ConversionLaws.{rows_in_length, encode_register_more}
use Rattle.rows.specs.RowsRead.{row_words, word_bytes, rows_before, from_row, RowThere}
use Rattle.rows.proofs.RowBits.{words_groups, words_bytes}
use Rattle.rows.proofs.RowLaws.{length_rows_before}
use Rattle.row_writing.specs.WordsRow.{words_row}

-- n bytes of the first m, and past them
bytes_within : (n m : ℕ) (b : List ℕ) (i : ℕ) → i + n ≤ m → bytes_at n (take m b) i ≡ bytes_at n b i
unfolding bytes_at
bytes_within zero m b i l = refl
bytes_within (suc n) m b i l = rw (bytes_within n m b (suc i) (omega arith), get_or-take m b i 0 (omega arith))

bytes_past : (n : ℕ) (b : List ℕ) (i : ℕ) → length b ≤ i → bytes_at n b i ≡ 0
unfolding bytes_at
bytes_past zero b i l = refl
bytes_past (suc n) b i l = rw (bytes_past n b (suc i) (omega arith), get_or-eq_default b 0 {n = i} l)

bytes_from_law : (n k : ℕ) (b : List ℕ) (i : ℕ) → bytes_at n (drop k b) i ≡ bytes_at n b (k + i)
unfolding bytes_at
bytes_from_law zero k b i = refl
bytes_from_law (suc n) k b i =
    let same : k + suc i ≡ suc (k + i) = omega arith in
    rw (bytes_from_law n k b (suc i), get_or-drop k b i 0, same)

module _ (e : Edition) (b : List ℕ) (at k : ℕ) where
  -- word k of a row's membership bytes, where the edition has one, and where it has none
  pub word_there : k < row_words e → u64_at b (at + row_head + word_bytes * k) ≡ u64_at (row_of e (drop at b)).bits (word_bytes * k)
  unfolding row_of
  word_there l =
      let same : at + (row_head + 8 * k) ≡ at + row_head + 8 * k = omega arith in
      rw (u64_bytes b (at + row_head + 8 * k), u64_bytes (take (membership_bytes e) (drop row_head (drop at b))) (8 * k))
      (sym (bytes_within 8 (membership_bytes e) (drop row_head (drop at b)) (8 * k) (omega (arith, words_bytes e))
      ∙ (bytes_from_law 8 row_head (drop at b) (8 * k) ∙ (bytes_from_law 8 at b (row_head + 8 * k) ∙ rw same))))

  pub word_past : row_words e ≤ k → 0 ≡ u64_at (row_of e (drop at b)).bits (word_bytes * k)
  unfolding row_of
  word_past l =
      sym (u64_bytes (take (membership_bytes e) (drop row_head (drop at b))) (8 * k)
      ∙ bytes_past 8 (take (membership_bytes e) (drop row_head (drop at b))) (8 * k)
      (simp length-take (omega (arith, words_bytes e))))

-- the words of a row of edition e are the first of four
abbrev word : List ℕ → ℕ → ℕ
word x k = u64_at x (word_bytes * k)

first_words : (e : Edition) (x : List ℕ)
    → take (row_words e) (word x 0 ∷ word x 1 ∷ word x 2 ∷ word x 3 ∷ []) ≡ tabulate (word x) (row_words e)
unfolding row_words group_limit
first_words edition1 x = refl
first_words edition2 x = refl

bytes_row : (e : Edition) (b : List ℕ) → Bytes b → Bytes (row_of e b).bits
unfolding row_of
bytes_row e b k = bytes_take (membership_bytes e) (drop row_head b) (bytes_drop row_head b k)

-- the row of these four words is the row in edition e
pub words_row_in : (e f : Edition) (b : List ℕ) → Bytes b → let x = (row_of f b).bits in
    words_row e (member_of b) (word x 0 ∷ word x 1 ∷ word x 2 ∷ word x 3 ∷ []) 0 ≡ row_in e (row_of f b)
unfolding row_in
words_row_in e f b k =
    let x = (row_of f b).bits in
    let words = word x 0 ∷ word x 1 ∷ word x 2 ∷ word x 3 ∷ [] in
    let bits : flat_map le64 (take (row_words e) words) ≡ tabulate (λ i. get_or x i 0) (membership_bytes e) =
    rw (first_words e x, words_bytes e) (le64s_tabulated x (bytes_row f b k) (row_words e)) in
    rw bits (unfold row_of in refl)

-- as the fields were read from a row at an offset
pub row_in_read : (e f : Edition) (b : List ℕ) → Bytes b → (at : ℕ) {n side w₀ w₁ w₂ w₃ : ℕ} → let x = (row_of f (drop at b)).bits in
    n ≡ u32_at b (at + 4) → side ≡ u16_at b (at + 8) → w₀ ≡ word x 0 → w₁ ≡ word x 1 → w₂ ≡ word x 2 → w₃ ≡ word x 3
    → words_row e (record { number = n; side = side_of side }) (w₀ ∷ w₁ ∷ w₂ ∷ w₃ ∷ []) 0 ≡ row_in e (row_of f (drop at b))
row_in_read e f b k at i j p q r t =
    let row : record { number = u32_at b (at + 4); side = side_of (u16_at b (at + 8)) } ≡ member_of (drop at b) =
    unfold member_of in rw (u32_drop at b 4, u16_drop at b 8) in
    rw (i, j, p, q, r, t, row) (words_row_in e f (drop at b) (bytes_drop at b k))

-- the side of a row that stands there, by its field
pub side_there : (e : Edition) (b : List ℕ) (at : ℕ) → RowThere e b at → {side : ℕ} → side ≡ u16_at b (at + 8) → is_side side ≡ true
side_there e b at r h = rw (h, ← u16_drop at b 8) r.sided

-- no row has more than four words
pub words_most : (e : Edition) → row_words e ≤ 4
words_most e = omega (arith, words_groups e, groups_within e)

-- room for n rows of w bytes is room for row i
pub room_for : (w i n : ℕ) → i < n → w * i + w ≤ w * n
room_for w i n l = omega (arith, mul-le-mul_left w l)

-- one row more, behind the first n
pub rows_more : (e f : Edition) (b l : List ℕ) (n : ℕ) {to at : ℕ} {l₁ l₂ : List ℕ} → to ≡ row_bytes e * n → at ≡ row_bytes f * n
    → l₁ ≡ sets l 0 (encode_register e (rows_in e (rows_before f b n))) → l₂ ≡ sets l₁ to (encode_row e (row_in e (row_of f (drop at b))))
    → l₂ ≡ sets l 0 (encode_register e (rows_in e (rows_before f b (suc n))))
unfolding rows_before
rows_more e f b l n i j p q =
    let rs = rows_before f b n in
    let r = row_of f (from_row f b n) in
    let size : 0 + length (encode_register e (rows_in e rs)) ≡ row_bytes e * n =
    zero-add _ ∙ (rows_in_length e rs ∙ ap (λ m. row_bytes e * m) (length_rows_before f b n)) in
    rw (encode_register_more e rs r)
    (sets_then (encode_register e (rows_in e rs)) (encode_row e (row_in e r)) l 0 p (rw (size, ← i, ← j) q))
