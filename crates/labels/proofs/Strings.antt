-- Laws of the runs that the tests walk: the bytes of a label, two labels side by side, the names of a claim, the labels before.
use Prim.Native.Nat.{ℕ, suc, ◌+◌, ◌<◌, ◌-◌, ◌≤◌, ◌*◌, zero}
use mathlib.Core.Path.{◌≡◌, refl, sym, ◌∙◌, ap}
use mathlib.Core.Bool.{◌&&◌, true, Bool, and_assoc, false}
use mathlib.Core.List.{List, ◌∷◌, [], ◌++◌}
use mathlib.Core.Logic.{⊎_elim}
use native.Mathlib.Omega.{arith}
use native.Mathlib.Numerals.{add-one}
use native.Mathlib.Nat.{eq-or-lt_of_le}
use borrow.Author.Tests.{eq-eqb, ne_eqb, eqb-true, eqb-false}
use lib.ListN.{length, get_or, take, drop, length-take, length-drop}
use lib.Seq.{drop-cons, drop-drop, take-add}
use Rattle.std.proofs.Math.ListN.{drop_of_length-le}
use Rattle.std.proofs.lemmas.List.{take_all}
use lib.Dec.{eqb}
use Rattle.laws.proofs.Cases.{split, and_true}
use Rattle.wire.specs.Bytes.{u16_at}
use Rattle.wire.specs.SheetFormat.{label_byte, label_bytes, same_label, name_of, used}
use Rattle.wire.specs.Encoding.{Bytes}
use Rattle.wire.proofs.U64Laws.{bytes_at}
use Rattle.wire.proofs.Sorts.{used_snoc}
use Rattle.wire.proofs.Fields.{length_at}
use Rattle.tables.specs.RecordsIn.{records_in}

-- the bytes of a label from a place on
module _ (l : List ℕ) (i : ℕ) where
  pub label_more : i < length l → label_bytes (drop i l) ≡ (label_byte (get_or l i 0) && label_bytes (drop (i + 1) l))
  unfolding label_bytes
  label_more h = rw (drop-cons l i 0 h, add-one)

  pub label_end : length l ≤ i → label_bytes (drop i l) ≡ true
  unfolding label_bytes
  label_end h = rw (drop_of_length-le l h)

-- the first n bytes of two labels, compared
abbrev pub alike : List ℕ → List ℕ → ℕ → Bool
alike l m n = same_label (take n l) (take n m)

pub same_none : same_label [] [] ≡ true
unfolding same_label
same_none = refl

-- two bytes, and the numbers above them, compared at once
eqb_pair : (x y u v : ℕ) → x < 256 → y < 256 → (eqb x y && eqb u v) ≡ eqb (u * 256 + x) (v * 256 + y)
eqb_pair x y u v h k =
    split (eqb x y)
    (λ e. split (eqb u v)
    (λ f. rw (e, f, eq-eqb (u * 256 + x) (v * 256 + y) (omega (arith, eqb-true x y e, eqb-true u v f))))
    (λ f. rw (e, f, ne_eqb (u * 256 + x) (v * 256 + y) (omega (arith, eqb-true x y e, eqb-false u v f)))))
    (λ e. rw (e, ne_eqb (u * 256 + x) (v * 256 + y) (omega (arith, eqb-false x y e))))

-- k bytes at a place are the same just where they are one number
alike_number : (l m : List ℕ) → Bytes l → Bytes m → (k i : ℕ) → i + k ≤ length l → i + k ≤ length m →
    same_label (take k (drop i l)) (take k (drop i m)) ≡ eqb (bytes_at k l i) (bytes_at k m i)
unfolding same_label bytes_at
alike_number l m h j zero i p q = refl
alike_number l m h j (suc k) i p q =
    rw (drop-cons l i 0 (omega arith), drop-cons m i 0 (omega arith))
    (rw (alike_number l m h j k (suc i) (omega arith) (omega arith)) (eqb_pair _ _ _ _ (h i) (j i)))

same_append : (l m u v : List ℕ) → length l ≡ length m → same_label (l ++ u) (m ++ v) ≡ (same_label l m && same_label u v)
unfolding same_label
same_append [] [] u v h = refl
same_append [] (y ∷ m) u v h = absurd (omega arith)
same_append (x ∷ l) [] u v h = absurd (omega arith)
same_append (x ∷ l) (y ∷ m) u v h = rw (same_append l m u v (omega arith), and_assoc)

-- the first i bytes, and the k after them
alike_parts : (l m : List ℕ) (i k : ℕ) → i + k ≤ length l → i + k ≤ length m →
    alike l m (i + k) ≡ (alike l m i && same_label (take k (drop i l)) (take k (drop i m)))
alike_parts l m i k p q =
    let e : length (take i l) ≡ length (take i m) = simp length-take (omega arith) in
    rw (take-add i k l, take-add i k m, same_append _ _ _ _ e)

module _ (l m : List ℕ) (n : ℕ) (p : n ≤ length l) (q : n ≤ length m) where
  alike_cut : (i : ℕ) → i ≤ n → alike l m n ≡ (alike l m i && same_label (take (n - i) (drop i l)) (take (n - i) (drop i m)))
  alike_cut i h = let e : i + (n - i) ≡ n = omega arith in rw e at (alike_parts l m i (n - i) (omega arith) (omega arith))

  pub alike_shorter : (i : ℕ) → i ≤ n → alike l m n ≡ true → alike l m i ≡ true
  alike_shorter i h t = (and_true (alike l m i) (same_label (take (n - i) (drop i l)) (take (n - i) (drop i m))) (rw (← alike_cut i h) t)).0

  unlike_longer : (i : ℕ) → i ≤ n → alike l m i ≡ false → alike l m n ≡ false
  unlike_longer i h t = rw (alike_cut i h, t)

  -- where the bytes before place i are the same, the fields x and y of the k bytes after it decide
  pub alike_last : Bytes l → Bytes m → (i k x y : ℕ) → i + k ≡ n → alike l m i ≡ true →
      x ≡ bytes_at k l i → y ≡ bytes_at k m i → alike l m n ≡ eqb x y
  alike_last h j i k x y z t e f =
      rw (← z, alike_parts l m i k (omega arith) (omega arith), t, e, f)
      (alike_number l m h j k i (omega arith) (omega arith))

-- two labels of one length
module _ (l m : List ℕ) (same : length l ≡ length m) where
  alike_whole : alike l m (length l) ≡ same_label l m
  alike_whole = rw (take_all (length l) l (omega arith), take_all (length l) m (omega arith))

  pub same_last : Bytes l → Bytes m → (i k x y : ℕ) → i + k ≡ length l → alike l m i ≡ true →
      x ≡ bytes_at k l i → y ≡ bytes_at k m i → same_label l m ≡ eqb x y
  same_last h j i k x y z t e f = sym alike_whole ∙ alike_last l m (length l) (omega arith) (omega arith) h j i k x y z t e f

  pub same_unlike : (i : ℕ) → i ≤ length l → alike l m i ≡ false → same_label l m ≡ false
  same_unlike i h t = sym alike_whole ∙ unlike_longer l m (length l) (omega arith) (omega arith) i h t

-- labels of different lengths
pub same_length : (l m : List ℕ) → (length l ≡ length m → ⊥) → same_label l m ≡ false
unfolding same_label
same_length [] [] h = absurd (h refl)
same_length [] (y ∷ m) h = refl
same_length (x ∷ l) [] h = refl
same_length (x ∷ l) (y ∷ m) h =
    rw (same_length l m (λ e. h (ap suc e))) (split (eqb x y) (λ e. rw e) (λ e. rw e))

-- the label of the name at a place
pub label_at : (s : List ℕ) (at : ℕ) → (name_of (drop at s)).label ≡ take (u16_at s at - 4) (drop (at + 6) s)
unfolding name_of
label_at s at = rw (length_at s at, drop-drop)

pub label_length : (s : List ℕ) (at : ℕ) → 5 ≤ u16_at s at → at + 2 + u16_at s at ≤ length s →
    length (name_of (drop at s)).label ≡ u16_at s at - 4
label_length s at l h = rw (label_at s at) (simp (length-take, length-drop) (omega arith))

-- a label among the first names
module _ (s offsets l : List ℕ) where
  pub used_none : used (records_in name_of s offsets 0) l ≡ false
  unfolding used records_in
  used_none = refl

  pub used_more : (j : ℕ) → used (records_in name_of s offsets j) l ≡ false →
      same_label (name_of (drop (get_or offsets j 0) s)).label l ≡ false → used (records_in name_of s offsets (j + 1)) l ≡ false
  unfolding records_in
  used_more j e f = rw (add-one, used_snoc, e, f)

  pub used_found : (n j : ℕ) → j < n → same_label (name_of (drop (get_or offsets j 0) s)).label l ≡ true →
      used (records_in name_of s offsets n) l ≡ true
  unfolding records_in
  used_found zero j h e = absurd (omega arith)
  used_found (suc n) j h e =
      ⊎_elim
      (λ (k : suc j ≡ suc n). let same : j ≡ n = omega arith in
      rw (used_snoc, ← same, e) (split (used (records_in name_of s offsets j) l) (λ t. rw t) (λ t. rw t)))
      (λ (k : suc j < suc n). rw (used_snoc, used_found n j (omega arith) e))
      (eq-or-lt_of_le h)
