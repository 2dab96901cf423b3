-- Fields of two and four bytes: reading what was written, and writing what was read.
use Prim.Native.Nat.{ℕ, ◌+◌, zero, suc, ◌*◌, ◌≤◌, ◌/◌, ◌%◌, ◌<◌}
use mathlib.Core.Path.{◌≡◌, refl, sym, ◌∙◌, ap, subst}
use mathlib.Core.Bool.{true}
use mathlib.Core.List.{List, ◌++◌, [], ◌∷◌, flat_map, append_assoc}
use native.Mathlib.Omega.{arith}
use native.Mathlib.Numerals.{add-one, add-two, add-three, add-four}
use native.Mathlib.Nat.{add_assoc, div-div-eq-div-mul, add-zero}
use lib.ListN.{drop, length, get_or, length-append}
use lib.Seq.{get_or-drop, drop-cons, drop-drop, drop-append_seam}
use Rattle.wire.specs.Limits.{no_end}
use Rattle.wire.specs.Bytes.{u16_at, u32_at, le16, le32}
use Rattle.wire.specs.Record.{length_of, kind_of, after, framed}
use Rattle.wire.specs.SheetFormat.{u16s}
use Rattle.wire.specs.Encoding.{Bytes, encode_record}
use Rattle.wire.proofs.Sorts.{framed_of, Framed}

-- offsets counted from further on
pub u16_drop : (k : ℕ) (b : List ℕ) (i : ℕ) → u16_at (drop k b) i ≡ u16_at b (k + i)
unfolding u16_at
u16_drop k b i =
    let same : k + (i + 1) ≡ k + i + 1 = omega arith in
    rw (get_or-drop k b i 0, get_or-drop k b (i + 1) 0, same)

pub u32_drop : (k : ℕ) (b : List ℕ) (i : ℕ) → u32_at (drop k b) i ≡ u32_at b (k + i)
unfolding u32_at
u32_drop k b i = simp (get_or-drop, add_assoc)

pub u16s_drop : (k : ℕ) (b : List ℕ) (i n : ℕ) → u16s (drop k b) i n ≡ u16s b (k + i) n
unfolding u16s
u16s_drop k b i zero = refl
u16s_drop k b i (suc n) =
    let same : k + (i + 2) ≡ k + i + 2 = omega arith in
    rw (u16_drop k b i, u16s_drop k b (i + 2) n, same)

-- a field of four bytes is two of two
pub u32_halves : (b : List ℕ) (i : ℕ) → u32_at b i ≡ u16_at b i + 65536 * u16_at b (i + 2)
unfolding u16_at u32_at
u32_halves b i = let e : i + 2 + 1 ≡ i + 3 = omega arith in rw e (omega arith)

pub le32_halves : (x y : ℕ) → x ≤ no_end → le32 (x + 65536 * y) ≡ le16 x ++ le16 y
unfolding le16 le32
le32_halves x y l =
    let z = x + 65536 * y in
    let first : z % 256 ≡ x % 256 = omega arith in
    let rest : z / 256 ≡ x / 256 + 256 * y = omega arith in
    let second : (x / 256 + 256 * y) % 256 ≡ x / 256 % 256 = omega arith in
    let third : z / 65536 ≡ y = omega arith in
    let fourth : z / 16777216 ≡ y / 256 = omega (arith, div-div-eq-div-mul z 65536 256) in
    rw (first, rest, second, third, fourth)

-- reading what was written
pub u16_le16 : (x : ℕ) (c : List ℕ) → x ≤ no_end → u16_at (le16 x ++ c) 0 ≡ x
unfolding u16_at le16
u16_le16 x c h = omega arith

pub u32_le32 : (x : ℕ) (c : List ℕ) → x < 4294967296 → u32_at (le32 x ++ c) 0 ≡ x
unfolding u32_at le32
u32_le32 x c h =
    let second = div-div-eq-div-mul x 256 256 in
    let third = div-div-eq-div-mul x 65536 256 in
    let top : x / 16777216 < 256 = omega arith in
    let whole : x / 16777216 % 256 ≡ x / 16777216 = omega arith in
    four x (x / 256) (x / 65536) (x / 16777216) (omega arith) (omega arith) (omega arith) whole
  where
    four : (x y z w : ℕ) → x ≡ 256 * y + x % 256 → y ≡ 256 * z + y % 256 → z ≡ 256 * w + z % 256 → w % 256 ≡ w
        → x % 256 + 256 * (y % 256) + 65536 * (z % 256) + 16777216 * (w % 256) ≡ x
    four x y z w e f g h = omega arith

pub length_le16 : (x : ℕ) (c : List ℕ) → length (le16 x ++ c) ≡ 2 + length c
unfolding le16
length_le16 x c = omega arith

-- the bytes of items one behind another
pub flat_append : {A : Type 0} (f : A → List ℕ) (xs ys : List A) → flat_map f (xs ++ ys) ≡ flat_map f xs ++ flat_map f ys
unfolding flat_map
flat_append f [] ys = refl
flat_append f (x ∷ xs) ys = rw (flat_append f xs ys, append_assoc)

pub length_le16s : (xs : List ℕ) → length (flat_map le16 xs) ≡ 2 * length xs
unfolding flat_map
length_le16s [] = refl
length_le16s (x ∷ xs) = omega (arith, length_le16 x (flat_map le16 xs), length_le16s xs)

-- every number fits two bytes
pub data Fields : List ℕ → Type 0 where
  none : Fields []
  more : {x : ℕ} {xs : List ℕ} → x ≤ no_end → Fields xs → Fields (x ∷ xs)

drop_le16_append : (x : ℕ) (c : List ℕ) → drop 2 (le16 x ++ c) ≡ c
unfolding le16
drop_le16_append x c = refl

pub u16s_le16s : {xs : List ℕ} → Fields xs → (c : List ℕ) → u16s (flat_map le16 xs ++ c) 0 (length xs) ≡ xs
unfolding u16s flat_map
u16s_le16s none c = refl
u16s_le16s (more {x} {xs} h f) c =
    let b = le16 x ++ (flat_map le16 xs ++ c) in
    let first : u16_at b 0 ≡ x = u16_le16 x (flat_map le16 xs ++ c) h in
    let later : u16s b 2 (length xs) ≡ xs = sym (u16s_drop 2 b 0 (length xs)) ∙ (rw drop_le16_append (u16s_le16s f c)) in
    subst (λ (z : List ℕ). u16_at z 0 ∷ u16s z 2 (length xs) ≡ x ∷ xs) (sym (append_assoc (le16 x) (flat_map le16 xs) c))
    (rw (first, later))

-- writing what was read
low_byte : (a q : ℕ) → a < 256 → ((a + 256 * q) % 256 ≡ a) × ((a + 256 * q) / 256 ≡ q)
low_byte a q l = let h : (a + 256 * q) / 256 ≡ q = omega arith in omega arith

pub drop_le16 : (b : List ℕ) → Bytes b → (i : ℕ) → i + 2 ≤ length b → le16 (u16_at b i) ++ drop (i + 2) b ≡ drop i b
unfolding le16 u16_at
drop_le16 b k i l =
    let low = low_byte (get_or b i 0) (get_or b (i + 1) 0) (k i) in
    let high : get_or b (i + 1) 0 % 256 ≡ get_or b (i + 1) 0 = omega (arith, k (i + 1)) in
    let first = drop-cons b i 0 (omega arith) in
    let second = drop-cons b (suc i) 0 (omega arith) in
    rw (low.0, low.1, high, first, second, add-one, add-two)

pub drop_le16s : (b : List ℕ) → Bytes b → (i n : ℕ) → i + 2 * n ≤ length b → flat_map le16 (u16s b i n) ++ drop (i + 2 * n) b ≡ drop i b
unfolding flat_map u16s
drop_le16s b k i zero l = rw (add-zero i)
drop_le16s b k i (suc n) l =
    let same : i + 2 * suc n ≡ i + 2 + 2 * n = omega arith in
    rw (append_assoc, same, drop_le16s b k (i + 2) n (omega arith)) (drop_le16 b k i (omega arith))

pub four_bytes : (p q r s x : ℕ) → p < 256 → q < 256 → r < 256 → s < 256 → x ≡ p + 256 * (q + 256 * (r + 256 * s))
    → (x % 256 ≡ p) × (x / 256 % 256 ≡ q) × (x / 65536 % 256 ≡ r) × (x / 16777216 % 256 ≡ s)
four_bytes p q r s x hp hq hr hs e =
    let one = low_byte p (q + 256 * (r + 256 * s)) hp in
    let two = low_byte q (r + 256 * s) hq in
    let three = low_byte r s hr in
    let second : x / 256 ≡ q + 256 * (r + 256 * s) = rw e one.1 in
    let third : x / 65536 ≡ r + 256 * s = sym (div-div-eq-div-mul x 256 256) ∙ rw second two.1 in
    let last : x / 16777216 ≡ s = sym (div-div-eq-div-mul x 65536 256) ∙ rw third three.1 in
    (rw e one.0, rw second two.0, rw third three.0, rw last (omega arith))

pub drop_le32 : (b : List ℕ) → Bytes b → (i : ℕ) → i + 4 ≤ length b → le32 (u32_at b i) ++ drop (i + 4) b ≡ drop i b
unfolding le32 u32_at
drop_le32 b k i l =
    let e = four_bytes (get_or b i 0) (get_or b (i + 1) 0) (get_or b (i + 2) 0) (get_or b (i + 3) 0) (u32_at b i)
    (k i) (k (i + 1)) (k (i + 2)) (k (i + 3)) (omega arith) in
    rw (
      e.0,
      e.1,
      e.2,
      e.3,
      drop-cons b i 0 (omega arith),
      drop-cons b (suc i) 0 (omega arith),
      drop-cons b (suc (suc i)) 0 (omega arith),
      drop-cons b (suc (suc (suc i))) 0 (omega arith),
      add-one,
      add-two,
      add-three,
      add-four,
    )

-- The frame of an encoded record, whatever follows it.
module _ (kind : ℕ) (body c : List ℕ) (small : kind ≤ no_end) (fits : length body + 2 ≤ no_end) where
  pub length_encoded : length_of (encode_record kind body ++ c) ≡ length body + 2
  unfolding encode_record
  length_encoded = rw append_assoc (u16_le16 (length body + 2) (le16 kind ++ body ++ c) fits)

  pub kind_encoded : kind_of (encode_record kind body ++ c) ≡ kind
  unfolding encode_record u16_at le16
  kind_encoded = omega arith

  pub body_encoded : drop 4 (encode_record kind body ++ c) ≡ body ++ c
  unfolding encode_record le16
  body_encoded = refl

  pub length_record : length (encode_record kind body ++ c) ≡ length body + 4 + length c
  unfolding encode_record le16
  length_record = omega (arith, length-append body c)

  pub after_encoded : after (encode_record kind body ++ c) ≡ c
  unfolding after
  after_encoded =
      let same : length body + 2 + 2 ≡ 4 + length body = omega arith in
      rw (length_encoded, same, ← drop-drop (length body) 4 (encode_record kind body ++ c), body_encoded) (drop-append_seam body c)

  pub framed_encoded : framed (encode_record kind body ++ c) ≡ true
  framed_encoded =
      framed_of _
      (record {
        four = omega (arith, length_record);
        least = omega (arith, length_encoded);
        whole = omega (arith, length_encoded, length_record);
      })

-- A record that was read is the encoding of its kind and body, with what follows it.
pub encode_read : (b : List ℕ) → Bytes b → Framed b → (body : List ℕ) → body ++ after b ≡ drop 4 b
    → length body + 2 ≡ length_of b → encode_record (kind_of b) body ++ after b ≡ b
unfolding encode_record
encode_read b k f body e l =
    rw (l, append_assoc, append_assoc, e, drop_le16 b k 2 (omega arith)) (drop_le16 b k 0 (omega arith))

pub field_at : (s : List ℕ) (at i : ℕ) → u16_at (drop at s) i ≡ u16_at s (at + i)
field_at s at i = u16_drop at s i

-- a field that was read
pub read_at : (s : List ℕ) (at i x : ℕ) → x ≡ u16_at s (at + i) → u16_at (drop at s) i ≡ x
read_at s at i x e = field_at s at i ∙ sym e

pub length_at : (s : List ℕ) (at : ℕ) → u16_at (drop at s) 0 ≡ u16_at s at
length_at s at = field_at s at 0 ∙ ap (u16_at s) (add-zero at)

pub fields_at : (s : List ℕ) (at i n : ℕ) → u16s (drop at s) i n ≡ u16s s (at + i) n
fields_at s at i n = u16s_drop at s i n
