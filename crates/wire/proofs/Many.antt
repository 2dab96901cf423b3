-- Records of one sort that follow one another: what `read_many` read, and that it reads what was encoded. One lemma each, over
-- the sort: its tests, the value of a record, the encoding of a value.
use Prim.Native.Nat.{ℕ, ◌+◌, ◌≤◌, ◌<◌, zero, suc, ◌*◌}
use mathlib.Core.Path.{◌≡◌, refl, sym, subst, ap, ◌∙◌}
use mathlib.Core.List.{List, [], ◌∷◌, ◌++◌, append_assoc, append-nil, flat_map, map, map-append}
use native.Mathlib.Omega.{arith}
use native.Mathlib.Nat.{add-zero}
use lib.ListN.{length, length-append, take, get_or, length-drop}
use Rattle.wire.specs.Record.{after, Test, length_of, refusal, Reading, read}
use Rattle.wire.specs.SheetFormat.{read_many}
use Rattle.wire.specs.Encoding.{Each, none, more}
use Rattle.wire.proofs.Passing.{Pass, Nonzero, Positive, onward_passed, onward_read, onward_positive}

-- Behind xs the bytes b begin with records that pass their tests, of the values ys, and go on with the bytes c.
pub data Reads {A : Type 0} (tests : List A → List ℕ → List Test) (value : List ℕ → A) :
    List A → List ℕ → List A → List ℕ → Type 0 where
  stop : {xs : List A} {b : List ℕ} → Reads tests value xs b [] b
  go : {xs : List A} {b : List ℕ} {ys : List A} {c : List ℕ} → Pass (tests xs b)
      → Reads tests value (xs ++ (value b ∷ [])) (after b) ys c → Reads tests value xs b (value b ∷ ys) c

pub empty_of_length : (b : List ℕ) → length b ≡ 0 → b ≡ []
empty_of_length [] e = refl
empty_of_length (x ∷ b) e = absurd (omega arith)

pub reads_same : {A : Type 0} {tests : List A → List ℕ → List Test} {value : List ℕ → A} {xs ys zs : List A} {b c e : List ℕ}
    → ys ≡ zs → c ≡ e → Reads tests value xs b ys c → Reads tests value xs b zs e
reads_same p q t = rw (p, q) at t

-- items that are right in two ways
pub each_both : {A : Type 0} {P Q : List A → A → Type 0} {xs ys : List A} → Each P xs ys → Each Q xs ys
    → Each (λ us y. P us y × Q us y) xs ys
each_both none none = none
each_both (more p e) (more q f) = more (p, q) (each_both e f)

-- and where each that is right is right in another way, or its value by a function is
pub each_so : {A : Type 0} {P Q : List A → A → Type 0} → ((us : List A) (y : A) → P us y → Q us y) → {xs ys : List A} → Each P xs ys
    → Each Q xs ys
each_so so none = none
each_so so (more {xs} {ys} {y} p e) = more (so xs y p) (each_so so e)

pub each_map : {A B : Type 0} {P : List A → A → Type 0} {Q : List B → B → Type 0} (h : A → B)
    → ((us : List A) (y : A) → P us y → Q (map h us) (h y)) → {xs ys : List A} → Each P xs ys → Each Q (map h xs) (map h ys)
each_map h so none = none
each_map {Q = Q} h so (more {xs} {ys} {y} p e) =
    more (so xs y p) (subst (λ us. Each Q us (map h ys)) (map-append h xs (y ∷ [])) (each_map h so e))

-- fewer than n items stand before each of at most n
pub each_short : {A : Type 0} (n : ℕ) (xs ys : List A) → length xs + length ys ≤ n → Each (λ us y. length us < n) xs ys
each_short n xs [] l = none
each_short n xs (y ∷ ys) l =
    let short : length xs < n = omega arith in
    more short (each_short n (xs ++ (y ∷ [])) ys (omega (arith, length-append xs (y ∷ []))))

-- an item of a list that is right at each place
pub each_at : {A : Type 0} {P : List A → A → Type 0} {xs ys : List A} → Each P xs ys → (i : ℕ) (z : A) → i < length ys
    → P (xs ++ take i ys) (get_or ys i z)
each_at {P} {xs} (more {y} p e) zero z l = subst (λ us. P us y) (sym (append-nil xs)) p
each_at {P} {xs} (more {ys = ys} {y = y} p e) (suc i) z l =
    subst (λ us. P us (get_or ys i z)) (append_assoc xs (y ∷ []) (take i ys)) (each_at e i z (omega arith))
each_at none i z l = absurd (omega arith)

module _ {A : Type 0} {tests : List A → List ℕ → List Test} {value : List ℕ → A} where
  -- what every record that passes has, its values have
  pub each_read : {P : List A → A → Type 0} (Kept : List ℕ → Type 0) → ((b : List ℕ) → Kept b → Kept (after b))
      → ((xs : List A) (b : List ℕ) → Kept b → Pass (tests xs b) → P xs (value b))
      → {xs : List A} {b : List ℕ} {ys : List A} {c : List ℕ} → Kept b → Reads tests value xs b ys c → Each P xs ys
  each_read Kept keep has k stop = none
  each_read Kept keep has k (go p rest) = more (has _ _ k p) (each_read Kept keep has (keep _ k) rest)

  -- what skipping a record keeps, the bytes behind the records have
  pub kept_read : (Kept : List ℕ → Type 0) → ((b : List ℕ) → Kept b → Kept (after b))
      → {xs : List A} {b : List ℕ} {ys : List A} {c : List ℕ} → Kept b → Reads tests value xs b ys c → Kept c
  kept_read Kept keep k stop = k
  kept_read Kept keep k (go p rest) = kept_read Kept keep (keep _ k) rest

  -- writing what was read gives the bytes back, where it does so for each record
  pub encode_reads : (encode : A → List ℕ) (Kept : List ℕ → Type 0) → ((b : List ℕ) → Kept b → Kept (after b))
      → ((xs : List A) (b : List ℕ) → Kept b → Pass (tests xs b) → encode (value b) ++ after b ≡ b)
      → {xs : List A} {b : List ℕ} {ys : List A} {c : List ℕ} → Kept b → Reads tests value xs b ys c
      → flat_map encode ys ++ c ≡ b
  unfolding flat_map
  encode_reads encode Kept keep back k stop = refl
  encode_reads encode Kept keep back k (go {xs} {b} p rest) =
      rw (append_assoc, encode_reads encode Kept keep back (keep b k) rest) (back xs b k p)

  -- the bytes taken, where no record takes more than k
  pub reads_length : (k : ℕ) → ((xs : List A) (b : List ℕ) → Pass (tests xs b) → length_of b + 2 ≤ k)
      → {xs : List A} {b : List ℕ} {ys : List A} {c : List ℕ} → Reads tests value xs b ys c → length b ≤ length ys * k + length c
  unfolding after
  reads_length k most stop = omega arith
  reads_length k most (go {xs} {b} p rest) =
      omega (arith, most xs b p, reads_length k most rest, length-drop (length_of b + 2) b)

module _ {A R : Type 0} (tests : List A → List ℕ → List Test) (value : List ℕ → A) (rest : ℕ → List A → List ℕ → Reading R) where
  -- reading that came to an end read as many records as were asked for, each of which passed
  pub many_read : ((xs : List A) (b : List ℕ) → Nonzero (tests xs b))
      → (n r : ℕ) (xs : List A) (b : List ℕ) (d : R) → read_many tests value rest n r xs b ≡ read d
      → (ys : List A) × (c : List ℕ) × (length ys ≡ n) × Reads tests value xs b ys c × (rest (r + n) (xs ++ ys) c ≡ read d)
  unfolding read_many
  many_read w zero r xs b d e = ([], b, refl, stop, rw (add-zero, append-nil) e)
  many_read w (suc n) r xs b d e =
      let s = onward_read (tests xs b) (w xs b) r _ d e in
      let m = many_read w n (r + 1) (xs ++ (value b ∷ [])) (after b) d s.1 in
      let same : r + 1 + n ≡ r + suc n = omega arith in
      (value b ∷ m.0, m.1, ap suc m.2, go s.0 m.3, rw (append_assoc, same) at m.4)

  -- no refusal is 0
  pub many_positive : ((r : ℕ) (xs : List A) (b : List ℕ) → Positive (rest r xs b)) → (n r : ℕ) (xs : List A) (b : List ℕ)
      → Positive (read_many tests value rest n r xs b)
  unfolding read_many
  many_positive p zero r xs b = p r xs b
  many_positive p (suc n) r xs b = onward_positive (refusal (tests xs b)) r _ (many_positive p n (r + 1) _ (after b))

  -- what was encoded is read, each record and then the rest, where each record that is right is read with what follows it
  pub many_encoded : (encode : A → List ℕ) (P : List A → A → Type 0)
      → ((xs : List A) (y : A) (c : List ℕ) → P xs y
      → Pass (tests xs (encode y ++ c)) × (value (encode y ++ c) ≡ y) × (after (encode y ++ c) ≡ c))
      → (r : ℕ) {xs ys : List A} → Each P xs ys → (c : List ℕ)
      → read_many tests value rest (length ys) r xs (flat_map encode ys ++ c) ≡ rest (r + length ys) (xs ++ ys) c
  unfolding read_many flat_map
  many_encoded encode P good r none c = rw (add-zero, append-nil)
  many_encoded encode P good r (more {xs} {ys} {y} p e) c =
      let g = good xs y (flat_map encode ys ++ c) p in
      let same : r + 1 + length ys ≡ r + suc (length ys) = omega arith in
      rw append_assoc
      (onward_passed _ r _ g.0 ∙ rw (g.1, g.2, many_encoded encode P good (r + 1) e c, same, append_assoc))
