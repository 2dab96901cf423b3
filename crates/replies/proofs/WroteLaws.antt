-- Laws of writes to a part of the bytes: of fields read at and beside it, and of what follows it.
use Prim.Native.Nat.{ℕ, ◌+◌, ◌≤◌, suc, zero, ◌<◌, ◌/◌, ◌%◌}
use mathlib.Core.Path.{◌∙◌, ◌≡◌, sym, refl}
use mathlib.Core.List.{List, [], ◌∷◌}
use mathlib.Core.Logic.{◌⊎◌, inl, inr}
use native.Mathlib.Omega.{arith}
use native.Mathlib.Nat.{add-zero}
use lib.ListN.{drop, length-drop, set, length-set, length, get_or}
use lib.Seq.{get_or-drop, ext_get_or, get_or-set_other, sets, get_or-set_same}
use Rattle.wire.specs.Bytes.{u16_at, u32_at, le16, le32}
use Rattle.wire.proofs.Fields.{u32_le32}
use Rattle.replies.specs.Wrote.{Wrote}

-- two writes, one after the other, seen as one to a place that holds both
pub wrote_then : {l₁ l₂ l₃ : List ℕ} {a b c n m k : ℕ} → Wrote l₁ a n l₂ → Wrote l₂ b m l₃ → c ≤ a → a + n ≤ c + k
    → c ≤ b → b + m ≤ c + k
    → Wrote l₁ c k l₃
wrote_then p q i j x y = record {
  sized = q.sized ∙ p.sized;
  under = λ h l. q.under h (omega arith) ∙ p.under h (omega arith);
  over = λ h l. q.over h (omega arith) ∙ p.over h (omega arith);
}

-- fields of two and four bytes beside the place stay
pub u16_kept : {l m : List ℕ} {a n : ℕ} → Wrote l a n m → (i : ℕ) → (i + 2 ≤ a) ⊎ (a + n ≤ i) → u16_at m i ≡ u16_at l i
unfolding u16_at
u16_kept w i (inl h) = rw (w.under i (omega arith), w.under (i + 1) (omega arith))
u16_kept w i (inr h) = rw (w.over i (omega arith), w.over (i + 1) (omega arith))

pub u32_kept : {l m : List ℕ} {a n : ℕ} → Wrote l a n m → (i : ℕ) → (i + 4 ≤ a) ⊎ (a + n ≤ i) → u32_at m i ≡ u32_at l i
unfolding u32_at
u32_kept w i (inl h) =
    rw (w.under i (omega arith), w.under (i + 1) (omega arith), w.under (i + 2) (omega arith), w.under (i + 3) (omega arith))
u32_kept w i (inr h) =
    rw (w.over i (omega arith), w.over (i + 1) (omega arith), w.over (i + 2) (omega arith), w.over (i + 3) (omega arith))

-- what follows the place stays
pub rest_kept : {l m : List ℕ} {a n : ℕ} → Wrote l a n m → (k : ℕ) → a + n ≤ k → drop k m ≡ drop k l
rest_kept {l} {m} w k h =
    ext_get_or 0 (drop k m) (drop k l) (simp length-drop (omega (arith, w.sized)))
    (λ i q. get_or-drop k m i 0 ∙ (w.over (k + i) (omega arith) ∙ sym (get_or-drop k l i 0)))

-- one stored byte
pub wrote_set : (l : List ℕ) (i x : ℕ) → Wrote l i 1 (set l i x)
wrote_set l i x = record {
  sized = length-set l i x;
  under = λ j h. get_or-set_other l i j x 0 (λ e. omega arith);
  over = λ j h. get_or-set_other l i j x 0 (λ e. omega arith);
}

-- stored bytes, one after another
pub wrote_sets : (vs l : List ℕ) (i : ℕ) → Wrote l i (length vs) (sets l i vs)
wrote_sets [] l i = record { sized = refl; under = λ j h. refl; over = λ j h. refl }
wrote_sets (x ∷ vs) l i =
    wrote_then (wrote_set l i x) (wrote_sets vs (set l i x) (suc i)) (omega arith) (omega arith) (omega arith) (omega arith)

pub get_d_sets : (vs l : List ℕ) (i k : ℕ) → k < length vs → i + length vs ≤ length l → get_or (sets l i vs) (i + k) 0 ≡ get_or vs k 0
get_d_sets [] l i k h n = absurd (omega arith)
get_d_sets (x ∷ vs) l i zero h n =
    rw (add-zero i) ((wrote_sets vs (set l i x) (suc i)).under i (omega arith) ∙ get_or-set_same l i x 0 (omega arith))
get_d_sets (x ∷ vs) l i (suc k) h n =
    let e : i + suc k ≡ suc i + k = omega arith in
    rw e (get_d_sets vs (set l i x) (suc i) k (omega arith) (simp length-set (omega arith)))

-- a stored field of two bytes, and of four
pub wrote_u16 : {l m : List ℕ} (i x : ℕ) → m ≡ sets l i (le16 x) → Wrote l i 2 m
unfolding le16
wrote_u16 {l} {m} i x e = rw e (wrote_sets (x % 256 ∷ x / 256 % 256 ∷ []) l i)

pub u16_put : (l : List ℕ) {m : List ℕ} (i x : ℕ) → m ≡ sets l i (le16 x) → i + 2 ≤ length l → x < 65536 → u16_at m i ≡ x
unfolding le16 u16_at
u16_put l {m} i x e h k =
    let vs : List ℕ = x % 256 ∷ x / 256 % 256 ∷ [] in
    rw e (omega (arith, rw (add-zero i) at (get_d_sets vs l i 0 (omega arith) (omega arith)), get_d_sets vs l i 1 (omega arith) (omega arith)))

pub wrote_u32 : {l m : List ℕ} (i x : ℕ) → m ≡ sets l i (le32 x) → Wrote l i 4 m
unfolding le32
wrote_u32 {l} {m} i x e = rw e (wrote_sets (x % 256 ∷ x / 256 % 256 ∷ x / 65536 % 256 ∷ x / 16777216 % 256 ∷ []) l i)

pub u32_put : (l : List ℕ) {m : List ℕ} (i x : ℕ) → m ≡ sets l i (le32 x) → i + 4 ≤ length l → x < 4294967296 → u32_at m i ≡ x
unfolding le32 u32_at
u32_put l {m} i x e h k =
    let vs : List ℕ = x % 256 ∷ x / 256 % 256 ∷ x / 65536 % 256 ∷ x / 16777216 % 256 ∷ [] in
    let a : get_or m i 0 ≡ get_or vs 0 0 = rw e (rw (add-zero i) at (get_d_sets vs l i 0 (omega arith) (omega arith))) in
    let b : get_or m (i + 1) 0 ≡ get_or vs 1 0 = rw e (get_d_sets vs l i 1 (omega arith) (omega arith)) in
    let c : get_or m (i + 2) 0 ≡ get_or vs 2 0 = rw e (get_d_sets vs l i 2 (omega arith) (omega arith)) in
    let d : get_or m (i + 3) 0 ≡ get_or vs 3 0 = rw e (get_d_sets vs l i 3 (omega arith) (omega arith)) in
    rw (a, b, c, d) (u32_le32 x [] k)
