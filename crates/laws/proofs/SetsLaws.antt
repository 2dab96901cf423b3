-- Laws of runs of stored values: one run behind another, and one over another.
use Prim.Native.Nat.{ℕ, suc, ◌+◌, ◌≤◌}
use mathlib.Core.Path.{◌≡◌, refl, ◌∙◌}
use mathlib.Core.List.{List, [], ◌∷◌, ◌++◌}
use native.Mathlib.Omega.{arith}
use native.Mathlib.Nat.{zero-add, add-zero}
use lib.ListN.{length, drop, set, length-set}
use lib.Seq.{sets, sets-eq, length-sets, set-append_left}

module _ {A : Type 0} where
  pub sets_append : (a b l : List A) (i : ℕ) → sets l i (a ++ b) ≡ sets (sets l i a) (i + length a) b
  sets_append [] b l i = rw (add-zero i)
  sets_append (x ∷ a) b l i =
      let same : i + length (x ∷ a) ≡ suc i + length a = omega arith in
      rw same (sets_append a b (set l i x) (suc i))

  -- as the stores leave them
  pub sets_then : (a b l : List A) (i : ℕ) {l₁ l₂ : List A} → l₁ ≡ sets l i a → l₂ ≡ sets l₁ (i + length a) b → l₂ ≡ sets l i (a ++ b)
  sets_then a b l i e f = rw (f, e, sets_append a b l i)

  -- values from the front on, and a store over them
  pub sets_front : (b l : List A) → length b ≤ length l → sets l 0 b ≡ b ++ drop (length b) l
  sets_front b l h = sets-eq b l 0 (omega arith) ∙ rw (zero-add (length b))

  sets_append_left : (v b c : List A) (i : ℕ) → i + length v ≤ length b → sets (b ++ c) i v ≡ sets b i v ++ c
  sets_append_left [] b c i h = refl
  sets_append_left (x ∷ v) b c i h =
      rw (set-append_left b c i x (omega arith)) (sets_append_left v (set b i x) c (suc i) (simp length-set (omega arith)))

  pub sets_over : (v b l : List A) (i : ℕ) {l₁ l₂ : List A} → i + length v ≤ length b → length b ≤ length l
      → l₁ ≡ sets l 0 b → l₂ ≡ sets l₁ i v → l₂ ≡ sets l 0 (sets b i v)
  sets_over v b l i h k p q =
      let size : length (sets b i v) ≡ length b = length-sets b i v in
      let over : sets (b ++ drop (length b) l) i v ≡ sets b i v ++ drop (length b) l = sets_append_left v b (drop (length b) l) i h in
      let whole : sets l 0 (sets b i v) ≡ sets b i v ++ drop (length b) l =
      sets_front (sets b i v) l (omega arith) ∙ rw size in
      rw (q, p, sets_front b l k, over, whole)
