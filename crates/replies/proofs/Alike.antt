-- Laws of bytes that two buffers have alike: a field settles its bytes, and the records of a reply settle the reply.
use Prim.Native.Nat.{ℕ, ◌+◌, ◌≤◌, zero, suc, ◌-◌, ◌*◌}
use mathlib.Core.Path.{◌≡◌, sym, ap, ◌∙◌}
use mathlib.Core.List.{List}
use native.Mathlib.Omega.{arith}
use lib.ListN.{length, take, drop, get_or}
use lib.Seq.{get_or-take, get_or-drop, ext_get_or}
use Rattle.laws.proofs.Cases.{compare_le}
use Rattle.wire.specs.Bytes.{u16_at, u32_at}
use Rattle.wire.specs.Encoding.{Bytes}
use Rattle.replies.specs.Alike.{Alike}

pub alike_then : {b c : List ℕ} {i n m : ℕ} → Alike b c i n → Alike b c (i + n) m → Alike b c i (n + m)
alike_then {i} {n} p q =
    record { at = λ j l k. compare_le (i + n) j (λ h. q.at j h (omega arith)) (λ h. p.at j l h) }

-- n records of w bytes each
pub alike_many : {b c : List ℕ} (w n : ℕ) → ((g : ℕ) → 1 ≤ g → g ≤ n → Alike b c (w * (g - 1)) w) → Alike b c 0 (w * n)
alike_many w zero p = record { at = λ j l k. absurd (omega arith) }
alike_many w (suc n) p =
    let s : suc n - 1 ≡ n = omega arith in
    let last = rw s at (p (suc n) (omega arith) (omega arith)) in
    let others = alike_many w n (λ g l k. p g l (omega arith)) in
    record { at = λ j l k. compare_le (w * n) j (λ h. last.at j h (omega arith)) (λ h. others.at j l (omega arith)) }

-- the first n bytes and the rest
pub alike_all : {b c : List ℕ} {n : ℕ} → length b ≡ length c → Alike b c 0 n → drop n b ≡ drop n c → b ≡ c
alike_all {b} {c} {n} e p q =
    ext_get_or 0 b c e
    (λ i l. compare_le n i
    (λ h. let s : i ≡ n + (i - n) = omega arith in
    rw (s, ← get_or-drop n b (i - n) 0, ← get_or-drop n c (i - n) 0, q))
    (λ h. p.at i (omega arith) (omega arith)))

-- the same n bytes at the front
pub alike_taken : {b c : List ℕ} {n : ℕ} → take n b ≡ take n c → Alike b c 0 n
alike_taken {b} {c} {n} e =
    record { at = λ j l k. sym (get_or-take n b j 0 (omega arith)) ∙ ap (λ (z : List ℕ). get_or z j 0) e ∙ get_or-take n c j 0 (omega arith) }

byte_alike : {b c : List ℕ} (i : ℕ) → get_or b i 0 ≡ get_or c i 0 → Alike b c i 1
byte_alike i e = record { at = λ j l k. let s : j ≡ i = omega arith in rw (s, e) }

-- a field of two bytes that is n in both, and an equal field of four
module _ {b c : List ℕ} (x : Bytes b) (y : Bytes c) (i : ℕ) where
  pub u16_alike : {n : ℕ} → u16_at b i ≡ n → u16_at c i ≡ n → Alike b c i 2
  unfolding u16_at
  u16_alike e h =
      let f : (get_or b i 0 ≡ get_or c i 0) × (get_or b (i + 1) 0 ≡ get_or c (i + 1) 0) = omega (arith, x i, x (i + 1), y i, y (i + 1)) in
      alike_then (byte_alike i f.0) (byte_alike (i + 1) f.1)

  pub u32_alike : u32_at b i ≡ u32_at c i → Alike b c i 4
  unfolding u32_at
  u32_alike e =
      let f : (get_or b i 0 ≡ get_or c i 0) × (get_or b (i + 1) 0 ≡ get_or c (i + 1) 0) × (get_or b (i + 2) 0 ≡ get_or c (i + 2) 0)
      × (get_or b (i + 3) 0 ≡ get_or c (i + 3) 0) =
      omega (arith, x i, x (i + 1), x (i + 2), x (i + 3), y i, y (i + 1), y (i + 2), y (i + 3)) in
      alike_then (alike_then (alike_then (byte_alike i f.0) (byte_alike (i + 1) f.1)) (byte_alike (i + 2) f.2))
      (byte_alike (i + 3) f.3)
