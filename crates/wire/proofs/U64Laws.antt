-- Laws of fields of eight bytes: two are equal exactly where their bytes are, and each is written as the bytes that it was read from.
use Prim.Native.Nat.{ℕ, zero, suc, ◌+◌, ◌*◌, ◌/◌, ◌%◌, ◌<◌}
use mathlib.Core.Path.{◌≡◌, refl}
use mathlib.Core.List.{List, [], ◌∷◌, ◌++◌, append_assoc, append-nil, flat_map}
use native.Mathlib.Omega.{arith}
use native.Mathlib.Numerals.{add-one, add-two, add-three, add-four}
use lib.ListN.{length, get_or}
use Rattle.laws.specs.Tabulate.{tabulate}
use Rattle.wire.specs.Bytes.{u32_at, le32}
use Rattle.wire.specs.U64.{u64_at, le64}
use Rattle.wire.specs.Encoding.{Bytes}
use Rattle.wire.proofs.Fields.{four_bytes, flat_append}

-- n bytes from i on as one number
unfoldable pub bytes_at : ℕ → List ℕ → ℕ → ℕ
bytes_at zero b i = 0
bytes_at (suc n) b i = bytes_at n b (suc i) * 256 + get_or b i 0

pub u8_bytes : (b : List ℕ) (i : ℕ) → get_or b i 0 ≡ bytes_at 1 b i
unfolding bytes_at
u8_bytes b i = omega arith

pub u32_bytes : (b : List ℕ) (i : ℕ) → u32_at b i ≡ bytes_at 4 b i
unfolding u32_at bytes_at
u32_bytes b i = simp (add-one, add-two, add-three) (omega arith)

pub u64_bytes : (b : List ℕ) (i : ℕ) → u64_at b i ≡ bytes_at 8 b i
unfolding u64_at u32_at bytes_at
u64_bytes b i = simp (add-one, add-two, add-three, add-four) (omega arith)

-- how many bytes so many fields have
pub length_le64s : (xs : List ℕ) → length (flat_map le64 xs) ≡ 8 * length xs
unfolding flat_map le64 le32
length_le64s [] = refl
length_le64s (x ∷ xs) = omega (arith, length_le64s xs)

-- writing what was read, past the end too
le32_u32 : (b : List ℕ) → Bytes b → (i : ℕ) → le32 (u32_at b i) ≡ get_or b i 0 ∷ get_or b (i + 1) 0 ∷ get_or b (i + 2) 0 ∷ get_or b (i + 3) 0 ∷ []
unfolding le32 u32_at
le32_u32 b k i =
    let e = four_bytes (get_or b i 0) (get_or b (i + 1) 0) (get_or b (i + 2) 0) (get_or b (i + 3) 0) (u32_at b i)
    (k i) (k (i + 1)) (k (i + 2)) (k (i + 3)) (omega arith) in
    rw (e.0, e.1, e.2, e.3)

u32_small : (b : List ℕ) → Bytes b → (i : ℕ) → u32_at b i < 4294967296
unfolding u32_at
u32_small b k i = omega (arith, k i, k (i + 1), k (i + 2), k (i + 3))

-- the bytes of a field are those that stand behind the bytes before it
le64_u64 : (b : List ℕ) → Bytes b → (i : ℕ) → tabulate (λ j. get_or b j 0) i ++ le64 (u64_at b i) ≡ tabulate (λ j. get_or b j 0) (i + 8)
unfolding le64 u64_at
le64_u64 b k i =
    let low : (u32_at b i + 4294967296 * u32_at b (i + 4)) % 4294967296 ≡ u32_at b i = omega (arith, u32_small b k i) in
    let high : (u32_at b i + 4294967296 * u32_at b (i + 4)) / 4294967296 ≡ u32_at b (i + 4) = omega (arith, u32_small b k i) in
    let same : i + 8 ≡ suc (suc (suc (suc (suc (suc (suc (suc i))))))) = omega arith in
    rw (low, high, le32_u32 b k i, le32_u32 b k (i + 4), same) (simp (append_assoc, add-one, add-two, add-three, add-four))

pub le64s_tabulated : (x : List ℕ) → Bytes x → (n : ℕ)
    → flat_map le64 (tabulate (λ k. u64_at x (8 * k)) n) ≡ tabulate (λ i. get_or x i 0) (8 * n)
unfolding flat_map
le64s_tabulated x b zero = refl
le64s_tabulated x b (suc n) =
    let same : 8 * suc n ≡ 8 * n + 8 = omega arith in
    rw (same, flat_append le64 (tabulate (λ k. u64_at x (8 * k)) n) (u64_at x (8 * n) ∷ []), le64s_tabulated x b n, append-nil)
    (le64_u64 x b (8 * n))
