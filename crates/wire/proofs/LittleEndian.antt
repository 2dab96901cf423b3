-- The format's fields are the library's bytes of a number, low byte first.
use Rattle.std.proofs.Common.{◌≡◌, refl, ◌/◌, ◌%◌, ℕ}
use native.Mathlib.Omega.{arith}
use native.Mathlib.Nat.{div-div-eq-div-mul}
use Rattle.std.specs.Int.{w16, w32, w64, to_le_bytes}
use Rattle.wire.specs.Bytes.{le16, le32}
use Rattle.wire.specs.U64.{le64}

pub le16_bytes : (x : ℕ) → to_le_bytes w16 x ≡ le16 x
unfolding le16
le16_bytes x = refl

pub le32_bytes : (x : ℕ) → to_le_bytes w32 x ≡ le32 x
unfolding le32
le32_bytes x = refl

pub le64_bytes : (x : ℕ) → to_le_bytes w64 x ≡ le64 x
unfolding le64 le32
le64_bytes x =
    let y = x % 4294967296 in
    let b0 : y % 256 ≡ x % 256 = omega arith in
    let b1 : y / 256 % 256 ≡ x / 256 % 256 = omega arith in
    let b2 : y / 65536 % 256 ≡ x / 65536 % 256 = omega arith in
    let b3 : y / 16777216 % 256 ≡ x / 16777216 % 256 = omega arith in
    let b5 : x / 4294967296 / 256 ≡ x / 1099511627776 = div-div-eq-div-mul x 4294967296 256 in
    let b6 : x / 4294967296 / 65536 ≡ x / 281474976710656 = div-div-eq-div-mul x 4294967296 65536 in
    let b7 : x / 4294967296 / 16777216 ≡ x / 72057594037927936 = div-div-eq-div-mul x 4294967296 16777216 in
    rw (b0, b1, b2, b3, b5, b6, b7) refl
