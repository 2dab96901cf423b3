-- Laws of the tests of a claim's record after its kind: its length, its fields, and its names one after another.
use Prim.Native.Nat.{ℕ, ◌+◌, ◌*◌, suc, ◌<◌, ◌-◌, ◌≤◌}
use mathlib.Core.Path.{◌≡◌, ◌∙◌}
use mathlib.Core.Bool.{true, ◌&&◌, false}
use mathlib.Core.List.{List}
use native.Mathlib.Omega.{arith}
use native.Mathlib.Nat.{add-zero, mul-zero, sub-zero}
use borrow.Author.Tests.{eqb-true, le-leb, lt-leb}
use lib.ListN.{drop}
use lib.Dec.{leb, eqb}
use Rattle.laws.proofs.Cases.{and_true}
use Rattle.wire.specs.Bytes.{u16_at}
use Rattle.wire.specs.SheetFormat.{all_within, u16s}
use Rattle.wire.proofs.Fields.{length_at}
use Rattle.claim_records.specs.Body.{Whole}

pub whole_length : (s : List ℕ) (at len : ℕ) → Whole s at len → u16_at (drop at s) 0 ≡ len
whole_length s at len w = length_at s at ∙ w.says

pub lists_end : (m n len : ℕ) → (leb 1 m && leb m 8 && leb 1 n && leb n 8 && eqb (6 + 2 * (m + n)) len) ≡ true →
    6 + 2 * (m + n) ≡ len
lists_end m n len e =
    eqb-true (6 + 2 * (m + n)) len (and_true (leb 1 m && leb m 8 && leb 1 n && leb n 8) (eqb (6 + 2 * (m + n)) len) e).1

-- the numbers at offsets of two bytes
module _ (s : List ℕ) (names at n i : ℕ) (h : i < n) where
  within_more : all_within names (u16s s (at + 2 * i) (n - i)) ≡
      (leb 1 (u16_at s (at + 2 * i)) && leb (u16_at s (at + 2 * i)) names
      && all_within names (u16s s (at + 2 * (i + 1)) (n - (i + 1))))
  unfolding all_within u16s
  within_more =
      let e : n - i ≡ suc (n - (i + 1)) = omega arith in
      let f : at + 2 * (i + 1) ≡ at + 2 * i + 2 = omega arith in
      rw (e, f)

  pub within_low : (x : ℕ) → x ≡ u16_at s (at + 2 * i) → x < 1 → all_within names (u16s s (at + 2 * i) (n - i)) ≡ false
  within_low x e l = rw (within_more, ← e, lt-leb 1 x l)

  pub within_high : (x : ℕ) → x ≡ u16_at s (at + 2 * i) → 1 ≤ x → names < x → all_within names (u16s s (at + 2 * i) (n - i)) ≡ false
  within_high x e l k = rw (within_more, ← e, le-leb 1 x l, lt-leb x names k)

  pub within_pass : (x : ℕ) → x ≡ u16_at s (at + 2 * i) → 1 ≤ x → x ≤ names →
      all_within names (u16s s (at + 2 * i) (n - i)) ≡ all_within names (u16s s (at + 2 * (i + 1)) (n - (i + 1)))
  within_pass x e l k = rw (within_more, ← e, le-leb 1 x l, le-leb x names k)

pub within_start : (s : List ℕ) (names at n : ℕ) → all_within names (u16s s (at + 2 * 0) (n - 0)) ≡ all_within names (u16s s at n)
within_start s names at n = simp (mul-zero, add-zero, sub-zero)

pub within_end : (s : List ℕ) (names at n i : ℕ) → n ≤ i → all_within names (u16s s at (n - i)) ≡ true
unfolding all_within u16s
within_end s names at n i h = let e : n - i ≡ 0 = omega arith in rw e
