-- What holds of a member, of its side and of its bytes in a row.
use Prim.Native.Nat.{◌≤◌, ℕ, ◌+◌, ◌-◌}
use mathlib.Core.Path.{◌≡◌, refl, ap, ◌∙◌}
use mathlib.Core.Bool.{true}
use mathlib.Core.List.{List, ◌++◌, append_assoc}
use native.Mathlib.Omega.{arith}
use lib.ListN.{length, drop}
use lib.Dec.{eqb}
use borrow.Author.Tests.{eq-eqb, ne_eqb, eqb-true}
use Rattle.laws.proofs.Cases.{compare_eq, or_true}
use Rattle.wire.specs.Edition.{row_head}
use Rattle.wire.specs.Member.{Side, left, right, side_number, side_of, is_side, Member}
use Rattle.wire.specs.Bytes.{le16, le32, u16_at, u32_at}
use Rattle.wire.specs.RegisterFormat.{side_field, member_of}
use Rattle.wire.specs.Encoding.{member_bytes, MemberFits, Bytes}
use Rattle.wire.proofs.Fields.{u32_le32, drop_le16, drop_le32}

-- a side's number is 1 or 2, and that of no other side
pub side_few : (s : Side) → (1 ≤ side_number s) × (side_number s ≤ 2)
unfolding side_number
side_few left = (omega arith, omega arith)
side_few right = (omega arith, omega arith)

pub side_once : (s t : Side) → side_number s ≡ side_number t → s ≡ t
unfolding side_number
side_once left left e = refl
side_once left right e = absurd (omega arith)
side_once right left e = absurd (omega arith)
side_once right right e = refl

pub side_back : (s : Side) → side_of (side_number s) ≡ s
unfolding side_of side_number
side_back left = refl
side_back right = refl

pub is_side_law : (s : Side) → is_side (side_number s) ≡ true
unfolding is_side side_number
is_side_law left = refl
is_side_law right = refl

-- the side with the number n, where n is 1 or 2
pub side_number_law : (n : ℕ) → 1 ≤ n → n ≤ 2 → side_number (side_of n) ≡ n
unfolding side_of side_number
side_number_law n l m = compare_eq n 1 (λ e. rw (eq-eqb n 1 e) (omega arith)) (λ e. rw (ne_eqb n 1 e) (omega arith))

pub side_some : (n : ℕ) → is_side n ≡ true → (1 ≤ n) × (n ≤ 2)
unfolding is_side side_number
side_some n x =
    or_true (eqb n 1) (eqb n 2) x
    (λ e. let z = eqb-true n 1 e in (omega arith, omega arith))
    (λ e. let z = eqb-true n 2 e in (omega arith, omega arith))

-- where 15 passes, the side has the number that the row has
pub side_known : (n : ℕ) → is_side n ≡ true → side_number (side_of n) ≡ n
side_known n x = let s = side_some n x in side_number_law n s.0 s.1

-- two members with one number and one side
pub same_member : (m n : Member) → m.number ≡ n.number → m.side ≡ n.side → m ≡ n
same_member m n e f = ap (λ k. record { number = k; side = m.side }) e ∙ ap (λ s. record { number = n.number; side = s }) f

-- a member's bytes follow length and kind, and fill the row up to the membership bytes
pub member_size : (m : Member) (c : List ℕ) → length (member_bytes m ++ c) ≡ row_head - 4 + length c
unfolding member_bytes le16 le32
member_size m c = omega arith

pub member_skipped : (n k : ℕ) (m : Member) (c : List ℕ) → drop row_head ((le16 n ++ le16 k) ++ (member_bytes m ++ c)) ≡ c
unfolding member_bytes le16 le32
member_skipped n k m c = refl

-- it is read back from its bytes, and its bytes are those that it was read from
module _ (n k : ℕ) (m : Member) (c : List ℕ) where
  pub side_read : side_field ((le16 n ++ le16 k) ++ (member_bytes m ++ c)) ≡ side_number m.side
  unfolding member_bytes le16 le32 u16_at
  side_read = let s = side_few m.side in omega arith

  pub member_back : MemberFits m → member_of ((le16 n ++ le16 k) ++ (member_bytes m ++ c)) ≡ m
  unfolding member_of member_bytes le16 le32 u32_at
  member_back f =
      same_member _ m (u32_le32 m.number (le16 (side_number m.side) ++ c) f.number) (ap side_of side_read ∙ side_back m.side)

pub member_bytes_law : (b : List ℕ) → Bytes b → row_head ≤ length b → is_side (side_field b) ≡ true
    → member_bytes (member_of b) ++ drop row_head b ≡ drop 4 b
unfolding member_of member_bytes
member_bytes_law b k l x =
    rw (side_known (side_field b) x, append_assoc, drop_le16 b k 8 l, drop_le32 b k 4 (omega arith))

pub member_fits : (b : List ℕ) → Bytes b → MemberFits (member_of b)
unfolding member_of u32_at
member_fits b k = record { number = omega (arith, k 4, k 5, k 6, k 7) }
