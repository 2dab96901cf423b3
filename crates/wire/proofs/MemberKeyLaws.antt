-- Laws of keys: every number is the key of exactly one member, and order and equality are those of the members.
use Prim.Native.Nat.{ℕ, ◌+◌, ◌-◌, ◌*◌, ◌%◌, ◌<◌}
use mathlib.Core.Path.{◌≡◌, sym, ◌∙◌}
use mathlib.Core.Bool.{true, false}
use native.Mathlib.Omega.{arith}
use lib.Dec.{ltb, eqb}
use borrow.Author.Tests.{lt-ltb, le-ltb, eq-eqb, ne_eqb, eqb-true, ltb-true, eqb-false, ltb-false}
use Rattle.laws.proofs.Cases.{compare_le, compare_eq}
use Rattle.wire.specs.Member.{side_number, Member, is_side, side_of, precedes, one_member}
use Rattle.wire.specs.MemberKey.{key_member}
use Rattle.wire.proofs.MemberFacts.{side_number_law, side_few, side_once, same_member, side_some, side_known}

unfoldable pub member_key : Member → ℕ
member_key m = 2 * m.number + (side_number m.side - 1)

pub key_of_member : (k : ℕ) → member_key (key_member k) ≡ k
unfolding member_key key_member
key_of_member k =
    let e = side_number_law (k % 2 + 1) (omega arith) (omega arith) in
    omega arith

-- no two members have one key
pub key_once : (m n : Member) → member_key m ≡ member_key n → m ≡ n
unfolding member_key
key_once m n e =
    let s = side_few m.side in
    let t = side_few n.side in
    same_member m n (omega arith) (side_once m.side n.side (omega arith))

pub member_of_key : (m : Member) → key_member (member_key m) ≡ m
member_of_key m = key_once (key_member (member_key m)) m (key_of_member (member_key m))

-- the key of a number and a side's number
pub key_made : (n s : ℕ) → is_side s ≡ true → key_member (2 * n + s - 1) ≡ record { number = n; side = side_of s }
unfolding member_key
key_made n s x =
    let o = side_some s x in
    let f = side_known s x in
    let e : member_key (record { number = n; side = side_of s }) ≡ 2 * n + s - 1 = omega arith in
    rw (← e) (member_of_key (record { number = n; side = side_of s }))

-- the order and the equality of members are those of their keys
pub precedes_by_key : (m n : Member) → precedes m n ≡ ltb (member_key m) (member_key n)
unfolding precedes member_key
precedes_by_key m n =
    let s = side_few m.side in
    let t = side_few n.side in
    compare_le n.number m.number
    (λ l. compare_eq m.number n.number
    (λ e. compare_le (side_number n.side) (side_number m.side)
    (λ o. rw (le-ltb m.number n.number l, eq-eqb m.number n.number e, le-ltb (side_number m.side) (side_number n.side) o)
    (sym (le-ltb (member_key m) (member_key n) (omega arith))))
    (λ o. rw (le-ltb m.number n.number l, eq-eqb m.number n.number e, lt-ltb (side_number m.side) (side_number n.side) o)
    (sym (lt-ltb (member_key m) (member_key n) (omega arith)))))
    (λ e. rw (le-ltb m.number n.number l, ne_eqb m.number n.number e) (sym (le-ltb (member_key m) (member_key n) (omega arith)))))
    (λ l. rw (lt-ltb m.number n.number l) (sym (lt-ltb (member_key m) (member_key n) (omega arith))))

pub one_by_key : (m n : Member) → one_member m n ≡ eqb (member_key m) (member_key n)
unfolding one_member member_key
one_by_key m n =
    let s = side_few m.side in
    let t = side_few n.side in
    compare_eq m.number n.number
    (λ e. compare_eq (side_number m.side) (side_number n.side)
    (λ o. rw (eq-eqb m.number n.number e, eq-eqb (side_number m.side) (side_number n.side) o)
    (sym (eq-eqb (member_key m) (member_key n) (omega arith))))
    (λ o. rw (eq-eqb m.number n.number e, ne_eqb (side_number m.side) (side_number n.side) o)
    (sym (ne_eqb (member_key m) (member_key n) (λ z. omega arith)))))
    (λ e. rw (ne_eqb m.number n.number e) (sym (ne_eqb (member_key m) (member_key n) (λ z. omega arith))))

pub one_true : (m n : Member) → member_key m ≡ member_key n → one_member m n ≡ true
one_true m n e = one_by_key m n ∙ eq-eqb (member_key m) (member_key n) e

pub one_false : (m n : Member) → (member_key m ≡ member_key n → ⊥) → one_member m n ≡ false
one_false m n e = one_by_key m n ∙ ne_eqb (member_key m) (member_key n) e

pub one_same : (m n : Member) → one_member m n ≡ true → m ≡ n
one_same m n x = key_once m n (eqb-true (member_key m) (member_key n) (sym (one_by_key m n) ∙ x))

pub precedes_true : (m n : Member) → precedes m n ≡ true → member_key m < member_key n
precedes_true m n x = ltb-true (member_key m) (member_key n) (sym (precedes_by_key m n) ∙ x)

-- of two members one comes before the other, or they are one
pub rises_or_one : (m n : Member) → precedes n m ≡ false → one_member n m ≡ false → precedes m n ≡ true
rises_or_one m n x y =
    precedes_by_key m n
    ∙ lt-ltb (member_key m) (member_key n)
    (omega (arith, ltb-false (member_key n) (member_key m) (sym (precedes_by_key n m) ∙ x), eqb-false (member_key n) (member_key m) (sym (one_by_key n m) ∙ y)))
