-- What holds of every edition, proved by clauses where an edition's numbers are needed.
use Prim.Native.Nat.{ℕ, ◌*◌, ◌+◌, ◌≤◌}
use mathlib.Core.Path.{◌≡◌, refl}
use native.Mathlib.Omega.{arith}
use borrow.Author.Tests.{eq-eqb, ne_eqb}
use Rattle.wire.specs.Limits.{no_end}
use Rattle.wire.specs.Edition.{edition2, edition_number, edition_of, edition1, Edition, group_limit, membership_bytes, row_length, row_bytes, row_head}
use Rattle.wire.specs.Edition.{label_limit, row_kind}
use Rattle.wire.specs.Capacity.{group_capacity, name_bytes}

-- the edition with a number: the second where it is its number, and else the first
pub second_of : {n : ℕ} → n ≡ edition_number edition2 → edition_of n ≡ edition2
unfolding edition_of
second_of {n} e = rw (eq-eqb n (edition_number edition2) e)

pub first_of : {n : ℕ} → (n ≡ edition_number edition2 → ⊥) → edition_of n ≡ edition1
unfolding edition_of
first_of {n} e = rw (ne_eqb n (edition_number edition2) e)

-- no two editions have one number
pub edition_back : (e : Edition) → edition_of (edition_number e) ≡ e
unfolding edition_of edition_number
edition_back edition1 = refl
edition_back edition2 = refl

-- the membership bytes have a bit for each group, and no others
pub group_bits : (e : Edition) → group_limit e ≡ 8 * membership_bytes e
unfolding group_limit membership_bytes
group_bits edition1 = refl
group_bits edition2 = refl

-- a row is its head and its membership bytes
pub row_parts : (e : Edition) → row_bytes e ≡ row_head + membership_bytes e
unfolding row_length membership_bytes
row_parts edition1 = refl
row_parts edition2 = refl

-- tables hold the groups of every edition
pub groups_within : (e : Edition) → group_limit e ≤ group_capacity
unfolding group_limit
groups_within edition1 = omega arith
groups_within edition2 = omega arith

-- edition 2 has the limits of both
pub second_most : (e : Edition) → (group_limit e ≤ group_limit edition2) × (label_limit e ≤ label_limit edition2)
unfolding group_limit label_limit
second_most edition1 = (omega arith, omega arith)
second_most edition2 = (omega arith, omega arith)

-- every edition takes a root with a son
pub groups_many : (e : Edition) → 2 ≤ group_limit e
unfolding group_limit
groups_many edition1 = omega arith
groups_many edition2 = omega arith

-- every edition takes labels of two bytes
pub labels_long : (e : Edition) → 2 ≤ label_limit e
unfolding label_limit
labels_long edition1 = omega arith
labels_long edition2 = omega arith

-- numbers, kinds and lengths fit two bytes
pub edition_fits : (e : Edition) → edition_number e ≤ no_end
unfolding edition_number
edition_fits edition1 = omega arith
edition_fits edition2 = omega arith

pub name_fits : (e : Edition) → name_bytes e ≤ no_end
unfolding label_limit
name_fits edition1 = omega arith
name_fits edition2 = omega arith

pub row_kind_fits : (e : Edition) → row_kind e ≤ no_end
unfolding row_kind
row_kind_fits edition1 = omega arith
row_kind_fits edition2 = omega arith

pub row_length_fits : (e : Edition) → row_length e ≤ no_end
unfolding row_length
row_length_fits edition1 = omega arith
row_length_fits edition2 = omega arith
