-- What is in a span made by `make`, `meet`, `hull` and `join`, and how a number of a joined span is divided.
use Prim.Native.Nat.{ℕ, ◌≤◌, ◌+◌, ◌-◌, max, min}
use mathlib.Core.Path.{refl, ◌≡◌}
use mathlib.Core.Logic.{◌↔◌, ◌⊎◌, inl, inr, ⊎_elim}
use native.Mathlib.Omega.{arith}
use native.Mathlib.Nat.{le_refl}
use borrow.Author.Tests.{le-leb, leb-true}
use lib.Dec.{leb}
use Rattle.laws.proofs.Cases.{compare_le, split}
use Rattle.meaning.specs.Sheet.{Top, fin, inf, AtMost}
use Rattle.meaning.specs.Arranged.{cap}
use Rattle.sizes.specs.Span.{plus, smaller, larger, less, In, make, Span, none, span, meet, Kind, lap, add, eq, Makes, join, son_of, hull}

-- upper ends
pub at_le : (n m : ℕ) (u : Top) → n ≤ m → AtMost m u → AtMost n u
at_le n m (fin k) l h = omega arith
at_le n m inf l h = tt

pub at_plus : (n m : ℕ) (u v : Top) → AtMost n u → AtMost m v → AtMost (n + m) (plus u v)
at_plus n m (fin a) (fin b) h k = omega arith
at_plus n m (fin a) inf h k = tt
at_plus n m inf (fin b) h k = tt
at_plus n m inf inf h k = tt

pub at_smaller : (n : ℕ) (u v : Top) → AtMost n (smaller u v) ↔ (AtMost n u × AtMost n v)
at_smaller n (fin a) (fin b) = (λ h. (omega arith, omega arith), λ h. omega arith)
at_smaller n (fin a) inf = (λ h. (h, tt), λ h. h.0)
at_smaller n inf (fin b) = (λ h. (tt, h), λ h. h.1)
at_smaller n inf inf = (λ h. (tt, tt), λ h. tt)

pub at_larger : (n : ℕ) (u v : Top) → (AtMost n u ⊎ AtMost n v) → AtMost n (larger u v)
at_larger n (fin a) (fin b) (inl h) = omega arith
at_larger n (fin a) (fin b) (inr h) = omega arith
at_larger n (fin a) inf h = tt
at_larger n inf (fin b) h = tt
at_larger n inf inf h = tt

pub larger_at : (n : ℕ) (u v : Top) → AtMost n (larger u v) → AtMost n u ⊎ AtMost n v
larger_at n (fin a) (fin b) h = compare_le n a inl (λ k. inr (omega arith))
larger_at n (fin a) inf h = inr tt
larger_at n inf (fin b) h = inl tt
larger_at n inf inf h = inl tt

pub cap_at : (u : Top) (n : ℕ) → AtMost (cap u n) u
cap_at (fin k) n = omega arith
cap_at inf n = tt

pub cap_most : (u : Top) (n : ℕ) → cap u n ≤ n
cap_most (fin k) n = omega arith
cap_most inf n = le_refl n

pub cap_least : (u : Top) (l n : ℕ) → l ≤ n → AtMost l u → l ≤ cap u n
cap_least (fin k) l n h j = omega arith
cap_least inf l n h j = h

pub cap_plus : (u v : Top) (n : ℕ) → AtMost n (plus u v) → n ≤ cap u n + cap v n
cap_plus (fin a) (fin b) n h = omega arith
cap_plus (fin a) inf n h = omega arith
cap_plus inf (fin b) n h = omega arith
cap_plus inf inf n h = omega arith

pub less_at : (u : Top) (n : ℕ) → AtMost (n - less n u) u
less_at (fin a) n = omega arith
less_at inf n = tt

pub less_least : (u : Top) (l n : ℕ) → l ≤ n → AtMost l u → l ≤ n - less n u
less_least (fin a) l n h j = omega arith
less_least inf l n h j = omega arith

pub less_most : (u : Top) (n : ℕ) → less n u ≤ n
less_most (fin a) n = omega arith
less_most inf n = omega arith

pub less_plus : (u v : Top) (n : ℕ) → AtMost n (plus u v) → AtMost (less n u) v
less_plus (fin a) (fin b) n h = omega arith
less_plus (fin a) inf n h = tt
less_plus inf (fin b) n h = omega arith
less_plus inf inf n h = tt

-- the numbers of a span from l to u
pub in_make : (n l : ℕ) (u : Top) → In n (make l u) ↔ ((l ≤ n) × AtMost n u)
in_make n l (fin u) = (
  λ h. split (leb l u) (λ e. rw e at h) (λ e. absurd (rw e at h)),
  λ h. rw (le-leb l u (omega arith)) h,
)
in_make n l inf = (λ h. h, λ h. h)

pub in_meet : (n : ℕ) (a b : Span) → In n (meet a b) ↔ (In n a × In n b)
unfolding meet
in_meet n none b = (λ h. absurd h, λ h. h.0)
in_meet n (span l u) none = (λ h. absurd h, λ h. h.1)
in_meet n (span l u) (span m v) = (
  λ h. let w = (in_make n (max l m) (smaller u v)).0 h in
      let t = (at_smaller n u v).0 w.1 in
      ((omega arith, t.0), (omega arith, t.1)),
  λ h. (in_make n (max l m) (smaller u v)).1 (omega arith, (at_smaller n u v).1 (h.0.1, h.1.1)),
)

-- what an x and a y make is in the joined span
pub join_of : (q : Kind) (a b : Span) (x y z : ℕ) → In x a → In y b → Makes q x y z → In z (join q a b)
unfolding join
join_of q none b x y z h k w = h
join_of q (span l u) none x y z h k w = k
join_of lap (span l u) (span m v) x y z h k w =
    (omega arith, at_le z (x + y) (plus u v) w.2 (at_plus x y u v h.1 k.1))
join_of add (span l u) (span m v) x y z h k w =
    (omega arith, at_le z (x + y) (plus u v) (omega arith) (at_plus x y u v h.1 k.1))
join_of eq (span l u) (span m v) x y z h k w =
    (in_make z (max l m) (smaller u v)).1
    (omega arith, (at_smaller z u v).1 (at_le z x u (omega arith) h.1, at_le z y v (omega arith) k.1))

-- a span with ends is not empty
unfoldable pub Proper : Span → Type 0
Proper none = Unit {0}
Proper (span l u) = AtMost l u

-- The part of a number of the joined span that the sons so far take, and the part of the one more son.
unfoldable pub rest_of : Kind → Span → Span → ℕ → ℕ
rest_of q none b r = r
rest_of q (span l u) none r = r
rest_of lap (span l u) (span m v) r = cap u r
rest_of add (span l u) (span m v) r = r - max m (less r u)
rest_of eq (span l u) (span m v) r = r

pub at_max : (n m : ℕ) (u : Top) → AtMost n u → AtMost m u → AtMost (max n m) u
at_max n m (fin a) h k = omega arith
at_max n m inf h k = tt

-- every number of the joined span is made by its two parts
pub join_in : (q : Kind) (a b : Span) (r : ℕ) → Proper a → Proper b → In r (join q a b)
    → In (rest_of q a b r) a × In (son_of q a b r) b × Makes q (rest_of q a b r) (son_of q a b r) r
unfolding join Proper rest_of son_of
join_in q none b r j k h = absurd h
join_in q (span l u) none r j k h = absurd h
join_in lap (span l u) (span m v) r j k h = (
  (cap_least u l r (omega arith) j, cap_at u r),
  (cap_least v m r (omega arith) k, cap_at v r),
  (cap_most u r, cap_most v r, cap_plus u v r h.1),
)
join_in add (span l u) (span m v) r j k h = (
  (omega (arith, less_least u l r (omega arith) j), at_le (r - max m (less r u)) (r - less r u) u (omega arith) (less_at u r)),
  (omega arith, at_max m (less r u) v k (less_plus u v r h.1)),
  omega (arith, less_most u r),
)
join_in eq (span l u) (span m v) r j k h =
    let w = (in_make r (max l m) (smaller u v)).0 h in
    let t = (at_smaller r u v).0 w.1 in
    ((omega arith, t.0), (omega arith, t.1), (refl, refl))

-- A span with ends is not empty, and its lower end is k or at most c below k.
unfoldable pub Near : ℕ → ℕ → Span → Type 0
Near c k none = Unit {0}
Near c k (span l u) = (l ≤ k) × (k ≤ l + c) × AtMost l u

pub near_proper : (c k : ℕ) (a : Span) → Near c k a → Proper a
unfolding Near Proper
near_proper c k none h = tt
near_proper c k (span l u) h = h.2

-- the numbers that the lower ends of a joined span are near to
abbrev pub joint : Kind → ℕ → ℕ → ℕ
joint lap k m = max k m
joint add k m = k + m
joint eq k m = max k m

pub near_make : (c k l : ℕ) (u : Top) → l ≤ k → k ≤ l + c → Near c k (make l u)
unfolding Near
near_make c k l (fin u) h j = split (leb l u) (λ e. rw e (h, j, leb-true l u e)) (λ e. rw e tt)
near_make c k l inf h j = (h, j, tt)

pub near_join : (q : Kind) (a b : Span) (c d e k m : ℕ) → Makes q c d e → Near c k a → Near d m b
    → Near e (joint q k m) (join q a b)
unfolding join Near
near_join q none b c d e k m w h j = tt
near_join q (span l u) none c d e k m w h j = tt
near_join lap (span l u) (span n v) c d e k m w h j =
    (omega arith, omega arith, at_le (max l n) (l + n) (plus u v) (omega arith) (at_plus l n u v h.2 j.2))
near_join add (span l u) (span n v) c d e k m w h j = (omega arith, omega arith, at_plus l n u v h.2 j.2)
near_join eq (span l u) (span n v) c d e k m w h j =
    near_make e (max k m) (max l n) (smaller u v) (omega arith) (omega arith)

pub meet_join : (a b : Span) → meet a b ≡ join eq a b
unfolding meet join
meet_join none b = refl
meet_join (span l u) none = refl
meet_join (span l u) (span m v) = refl

pub near_hull : (a b : Span) (c k : ℕ) → Near c k a → Near c k b → Near c k (hull a b)
unfolding hull Near
near_hull none b c k h j = j
near_hull (span l u) none c k h j = h
near_hull (span l u) (span m v) c k h j =
    (omega arith, omega arith, at_larger (min l m) u v (inl (at_le (min l m) l u (omega arith) h.2)))

-- what is in one of two spans is in their hull; there is nothing else in it where the lower ends differ by at most 1
pub hull_of : (n : ℕ) (a b : Span) → (In n a ⊎ In n b) → In n (hull a b)
unfolding hull
hull_of n none b (inl h) = absurd h
hull_of n none b (inr h) = h
hull_of n (span l u) none (inl h) = h
hull_of n (span l u) none (inr h) = absurd h
hull_of n (span l u) (span m v) (inl h) = (omega arith, at_larger n u v (inl h.1))
hull_of n (span l u) (span m v) (inr h) = (omega arith, at_larger n u v (inr h.1))

pub hull_in : (n : ℕ) (a b : Span) (k : ℕ) → Near 1 k a → Near 1 k b → In n (hull a b) → In n a ⊎ In n b
unfolding hull Near
hull_in n none b k i j h = inr h
hull_in n (span l u) none k i j h = inl h
hull_in n (span l u) (span m v) k i j h =
    compare_le l n
    (λ x. compare_le m n
    (λ y. ⊎_elim (λ t. inl (x, t)) (λ t. inr (y, t)) (larger_at n u v h.1))
    (λ y. inl (x, at_le n l u (omega arith) i.2)))
    (λ x. inr (omega arith, at_le n m v (omega arith) j.2))
