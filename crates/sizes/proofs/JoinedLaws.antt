-- One step of the fold, exact both ways: what is in `start`, `joined` and `own`. The bits of two states are joined by the
-- same relation `Makes` as the numbers.
use Prim.Native.Nat.{ℕ, ◌≤◌, zero, suc, zero-le, ◌+◌, ◌-◌, ◌<◌}
use mathlib.Core.Path.{refl, ◌≡◌}
use mathlib.Core.Bool.{Bool, true, false, false≢true}
use mathlib.Core.Logic.{inl, inr, ⊎_elim, ◌↔◌}
use native.Mathlib.Omega.{arith}
use native.Mathlib.Nat.{add-zero, le_refl}
use borrow.Author.Tests.{ltb-true, ltb-false}
use lib.Dec.{ltb}
use Rattle.laws.specs.Sum.{bit}
use Rattle.laws.proofs.Cases.{split}
use Rattle.laws.proofs.SumLaws.{bit_eq}
use Rattle.meaning.specs.Sheet.{Top, fin, inf, AtMost, Sheet}
use Rattle.sizes.specs.Span.{Span, Kind, lap, add, eq, Makes, In, join}
use Rattle.sizes.specs.Fold.{start, joined, own_to, own}
use Rattle.sizes.proofs.SpanLaws.{Near, join_of, hull_of, near_join, joint, near_hull, hull_in, in_make, near_make}

-- the intervals of both states are near one number: no gap between them
abbrev pub Nears : ℕ → (Bool → Span) → Type 0
Nears k a = (c : Bool) → Near (bit c) k (a c)

-- the parts are at most the whole
pub makes_first : (q : Kind) (x y z : ℕ) → Makes q x y z → x ≤ z
makes_first lap x y z h = h.0
makes_first add x y z h = omega arith
makes_first eq x y z h = omega arith

pub makes_second : (q : Kind) (x y z : ℕ) → Makes q x y z → y ≤ z
makes_second lap x y z h = h.1
makes_second add x y z h = omega arith
makes_second eq x y z h = omega arith

pub makes_zero : (q : Kind) → Makes q 0 0 0
makes_zero lap = omega arith
makes_zero add = refl
makes_zero eq = (refl, refl)

-- a number at most a bit is a bit
pub bit_of : (x : ℕ) (c : Bool) → x ≤ bit c → (b : Bool) × (bit b ≡ x)
bit_of zero c h = (false, refl)
bit_of (suc zero) c h = (true, refl)
bit_of (suc (suc x)) true h = absurd (omega arith)
bit_of (suc (suc x)) false h = absurd (omega arith)

-- before any son
pub start_of : (b c : Bool) (x : ℕ) → (b ≡ true → x ≡ 0) → (b ≡ true → bit c ≡ 0) → In x (start b c)
unfolding start
start_of true true x h k = absurd (let w = k refl in omega arith)
start_of true false x h k = (zero-le, let w = h refl in omega arith)
start_of false c x h k = (zero-le, tt)

pub start_in : (b c : Bool) (x : ℕ) → In x (start b c) → (b ≡ true → x ≡ 0) × (b ≡ true → bit c ≡ 0)
unfolding start
start_in true true x h = absurd h
start_in true false x h = (λ e. omega arith, λ e. refl)
start_in false c x h = (λ e. absurd (false≢true e), λ e. absurd (false≢true e))

pub near_start : (b : Bool) → Nears 0 (start b)
unfolding start Near
near_start true true = tt
near_start true false = (zero-le, zero-le, zero-le)
near_start false c = (zero-le, zero-le, tt)

-- one more son: from an x and a y to their total
pub joined_of : (q : Kind) (a z : Bool → Span) (c d e : Bool) (x y r : ℕ) → Makes q (bit c) (bit d) (bit e)
    → In x (a c) → In y (z d) → Makes q x y r → In r (joined q a z e)
unfolding joined
joined_of q a z c d false x y r w h k m =
    let fc : c ≡ false = bit_eq c false (omega (arith, makes_first q (bit c) (bit d) 0 w)) in
    let fd : d ≡ false = bit_eq d false (omega (arith, makes_second q (bit c) (bit d) 0 w)) in
    join_of q (a false) (z false) x y r (rw fc at h) (rw fd at k) m
joined_of lap a z true true true x y r w h k m = hull_of r _ _ (inr (join_of lap (a true) (z true) x y r h k m))
joined_of lap a z true false true x y r w h k m =
    hull_of r _ _ (inl (hull_of r _ _ (inl (join_of lap (a true) (z false) x y r h k m))))
joined_of lap a z false true true x y r w h k m =
    hull_of r _ _ (inl (hull_of r _ _ (inr (join_of lap (a false) (z true) x y r h k m))))
joined_of lap a z false false true x y r w h k m = absurd (omega arith)
joined_of add a z true true true x y r w h k m = absurd (omega arith)
joined_of add a z true false true x y r w h k m = hull_of r _ _ (inl (join_of add (a true) (z false) x y r h k m))
joined_of add a z false true true x y r w h k m = hull_of r _ _ (inr (join_of add (a false) (z true) x y r h k m))
joined_of add a z false false true x y r w h k m = absurd (omega arith)
joined_of eq a z true true true x y r w h k m = join_of eq (a true) (z true) x y r h k m
joined_of eq a z true false true x y r w h k m = absurd (omega arith)
joined_of eq a z false true true x y r w h k m = absurd (omega arith)
joined_of eq a z false false true x y r w h k m = absurd (omega arith)

-- the joined spans of two states that make the state true
near_pair : (q : Kind) (a z : Bool → Span) (k m : ℕ) → Nears k a → Nears m z → (c d e : Bool) → Makes q (bit c) (bit d) (bit e)
    → Near (bit e) (joint q k m) (join q (a c) (z d))
near_pair q a z k m i j c d e w = near_join q (a c) (z d) (bit c) (bit d) (bit e) k m w (i c) (j d)

pub near_joined : (q : Kind) (a z : Bool → Span) (k m : ℕ) → Nears k a → Nears m z → Nears (joint q k m) (joined q a z)
unfolding joined
near_joined q a z k m i j false = near_pair q a z k m i j false false false (makes_zero q)
near_joined lap a z k m i j true =
    near_hull _ _ 1 _
    (near_hull _ _ 1 _
    (near_pair lap a z k m i j true false true (omega arith))
    (near_pair lap a z k m i j false true true (omega arith)))
    (near_pair lap a z k m i j true true true (omega arith))
near_joined add a z k m i j true =
    near_hull _ _ 1 _
    (near_pair add a z k m i j true false true refl)
    (near_pair add a z k m i j false true true refl)
near_joined eq a z k m i j true = near_pair eq a z k m i j true true true (refl, refl)

-- one more son: some pair of states, joined, holds the total
pub joined_states : (q : Kind) (a z : Bool → Span) (k m : ℕ) → Nears k a → Nears m z → (e : Bool) (r : ℕ) → In r (joined q a z e)
    → (c d : Bool) × Makes q (bit c) (bit d) (bit e) × In r (join q (a c) (z d))
unfolding joined
joined_states q a z k m i j false r h = (false, false, makes_zero q, h)
joined_states lap a z k m i j true r h =
    ⊎_elim
    (λ u. ⊎_elim
    (λ v. (true, false, omega arith, v))
    (λ v. (false, true, omega arith, v))
    (hull_in r _ _ (joint lap k m)
    (near_pair lap a z k m i j true false true (omega arith))
    (near_pair lap a z k m i j false true true (omega arith)) u))
    (λ u. (true, true, omega arith, u))
    (hull_in r _ _ (joint lap k m)
    (near_hull _ _ 1 _
    (near_pair lap a z k m i j true false true (omega arith))
    (near_pair lap a z k m i j false true true (omega arith)))
    (near_pair lap a z k m i j true true true (omega arith)) h)
joined_states add a z k m i j true r h =
    ⊎_elim
    (λ v. (true, false, refl, v))
    (λ v. (false, true, refl, v))
    (hull_in r _ _ (joint add k m)
    (near_pair add a z k m i j true false true refl)
    (near_pair add a z k m i j false true true refl) h)
joined_states eq a z k m i j true r h = (true, true, (refl, refl), h)

-- the numbers that a group's own bounds and flag allow
in_own_to : (r l : ℕ) (u : Top) (c : Bool) → In r (own_to l u c) ↔ ((l ≤ r + bit c) × AtMost (r + bit c) u)
in_own_to r l u false = rw add-zero (in_make r l u)
in_own_to r l inf true = (λ h. (omega arith, tt), λ h. (omega arith, tt))
in_own_to r l (fin u) true =
    split (ltb 0 u)
    (λ e. let i = in_make r (l - 1) (fin (u - 1)) in
    let o : 0 < u = ltb-true 0 u e in
    rw e (λ h. let w = i.0 h in (omega arith, omega arith), λ h. i.1 (omega arith, omega arith)))
    (λ e. rw e (λ h. absurd h, λ h. absurd (omega (arith, ltb-false 0 u e))))

pub in_own : (s : Sheet) (may : ℕ → Bool → Bool) (p : ℕ) (c : Bool) (r : ℕ)
    → In r (own s may p c) ↔ ((may p c ≡ true) × (s.lo p ≤ r + bit c) × AtMost (r + bit c) (s.hi p))
unfolding own
in_own s may p c r =
    let i = in_own_to r (s.lo p) (s.hi p) c in
    split (may p c)
    (λ e. rw e (λ h. (refl, (i.0 h).0, (i.0 h).1), λ h. i.1 (h.1, h.2)))
    (λ e. rw e (λ h. absurd h, λ h. absurd (false≢true h.0)))

near_own_to : (l : ℕ) (u : Top) (c : Bool) → Near (bit c) l (own_to l u c)
unfolding Near
near_own_to l u false = near_make 0 l l u (le_refl l) (omega arith)
near_own_to l inf true = (omega arith, omega arith, tt)
near_own_to l (fin u) true =
    split (ltb 0 u) (λ e. rw e (near_make 1 l (l - 1) (fin (u - 1)) (omega arith) (omega arith))) (λ e. rw e tt)

pub near_own : (s : Sheet) (may : ℕ → Bool → Bool) (p : ℕ) → Nears (s.lo p) (own s may p)
unfolding own Near
near_own s may p c = split (may p c) (λ e. rw e (near_own_to (s.lo p) (s.hi p) c)) (λ e. rw e tt)
