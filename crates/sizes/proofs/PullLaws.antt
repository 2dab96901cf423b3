-- `pull` is exact: it has the numbers x for which some y of the second span and some z of the first are joined by the kind.
use Prim.Native.Nat.{ℕ, ◌+◌, ◌-◌, ◌≤◌, max}
use mathlib.Core.Path.{◌≡◌, refl}
use mathlib.Core.Bool.{true, Bool, false, cond, false≢true}
use mathlib.Core.Logic.{◌↔◌}
use native.Mathlib.Omega.{arith}
use native.Mathlib.Nat.{le_refl}
use borrow.Author.Tests.{leb-true, le-leb}
use lib.Dec.{leb}
use Rattle.laws.proofs.Cases.{split}
use Rattle.meaning.specs.Sheet.{Top, fin, inf, AtMost}
use Rattle.sizes.specs.Span.{Kind, lap, add, eq, Makes, reaches, less, shorter, Span, none, In, make, span, smaller, pull, meet}
use Rattle.sizes.proofs.SpanLaws.{in_make, at_le, at_smaller, Proper, at_max}

-- x and y may be exchanged
pub makes_swap : (q : Kind) (x y z : ℕ) → Makes q x y z → Makes q y x z
makes_swap lap x y z h = omega arith
makes_swap add x y z h = omega arith
makes_swap eq x y z h = (h.1, h.0)

-- a lower end reaches an upper end that is not below it
pub reaches_iff : (l : ℕ) (u : Top) → (reaches l u ≡ true) ↔ AtMost l u
reaches_iff l (fin u) = (leb-true l u, le-leb l u)
reaches_iff l inf = (λ h. tt, λ h. refl)

-- l less an upper end is at most x where some y up to that end gives l ≤ x + y, and then l - x is such a y
pub less_of : (v : Top) (l x y : ℕ) → AtMost y v → l ≤ x + y → less l v ≤ x
less_of (fin a) l x y h k = omega arith
less_of inf l x y h k = omega arith

pub less_in : (v : Top) (l x : ℕ) → less l v ≤ x → AtMost (l - x) v
less_in (fin a) l x h = omega arith
less_in inf l x h = tt

-- x is at most an upper end less m where x + m is at most that end
pub at_shorter : (u : Top) (m x : ℕ) → AtMost m u → AtMost x (shorter u m) ↔ AtMost (x + m) u
at_shorter (fin a) m x h = omega arith
at_shorter inf m x h = (λ k. tt, λ k. tt)

-- the numbers in a span that is there only where a test passes
in_cond : (x : ℕ) (b : Bool) (a : Span) → In x (cond b a none) ↔ ((b ≡ true) × In x a)
in_cond x true a = (λ h. (refl, h), λ h. h.1)
in_cond x false a = (λ h. absurd h, λ h. absurd (false≢true h.0))

in_ends : (x m l : ℕ) (u v : Top) → In x (cond (reaches m u) (make l v) none) ↔ (AtMost m u × (l ≤ x) × AtMost x v)
in_ends x m l u v =
    let c = in_cond x (reaches m u) (make l v) in
    let r = reaches_iff m u in
    let i = in_make x l v in
    (λ h. (r.0 (c.0 h).0, (i.0 (c.0 h).1).0, (i.0 (c.0 h).1).1), λ h. c.1 (r.1 h.0, i.1 (h.1, h.2)))

pub pull_of : (q : Kind) (a b : Span) (x y z : ℕ) → In z a → In y b → Makes q x y z → In x (pull q a b)
unfolding pull
pull_of q none b x y z h k w = h
pull_of q (span l u) none x y z h k w = k
pull_of lap (span l u) (span m v) x y z h k w =
    (in_ends x m (less l v) u u).1
    (at_le m z u (omega arith) h.1, less_of v l x y k.1 (omega arith), at_le x z u (omega arith) h.1)
pull_of add (span l u) (span m v) x y z h k w =
    let room : AtMost m u = at_le m z u (omega arith) h.1 in
    (in_ends x m (less l v) u (shorter u m)).1
    (room, less_of v l x y k.1 (omega arith), (at_shorter u m x room).1 (at_le (x + m) z u (omega arith) h.1))
pull_of eq (span l u) (span m v) x y z h k w =
    (in_make x (max l m) (smaller u v)).1
    (omega arith, (at_smaller x u v).1 (at_le x z u (omega arith) h.1, at_le x y v (omega arith) k.1))

pub pull_in : (q : Kind) (a b : Span) (x : ℕ) → Proper a → Proper b → In x (pull q a b)
    → (y z : ℕ) × In y b × In z a × Makes q x y z
unfolding pull Proper
pull_in q none b x i j h = absurd h
pull_in q (span l u) none x i j h = absurd h
pull_in lap (span l u) (span m v) x i j h =
    let w = (in_ends x m (less l v) u u).0 h in
    let y = max m (l - x) in
    let z = max (max l x) m in (
      y,
      z,
      (omega arith, at_max m (l - x) v j (less_in v l x w.1)),
      (omega arith, at_max (max l x) m u (at_max l x u i w.2) w.0),
      omega arith,
    )
pull_in add (span l u) (span m v) x i j h =
    let w = (in_ends x m (less l v) u (shorter u m)).0 h in
    let y = max m (l - x) in
    let top = at_max (x + m) l u ((at_shorter u m x w.0).0 w.2) i in (
      y,
      x + y,
      (omega arith, at_max m (l - x) v j (less_in v l x w.1)),
      (omega arith, at_le (x + y) (max (x + m) l) u (omega arith) top),
      refl,
    )
pull_in eq (span l u) (span m v) x i j h =
    let w = (in_make x (max l m) (smaller u v)).0 h in
    let t = (at_smaller x u v).0 w.1 in
    (x, x, (omega arith, t.1), (omega arith, t.0), (refl, refl))

-- a span with ends that `make` or `meet` gives is not empty
pub proper_make : (l : ℕ) (u : Top) → Proper (make l u)
unfolding Proper
proper_make l (fin u) = split (leb l u) (λ e. rw e (leb-true l u e)) (λ e. rw e tt)
proper_make l inf = tt

pub proper_meet : (a b : Span) → Proper (meet a b)
unfolding meet Proper
proper_meet none b = tt
proper_meet (span l u) none = tt
proper_meet (span l u) (span m v) = proper_make (max l m) (smaller u v)

-- what a proper span with ends has
pub proper_least : (l : ℕ) (u : Top) → Proper (span l u) → In l (span l u)
unfolding Proper
proper_least l u h = (le_refl l, h)
