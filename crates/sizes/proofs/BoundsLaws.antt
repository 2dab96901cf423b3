-- Laws of the weight of a sheet: no finite end of a span passes it.
use Prim.Native.Nat.{ℕ, ◌≤◌, zero-le, max, ◌+◌, zero, suc, ◌-◌, ◌<◌, ◌*◌}
use mathlib.Core.Path.{◌≡◌, refl, ap}
use mathlib.Core.Bool.{cond, Bool, true, false, ◌&&◌}
use native.Mathlib.Omega.{arith}
use native.Mathlib.Nat.{le_refl, mul-le-mul_left}
use borrow.Author.Tests.{ne_eqb, lt-ltb, le-leb, ltb-true, leb-true, eq-eqb}
use lib.Dec.{leb, ltb, eqb}
use Rattle.laws.specs.Sum.{sum}
use Rattle.laws.proofs.Cases.{split, compare_eq, and_true, not_true_false, compare_le}
use Rattle.laws.proofs.SumLaws.{sum_one, sum_le, sum_add, sum_zero, sum_longer}
use Rattle.meaning.specs.Sheet.{Top, fin, inf, Sheet, Group}
use Rattle.meaning.specs.Tree.{Tree}
use Rattle.meaning.specs.Sons.{is_son, only, sons}
use Rattle.meaning.proofs.SonLaws.{son_of_law}
use Rattle.sizes.specs.Span.{make, plus, smaller, larger, Span, none, span, meet, hull, Kind, lap, add, eq, join, shorter, reaches, pull, less}
use Rattle.sizes.specs.Fold.{joined, start, join_kind, shut, later, own, own_to, Measured}
use Rattle.sizes.specs.Bounds.{top_weight, weight}
use Rattle.sizes.proofs.SpanLaws.{less_most}
use Rattle.sizes.proofs.RuleStepsLaws.{sum_last, sum_son, sum_skip, sum_last_all}
use Rattle.sizes.proofs.LaterLaws.{later_none, later_son, later_skip}

weight_make : (l : ℕ) (u : Top) → weight (make l u) ≤ max l (top_weight u)
unfolding weight
weight_make l (fin u) = split (leb l u) (λ e. rw e (le_refl _)) (λ e. rw e zero-le)
weight_make l inf = le_refl _

top_plus : (u v : Top) → top_weight (plus u v) ≤ top_weight u + top_weight v
top_plus (fin a) (fin b) = omega arith
top_plus (fin a) inf = zero-le
top_plus inf (fin b) = zero-le
top_plus inf inf = zero-le

top_smaller : (u v : Top) → top_weight (smaller u v) ≤ max (top_weight u) (top_weight v)
top_smaller (fin a) (fin b) = omega arith
top_smaller (fin a) inf = omega arith
top_smaller inf (fin b) = omega arith
top_smaller inf inf = omega arith

top_larger : (u v : Top) → top_weight (larger u v) ≤ max (top_weight u) (top_weight v)
top_larger (fin a) (fin b) = omega arith
top_larger (fin a) inf = zero-le
top_larger inf (fin b) = zero-le
top_larger inf inf = zero-le

pub weight_meet : (a b : Span) → weight (meet a b) ≤ max (weight a) (weight b)
unfolding meet weight
weight_meet none b = zero-le
weight_meet (span l u) none = zero-le
weight_meet (span l u) (span m v) =
    omega (arith, weight_make (max l m) (smaller u v), top_smaller u v)

weight_hull : (a b : Span) → weight (hull a b) ≤ max (weight a) (weight b)
unfolding hull weight
weight_hull none b = omega arith
weight_hull (span l u) none = omega arith
weight_hull (span l u) (span m v) = omega (arith, top_larger u v)

weight_join : (q : Kind) (a b : Span) → weight (join q a b) ≤ weight a + weight b
unfolding join weight
weight_join q none b = zero-le
weight_join q (span l u) none = zero-le
weight_join lap (span l u) (span m v) = omega (arith, top_plus u v)
weight_join add (span l u) (span m v) = omega (arith, top_plus u v)
weight_join eq (span l u) (span m v) = omega (arith, weight_make (max l m) (smaller u v), top_smaller u v)

-- what is pulled out of a span weighs no more than the two
top_shorter : (u : Top) (m : ℕ) → top_weight (shorter u m) ≤ top_weight u
top_shorter (fin a) m = omega arith
top_shorter inf m = zero-le

weight_reached : (m l : ℕ) (u v : Top) → weight (cond (reaches m u) (make l v) none) ≤ max l (top_weight v)
weight_reached m l u v =
    split (reaches m u) (λ e. rw e (weight_make l v)) (λ e. rw e (unfold weight in zero-le))

pub weight_pull : (q : Kind) (a b : Span) → weight (pull q a b) ≤ max (weight a) (weight b)
unfolding pull weight
weight_pull q none b = zero-le
weight_pull q (span l u) none = zero-le
weight_pull lap (span l u) (span m v) = omega (arith, weight_reached m (less l v) u u, less_most v l)
weight_pull add (span l u) (span m v) =
    omega (arith, weight_reached m (less l v) u (shorter u m), less_most v l, top_shorter u m)
weight_pull eq (span l u) (span m v) = omega (arith, weight_make (max l m) (smaller u v), top_smaller u v)

-- the larger weight of the two states
abbrev pub heavier : (Bool → Span) → ℕ
heavier a = max (weight (a false)) (weight (a true))

weight_pair : (q : Kind) (a z : Bool → Span) (c d : Bool) → weight (join q (a c) (z d)) ≤ heavier a + heavier z
weight_pair q a z true true = omega (arith, weight_join q (a true) (z true))
weight_pair q a z true false = omega (arith, weight_join q (a true) (z false))
weight_pair q a z false true = omega (arith, weight_join q (a false) (z true))
weight_pair q a z false false = omega (arith, weight_join q (a false) (z false))

weight_hull_le : (a b : Span) (n : ℕ) → weight a ≤ n → weight b ≤ n → weight (hull a b) ≤ n
weight_hull_le a b n h k = omega (arith, weight_hull a b)

weight_joined : (q : Kind) (a z : Bool → Span) (c : Bool) → weight (joined q a z c) ≤ heavier a + heavier z
unfolding joined
weight_joined q a z false = weight_pair q a z false false
weight_joined lap a z true =
    weight_hull_le _ _ _
    (weight_hull_le _ _ _ (weight_pair lap a z true false) (weight_pair lap a z false true))
    (weight_pair lap a z true true)
weight_joined add a z true = weight_hull_le _ _ _ (weight_pair add a z true false) (weight_pair add a z false true)
weight_joined eq a z true = weight_pair eq a z true true

weight_start : (b c : Bool) → weight (start b c) ≡ 0
unfolding start weight
weight_start true true = refl
weight_start true false = refl
weight_start false c = refl

-- the fold of the sons weighs no more than the sons together
later_weight : (s : Sheet) (z : ℕ → Bool → Span) (p k : ℕ) (c : Bool)
    → weight (later s z p k c) ≤ sum_last s p (λ g. heavier (z g)) k
later_weight s z p zero c = rw (later_none s z p c, weight_start (shut s p) c) zero-le
later_weight s z p (suc k) c =
    let W : ℕ → ℕ = λ g. heavier (z g) in
    split (is_son s p (s.size - k))
    (λ e. rw (later_son s z p k c e, sum_son s p W k e)
    (omega (
      arith,
      weight_joined (join_kind s p) (later s z p k) (z (s.size - k)) c,
      later_weight s z p k false,
      later_weight s z p k true,
    )))
    (λ e. rw (later_skip s z p k c e, sum_skip s p W k e) (later_weight s z p k c))

own_weight : (s : Sheet) (may : ℕ → Bool → Bool) (p : ℕ) (c : Bool) → weight (own s may p c) ≤ max (s.lo p) (top_weight (s.hi p))
unfolding own
own_weight s may p c = split (may p c) (λ e. rw e (to (s.lo p) (s.hi p) c)) (λ e. rw e (unfold weight in zero-le))
  where
    to : (l : ℕ) (u : Top) (c : Bool) → weight (own_to l u c) ≤ max l (top_weight u)
    to l u false = weight_make l u
    to l inf true = unfold weight in omega arith
    to l (fin u) true =
        split (ltb 0 u)
        (λ e. rw e (omega (arith, weight_make (l - 1) (fin (u - 1)))))
        (λ e. rw e (unfold weight in zero-le))

-- a single term
sum_at : (v n k : ℕ) → sum (λ h. cond (eqb h n) v 0) k ≤ v
sum_at v n k =
    sum_one (λ h. cond (eqb h n) v 0) v k
    (λ m l. split (eqb m n) (λ e. rw e (le_refl v)) (λ e. rw e zero-le))
    (λ g h l j x y. compare_eq h n
    (λ e. absurd (let w = rw (ne_eqb g n (omega arith)) at x in omega arith))
    (λ e. absurd (let w = rw (ne_eqb h n e) at y in omega arith)))

-- h is from n on and its parent is below n
unfoldable in_front : Sheet → ℕ → ℕ → Bool
in_front s n h = leb n h && ltb (s.parent h) n

in_front_law : (s : Sheet) (n h : ℕ) → n ≤ h → s.parent h < n → in_front s n h ≡ true
unfolding in_front
in_front_law s n h l k = rw (le-leb n h l, lt-ltb (s.parent h) n k)

front_in : (s : Sheet) (n h : ℕ) → in_front s n h ≡ true → (n ≤ h) × (s.parent h < n)
unfolding in_front
front_in s n h e =
    let w = and_true (leb n h) (ltb (s.parent h) n) e in
    (leb-true n h w.0, ltb-true (s.parent h) n w.1)

not_front : (s : Sheet) (n h : ℕ) → ((n ≤ h) × (s.parent h < n) → ⊥) → in_front s n h ≡ false
not_front s n h k = not_true_false (in_front s n h) (λ e. k (front_in s n h e))

-- the weights of those groups together
abbrev front_weight : Sheet → (ℕ → ℕ) → ℕ → ℕ → ℕ
front_weight s W n h = cond (in_front s n h) (W h) 0

unfoldable front : Sheet → (ℕ → ℕ) → ℕ → ℕ
front s W n = sum (front_weight s W n) (suc s.size)

-- Weights of which each is at most B more than those of the sons together. The groups from n on whose parent is below n
-- weigh together at most B for each group from n on.
module _ (s : Sheet) (W : ℕ → ℕ) (B : ℕ) (t : Tree s) (b : (p : ℕ) → Group s p → W p ≤ B + sons s p W) where
  front_point : (n h : ℕ) → h ≤ s.size
      → front_weight s W n h + only s n W h ≤ front_weight s W (suc n) h + cond (eqb h n) (W n) 0
  front_point n h l =
      split (is_son s n h)
      (λ e. let k = son_of_law s n h l e in
      let after : n < h = omega (arith, t.before h k.group) in
      rw (e, in_front_law s (suc n) h after (omega arith), not_front s n h (λ w. omega arith)) (omega arith))
      (λ e. split (in_front s n h)
      (λ i. let w = front_in s n h i in
      compare_eq h n
      (λ q. rw (e, i, eq-eqb h n q) (omega (arith, ap W q)))
      (λ q. rw (e, i, in_front_law s (suc n) h (omega arith) (omega arith)) (omega arith)))
      (λ i. rw (e, i) (omega arith)))

  front_step : (n : ℕ) → Group s n → front s W n ≤ front s W (suc n) + B
  unfolding front sons
  front_step n g =
      let k = suc s.size in
      let u = sum_le (λ h. front_weight s W n h + only s n W h) (λ h. front_weight s W (suc n) h + cond (eqb h n) (W n) 0) k
      (λ h l. front_point n h (omega arith)) in
      let left = sum_add (front_weight s W n) (only s n W) k in
      let right = sum_add (front_weight s W (suc n)) (λ h. cond (eqb h n) (W n) 0) k in
      omega (arith, b n g, sum_at (W n) n k)

  front_past : (n : ℕ) → s.size < n → front s W n ≡ 0
  unfolding front
  front_past n l =
      sum_zero (front_weight s W n) (suc s.size) (λ h k. rw (not_front s n h (λ w. omega arith)))

  front_most : (d n : ℕ) → 1 ≤ n → s.size < n + d → front s W n ≤ B * d
  front_most zero n i l = omega (arith, front_past n (omega arith))
  front_most (suc d) n i l =
      compare_le n s.size
      (λ j. omega (arith, front_step n (omega arith), front_most d (suc n) (omega arith) (omega arith)))
      (λ j. omega (arith, front_past n j))

  -- the sons of p together
  pub sons_most : (p : ℕ) → sons s p W ≤ B * (s.size - p)
  unfolding front sons
  sons_most p =
      let u = sum_le (only s p W) (front_weight s W (suc p)) (suc s.size)
      (λ h l. split (is_son s p h)
      (λ e. let k = son_of_law s p h (omega arith) e in
      rw (e, in_front_law s (suc p) h (omega (arith, t.before h k.group)) (omega arith)) (le_refl (W h)))
      (λ e. rw e zero-le)) in
      omega (arith, front_most (s.size - p) (suc p) (omega arith) (omega arith))

-- the sons of p among the last k groups together weigh no more than all
sum_last_most : (s : Sheet) (p : ℕ) (f : ℕ → ℕ) (k : ℕ) → k ≤ s.size → sum_last s p f k ≤ sons s p f
sum_last_most s p f k l =
    omega (arith, sum_longer (λ j. only s p f (s.size - j)) k s.size l, sum_last_all s p f)

-- every lo and every finite hi is at most B
pub record Small (s : Sheet) (B : ℕ) : Type 0 where
  pub lo : (g : ℕ) → Group s g → s.lo g ≤ B
  pub hi : (g : ℕ) → Group s g → top_weight (s.hi g) ≤ B

module _ (s : Sheet) (may : ℕ → Bool → Bool) (z : ℕ → Bool → Span) (B : ℕ) (t : Tree s) (m : Measured s may z)
    (b : Small s B) where
  -- a group weighs no more than B or its sons together
  span_weight : (p : ℕ) → Group s p → (c : Bool) → weight (z p c) ≤ max B (sons s p (λ g. heavier (z g)))
  span_weight p g c =
      rw (m.at p g c)
      (omega (
        arith,
        weight_meet (later s z p s.size c) (own s may p c),
        later_weight s z p s.size c,
        sum_last_all s p (λ g. heavier (z g)),
        own_weight s may p c,
        b.lo p g,
        b.hi p g,
      ))

  sons_weight : (p : ℕ) → sons s p (λ g. heavier (z g)) ≤ B * (s.size - p)
  sons_weight p =
      sons_most s (λ g. heavier (z g)) B t (λ p g. omega (arith, span_weight p g false, span_weight p g true)) p

  pub span_ends : (p : ℕ) → Group s p → (c : Bool) → weight (z p c) ≤ max B (B * (s.size - p))
  span_ends p g c = omega (arith, span_weight p g c, sons_weight p)

  pub later_ends : (p k : ℕ) (c : Bool) → k ≤ s.size → weight (later s z p k c) ≤ B * (s.size - p)
  later_ends p k c l =
      omega (arith, later_weight s z p k c, sum_last_most s p (λ g. heavier (z g)) k l, sons_weight p)

  pub span_small : (p : ℕ) → Group s p → (c : Bool) → weight (z p c) ≤ B * s.size
  span_small p g c =
      let one : 1 ≤ s.size = omega arith in
      let less : s.size - p ≤ s.size = omega arith in
      omega (arith, span_ends p g c, mul-le-mul_left B less, mul-le-mul_left B one)

  pub later_small : (p k : ℕ) (c : Bool) → k ≤ s.size → weight (later s z p k c) ≤ B * s.size
  later_small p k c l =
      let less : s.size - p ≤ s.size = omega arith in
      omega (arith, later_ends p k c l, mul-le-mul_left B less)

-- what a weight says of the ends
pub weight_least : (l : ℕ) (u : Top) (n : ℕ) → weight (span l u) ≤ n → l ≤ n
unfolding weight
weight_least l u n h = omega arith

pub weight_most : (l u n : ℕ) → weight (span l (fin u)) ≤ n → u ≤ n
unfolding weight
weight_most l u n h = omega arith
