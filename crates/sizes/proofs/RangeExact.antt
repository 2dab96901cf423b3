-- The ranges are exact: the range of a group has the counts that sizes of the whole sheet give it, and no others.
use Prim.Native.Nat.{ℕ, suc, ◌-◌, zero, ◌<◌, ◌≤◌, ◌+◌}
use mathlib.Core.Path.{◌≡◌, refl, subst, ◌∙◌}
use mathlib.Core.Bool.{Bool, true, false}
use mathlib.Core.Logic.{◌↔◌}
use native.Mathlib.Omega.{arith}
use native.Mathlib.Nat.{le_refl}
use borrow.Author.Tests.{eq-eqb, ne_eqb}
use Rattle.laws.specs.Sum.{bit}
use Rattle.laws.proofs.Cases.{split, true_not_false}
use Rattle.laws.proofs.SumLaws.{false_bit}
use Rattle.meaning.specs.Sheet.{Sheet, Top, fin, inf, AtMost, Group, Son}
use Rattle.meaning.specs.Tree.{Rooted, Tree}
use Rattle.meaning.specs.Sons.{is_son}
use Rattle.meaning.specs.Fits.{Possible, Attains}
use Rattle.meaning.proofs.SonLaws.{no_son, son_of_law, son_is, son_parent}
use Rattle.sizes.specs.Balanced.{Sizes, Choice}
use Rattle.sizes.specs.Span.{Span, meet, pull, none, span, In, Makes}
use Rattle.sizes.specs.Fold.{join_kind, later, Measured}
use Rattle.sizes.specs.Ranged.{held, free, Ranged}
use Rattle.sizes.specs.RuleSteps.{Upto}
use Rattle.sizes.proofs.Possible.{choice_sizes, nowhere, sizes_choice, possible, attains}
use Rattle.sizes.proofs.SpanLaws.{Proper, in_meet}
use Rattle.sizes.proofs.JoinedLaws.{makes_zero}
use Rattle.sizes.proofs.RuleStepsLaws.{upto_none, upto_son, upto_skip, Lasts, all_lasts, rule_upto, lasts_more}
use Rattle.sizes.proofs.LaterLaws.{later_of, later_in, put, Taken, taken_more}
use Rattle.sizes.proofs.Exact.{sound, span_proper, had_root, later_proper, near_sons, over_son, Grown, grown_more, grow}
use Rattle.sizes.proofs.PullLaws.{proper_meet, proper_least, makes_swap, pull_of, pull_in}
use Rattle.sizes.proofs.RangedExists.{root_or_son}

-- laws of `held`
held_none : (s : Sheet) (z : ℕ → Bool → Span) (R : ℕ → Span) (p : ℕ) → held s z R p 1 ≡ R p
unfolding held
held_none s z R p = rw (no_son s p)

pub held_son : (s : Sheet) (z : ℕ → Bool → Span) (R : ℕ → Span) (p n : ℕ) → is_son s p n ≡ true
    → held s z R p (suc n) ≡ meet (later s z p (s.size - n) false) (pull (join_kind s p) (held s z R p n) (z n false))
unfolding held
held_son s z R p n e = rw e

pub held_skip : (s : Sheet) (z : ℕ → Bool → Span) (R : ℕ → Span) (p n : ℕ) → is_son s p n ≡ false
    → held s z R p (suc n) ≡ held s z R p n
unfolding held
held_skip s z R p n e = rw e

held_proper : (s : Sheet) (z : ℕ → Bool → Span) (R : ℕ → Span) (p n : ℕ) → Proper (R p) → Proper (held s z R p n)
unfolding held
held_proper s z R p zero h = h
held_proper s z R p (suc n) h =
    split (is_son s p n) (λ e. rw e (proper_meet _ _)) (λ e. rw e (held_proper s z R p n h))

-- a total of nothing is 0
upto_nothing : (s : Sheet) (p k : ℕ) → Upto s p (λ g. 0) k 0
upto_nothing s p zero = (upto_none s p (λ g. 0) 0).1 (λ b. refl)
upto_nothing s p (suc k) =
    split (is_son s p (s.size - k))
    (λ e. (upto_son s p (λ g. 0) k 0 e).1 (0, upto_nothing s p k, makes_zero (join_kind s p)))
    (λ e. (upto_skip s p (λ g. 0) k 0 e).1 (upto_nothing s p k))

-- the totals of the sons numbered n and above, and of those above n
upto_before : (s : Sheet) (p : ℕ) (f : ℕ → ℕ) (n x : ℕ) → n < s.size → Upto s p f (s.size - n) x
    → Upto s p f (suc (s.size - suc n)) x
upto_before s p f n x l u = let e : s.size - n ≡ suc (s.size - suc n) = omega arith in subst (λ k. Upto s p f k x) e u

back_again : (s : Sheet) (g : ℕ) → g ≤ s.size → s.size - (s.size - g) ≡ g
back_again s g l = omega arith

-- some sizes give g the number k
abbrev pub Had : Sheet → ℕ → ℕ → Type 0
Had s g k = (f : ℕ → ℕ) × Sizes s f × (f g ≡ k)

-- over all sizes: l is the least number of g, and u the greatest, or there is none
pub record Extent (s : Sheet) (g l : ℕ) (u : Top) : Type 0 where
  pub bounds : (f : ℕ → ℕ) → Sizes s f → (l ≤ f g) × AtMost (f g) u
  pub least : Had s g l
  pub greatest : (k : ℕ) → u ≡ fin k → Had s g k
  pub endless : u ≡ inf → (k : ℕ) → l ≤ k → Had s g k

-- a span that has a number has ends, and one with ends has a number
in_has_ends : (k : ℕ) (a : Span) → In k a → (l : ℕ) × (u : Top) × (a ≡ span l u)
in_has_ends k none i = absurd i
in_has_ends k (span l u) i = (l, u, refl)

some_in : (a : Span) → Proper a → (a ≡ none → ⊥) → (k : ℕ) × In k a
some_in none h n = absurd (n refl)
some_in (span l u) h n = (l, proper_least l u h)

only_root : {s : Sheet} → Rooted s → (g : ℕ) → Group s g → s.parent g ≡ 0 → g ≡ 1
only_root r g q e = root_or_son r g q (λ o. o) (λ p k. absurd (omega arith))

-- a choice that gives g the number k and no mark
had_choice : {s : Sheet} (f : ℕ → ℕ) (M : ℕ → Bool) (g k : ℕ) → Choice s free f M → f g ≡ k → M g ≡ false → Had s g k
had_choice f M g k c e o = (λ i. f i + bit (M i), choice_sizes c, omega (arith, false_bit o))

module _ {s : Sheet} {z : ℕ → Bool → Span} (t : Tree s) (r : Rooted s) (m : Measured s free z) where
  -- sizes have their numbers in the spans of the fold
  pub sizes_in : (f : ℕ → ℕ) → Sizes s f → (g : ℕ) → Group s g → In (f g) (z g false)
  sizes_in f w = sound s free z t m f nowhere (sizes_choice free (λ g q. refl) w)

  sons_in : (f : ℕ → ℕ) → Sizes s f → (p k : ℕ) → Lasts s p (λ g. In (f g) (z g false)) k
  sons_in f w p k = all_lasts s p (λ g. In (f g) (z g false)) k (λ g j. sizes_in f w g j.group)

  totals_in : (f : ℕ → ℕ) → Sizes s f → (p k x : ℕ) → Upto s p f k x → In x (later s z p k false)
  totals_in f w p k x u = later_of s z p f nowhere k x false u (upto_nothing s p k) (sons_in f w p k)

  -- every number of the root's span is had
  pub root_had : (k : ℕ) → In k (z 1 false) → Had s 1 k
  root_had k i =
      let w = (had_root s free z t m k false r.one (only_root r)).0 i in had_choice w.0 w.1 1 k w.2 w.3 w.4

  -- sizes exist exactly when the root's span has ends
  pub possible_iff : ((f : ℕ → ℕ) × Sizes s f) ↔ (z 1 false ≡ none → ⊥)
  possible_iff = (
    λ w e. rw e at (sizes_in w.0 w.1 1 r.one),
    λ n. let e = some_in (z 1 false) (span_proper s free z t m 1 r.one false) n in
        let w = root_had e.0 e.1 in
        (w.0, w.1),
  )

  -- and so with sets that fit
  pub possible_sets : Possible s ↔ (z 1 false ≡ none → ⊥)
  possible_sets =
      let w = possible t in
      let v = possible_iff in
      (λ a. v.0 (w.0 a), λ n. w.1 (v.1 n))

  -- where sizes exist, the spans of the fold have ends
  pub span_has_ends : (f : ℕ → ℕ) → Sizes s f → (g : ℕ) → Group s g → (l : ℕ) × (u : Top) × (z g false ≡ span l u)
  span_has_ends f w g q = in_has_ends (f g) (z g false) (sizes_in f w g q)

module _ {s : Sheet} {z : ℕ → Bool → Span} {R : ℕ → Span} (t : Tree s) (r : Rooted s) (m : Measured s free z)
    (h : Ranged s z R) where
  -- the total of the sons numbered n + 1 and above is held
  held_of : (f : ℕ → ℕ) → Sizes s f → (p : ℕ) → Group s p → In (f p) (R p) → (n : ℕ) → n ≤ s.size
      → (x : ℕ) × Upto s p f (s.size - n) x × In x (held s z R p (suc n))
  held_of f w p q i zero l =
      let e : s.size - 0 ≡ s.size = omega arith in
      (f p, rw e ((rule_upto s p f).0 (w.balanced.at p q)), rw (held_none s z R p) i)
  held_of f w p q i (suc n) l =
      let v = held_of f w p q i n (omega arith) in
      let k = s.size - suc n in
      let u = upto_before s p f n v.0 l v.1 in
      let o : s.size - k ≡ suc n = back_again s (suc n) l in
      split (is_son s p (suc n))
      (λ e. let a = (upto_son s p f k v.0 (rw o e)).0 u in
      let b : Son s p (suc n) = son_of_law s p (suc n) l e in (
        a.0,
        a.1,
        rw (held_son s z R p (suc n) e)
            ((in_meet a.0 _ _).1 (
              totals_in t r m f w p k a.0 a.1,
              pull_of (join_kind s p) (held s z R p (suc n)) (z (suc n) false) a.0 (f (suc n)) v.0 v.2
                  (sizes_in t r m f w (suc n) b.group) (rw o at a.2),
            )),
      ))
      (λ e. (v.0, (upto_skip s p f k v.0 (rw o e)).0 u, rw (held_skip s z R p (suc n) e) v.2))

  -- a son's number is in its range where its parent's is
  son_in_range : (f : ℕ → ℕ) → Sizes s f → (p g : ℕ) → Son s p g → In (f p) (R p) → In (f g) (R g)
  son_in_range f w p zero k i = absurd (omega arith)
  son_in_range f w p (suc n) k i =
      let v = held_of f w p (son_parent t k) i n (omega arith) in
      let j = s.size - suc n in
      let o : s.size - j ≡ suc n = back_again s (suc n) k.group.last in
      let u = upto_before s p f n v.0 k.group.last v.1 in
      let a = (upto_son s p f j v.0 (rw o (son_is k))).0 u in
      rw (h.son p (suc n) k)
      ((in_meet (f (suc n)) _ _).1 (
        sizes_in t r m f w (suc n) k.group,
        pull_of (join_kind s p) (held s z R p (suc n)) (later s z p j false) (f (suc n)) a.0 v.0 v.2
            (totals_in t r m f w p j a.0 a.1) (makes_swap (join_kind s p) a.0 (f (suc n)) v.0 (rw o at a.2)),
      ))

  sound_below : (f : ℕ → ℕ) → Sizes s f → (d g : ℕ) → g ≤ d → Group s g → In (f g) (R g)
  sound_below f w zero g l q = absurd (omega arith)
  sound_below f w (suc d) g l q =
      root_or_son r g q
      (λ e. rw (e, h.root) (sizes_in t r m f w 1 r.one))
      (λ p k. son_in_range f w p g k (sound_below f w d p (omega (arith, t.before g q)) (son_parent t k)))

  -- sizes have their numbers in the ranges
  pub range_sound : (f : ℕ → ℕ) → Sizes s f → (g : ℕ) → Group s g → In (f g) (R g)
  range_sound f w g q = sound_below f w g g (le_refl g) q

  -- a range with ends is not empty
  pub range_proper : (g : ℕ) → Group s g → Proper (R g)
  range_proper g q =
      root_or_son r g q
      (λ e. rw (e, h.root) (span_proper s free z t m 1 r.one false))
      (λ p k. rw (h.son p g k) (proper_meet _ _))

  -- numbers and marks for the sons of p, with a total in its range, and y at its son g with the mark false
  abbrev Given : (p g y : ℕ) → Type 0
  Given p g y =
      (x : ℕ) × (f : ℕ → ℕ) × (M : ℕ → Bool) × In x (R p) × Taken s z p s.size x false f M × (f g ≡ y) × (M g ≡ false)

  -- the number y, marked false, put at the son numbered n in front of numbers for the later ones
  taken_put : (p n x y a : ℕ) (f : ℕ → ℕ) (M : ℕ → Bool) → Son s p n → Makes (join_kind s p) x y a → In y (z n false)
      → Taken s z p (s.size - n) x false f M → Taken s z p (suc (s.size - n)) a false (put n y f) (put n false M)
  taken_put p n x y a f M k w i v =
      let o = back_again s n k.group.last in
      subst (λ j. Taken s z p (suc (s.size - n)) a false (put j y f) (put j false M)) o
      (taken_more s z p (s.size - n) a false false false f M x y (rw o (son_is k)) (makes_zero (join_kind s p)) w (rw o i) v)

  -- what is held by the sons numbered n + 1 and above, once they have their numbers: numbers for the ones before
  held_in : (p g y : ℕ) → Group s p → (n : ℕ) → n < g → g ≤ s.size → (x : ℕ) (f : ℕ → ℕ) (M : ℕ → Bool)
      → In x (held s z R p (suc n)) → Taken s z p (s.size - n) x false f M → f g ≡ y → M g ≡ false → Given p g y
  held_in p g y q zero l b x f M i v e o =
      let c : s.size - 0 ≡ s.size = omega arith in
      (x, f, M, rw (held_none s z R p) at i, subst (λ k. Taken s z p k x false f M) c v, e, o)
  held_in p g y q (suc n) l b x f M i v e o =
      let c : suc (s.size - suc n) ≡ s.size - n = omega arith in
      let d = back_again s (suc n) (omega arith) in
      split (is_son s p (suc n))
      (λ a. let k : Son s p (suc n) = son_of_law s p (suc n) (omega arith) a in
      let u = pull_in (join_kind s p) (held s z R p (suc n)) (z (suc n) false) x
      (held_proper s z R p (suc n) (range_proper p q)) (span_proper s free z t m (suc n) k.group false)
      ((in_meet x _ _).0 (rw (held_son s z R p (suc n) a) at i)).1 in
      let other = ne_eqb g (suc n) (omega arith) in
      held_in p g y q n (omega arith) b u.1 (put (suc n) u.0 f) (put (suc n) false M) u.3
      (subst (λ j. Taken s z p j u.1 false (put (suc n) u.0 f) (put (suc n) false M)) c
      (taken_put p (suc n) x u.0 u.1 f M k u.4 u.2 v))
      (rw other e) (rw other o))
      (λ a. held_in p g y q n (omega arith) b x f M (rw (held_skip s z R p (suc n) a) at i)
      (subst (λ j. Taken s z p j x false f M) c
      (record {
        numbers = (upto_skip s p f (s.size - suc n) x (rw d a)).1 v.numbers;
        marks = (upto_skip s p (λ j. bit (M j)) (s.size - suc n) 0 (rw d a)).1 v.marks;
        within = lasts_more s p (λ j. In (f j) (z j (M j))) (s.size - suc n) v.within
            (λ j. absurd (true_not_false _ j (rw d a)));
      }))
      e o)

  -- a number in the range of the son g of p
  son_given : (p g y : ℕ) → Son s p g → In y (R g) → Given p g y
  son_given p zero y k i = absurd (omega arith)
  son_given p (suc n) y k i =
      let g = suc n in
      let q = son_parent t k in
      let w = (in_meet y _ _).0 (rw (h.son p g k) at i) in
      let u = pull_in (join_kind s p) (held s z R p g) (later s z p (s.size - g) false) y
      (held_proper s z R p g (range_proper p q)) (later_proper s free z t m p (s.size - g) false) w.1 in
      let v = later_in s z p (s.size - g) u.0 false (near_sons s free z t m p (s.size - g)) u.2 in
      let c : suc (s.size - suc n) ≡ s.size - n = omega arith in
      let is = eq-eqb g g refl in
      held_in p g y q n (le_refl g) k.group.last u.1 (put g y v.0) (put g false v.1) u.3
      (subst (λ j. Taken s z p j u.1 false (put g y v.0) (put g false v.1)) c
      (taken_put p g u.0 y u.1 v.0 v.1 k (makes_swap (join_kind s p) y u.0 u.1 u.4) w.0 v.2))
      (rw is) (rw is)

  -- numbers for the sons of p, whose total is p's in some sizes, with the groups after p done again
  had_given : (p g y : ℕ) → Son s p g → (v : Given p g y) → Had s p v.0 → Had s g y
  had_given p g y k v w =
      let f = v.1 in
      let M = v.2 in
      let c = sizes_choice free (λ g q. refl) w.1 in
      let a : Taken s z p s.size (w.0 p) false f M = rw w.2 v.4 in
      let b : Grown s z p w.0 nowhere = record {
        others = λ i q l. c.others.at i q;
        one = λ i q l. c.one.at i q;
        within = λ i q l. sizes_in t r m w.0 w.1 i q;
      } in
      let d = grow s free z t m (suc p) (omega arith) _ _ (grown_more s free z t m p w.0 nowhere f M (son_parent t k) b a) in
      let l : s.parent g < suc p = omega arith in
      had_choice d.0 d.1 g y d.2
      (d.3.numbers g k.group l ∙ over_son s p f w.0 g k ∙ v.5)
      (d.3.marks g k.group l ∙ over_son s p M nowhere g k ∙ v.6)

  had_below : (d g k : ℕ) → g ≤ d → Group s g → In k (R g) → Had s g k
  had_below zero g k l q i = absurd (omega arith)
  had_below (suc d) g k l q i =
      root_or_son r g q
      (λ e. rw e (root_had t r m k (rw (e, h.root) at i)))
      (λ p j. let v = son_given p g k j i in
      had_given p g k j v (had_below d p v.0 (omega (arith, t.before g q)) (son_parent t j) v.3))

  -- every number of a range is had
  pub range_had : (g k : ℕ) → Group s g → In k (R g) → Had s g k
  range_had g k q i = had_below g g k (le_refl g) q i

  -- a number is in a range exactly when sizes give it to the group
  pub range_exact : (g k : ℕ) → Group s g → In k (R g) ↔ Had s g k
  range_exact g k q = (range_had g k q, λ w. rw w.2 at (range_sound w.0 w.1 g q))

  -- and so with sets that fit
  pub range_attains : (g k : ℕ) → Group s g → In k (R g) ↔ Attains s g k
  range_attains g k q =
      let w = attains t g k q in
      let v = range_exact g k q in
      (λ i. w.1 (v.0 i), λ i. v.1 (w.0 i))

  -- where sizes exist, the ends of a range are the least and the greatest number
  pub range_ends : (f : ℕ → ℕ) → Sizes s f → (g : ℕ) → Group s g → (l : ℕ) × (u : Top) × (R g ≡ span l u) × Extent s g l u
  range_ends f w g q =
      let e = in_has_ends (f g) (R g) (range_sound f w g q) in
      let l = e.0 in
      let u = e.1 in
      let had : (k : ℕ) → In k (span l u) → Had s g k = λ k i. range_had g k q (rw e.2 i) in
      let low : AtMost l u = (proper_least l u (rw e.2 at (range_proper g q))).1 in (
        l,
        u,
        e.2,
        record {
          bounds = λ i j. rw e.2 at (range_sound i j g q);
          least = had l (le_refl l, low);
          greatest = λ k o. had k (rw o at low, rw o (le_refl k));
          endless = λ o k i. had k (i, rw o tt);
        },
      )
