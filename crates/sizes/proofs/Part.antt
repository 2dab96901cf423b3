-- The span of a group for the state out, with every flag free, has the counts that sets fitting the part of the tree at
-- that group give it: the bottom-up bounds.
use Prim.Native.Nat.{ℕ, zero, suc, ◌+◌, ◌≤◌, ◌<◌, zero-le}
use mathlib.Core.Path.{◌≡◌, refl, sym, ap, ◌∙◌}
use mathlib.Core.Bool.{Bool, true, false, cond, ◌&&◌, ◌||◌}
use mathlib.Core.Logic.{◌↔◌}
use native.Mathlib.Omega.{arith}
use borrow.Author.Tests.{eqb-true, eq-eqb, ne_eqb}
use lib.Dec.{ltb, eqb}
use Rattle.laws.specs.Sum.{bit}
use Rattle.laws.proofs.Cases.{split, compare_eq, compare_le, or_true, or_right, true_not_false}
use Rattle.meaning.specs.Sheet.{Sheet, Group, Son, Top}
use Rattle.meaning.specs.Tree.{Tree}
use Rattle.meaning.specs.Sons.{is_son}
use Rattle.meaning.specs.Fits.{Attains}
use Rattle.meaning.specs.Part.{under, part_at, BottomUp}
use Rattle.sizes.specs.Balanced.{Sizes}
use Rattle.sizes.specs.Span.{Span, In, span}
use Rattle.sizes.specs.Fold.{Measured, spans_of}
use Rattle.sizes.specs.Ranged.{free}
use Rattle.sizes.proofs.Members.{balanced_zero}
use Rattle.sizes.proofs.Possible.{nowhere, sizes_choice, choice_sizes, attains}
use Rattle.sizes.proofs.Exact.{ChoiceAt, sound, sound_at, had}
use Rattle.sizes.proofs.MeasuredLaws.{AlikeAt, measured_alike, spans_measured}

-- h is at or below g
abbrev in_part : Sheet → ℕ → ℕ → Bool
in_part s g h = under s g s.size h

-- The tree above: number 0 stands for 'no parent' and has itself none.
module _ (s : Sheet) (t : Tree s) (o : s.parent 0 ≡ 0) (g : ℕ) (k : Group s g) where
  under_none : (n : ℕ) → under s g n 0 ≡ false
  unfolding under
  under_none zero = ne_eqb 0 g (omega arith)
  under_none (suc n) = rw (ne_eqb 0 g (omega arith), o) (under_none n)

  under_zero : (n h : ℕ) → h ≤ 0 → under s g n h ≡ false
  under_zero n h l = let e : h ≡ 0 = omega arith in rw e (under_none n)

  -- h steps are enough
  under_enough : (n m h : ℕ) → h ≤ s.size → h ≤ n → h ≤ m → under s g n h ≡ under s g m h
  unfolding under
  under_enough zero m h l i j = under_zero 0 h i ∙ sym (under_zero m h i)
  under_enough (suc n) zero h l i j = under_zero (suc n) h j ∙ sym (under_zero 0 h j)
  under_enough (suc n) (suc m) h l i j =
      compare_le h 0
      (λ e. under_zero (suc n) h e ∙ sym (under_zero (suc m) h e))
      (λ e. let b = t.before h (omega arith) in
      ap (λ u. eqb h g || u) (under_enough n m (s.parent h) (omega arith) (omega arith) (omega arith)))

  part_step : (h : ℕ) → Group s h → in_part s g h ≡ (eqb h g || in_part s g (s.parent h))
  part_step h j = under_enough s.size (suc s.size) h j.last j.last (omega arith) ∙ (unfold under in refl)

  part_self : in_part s g g ≡ true
  part_self = part_step g k ∙ rw (eq-eqb g g refl)

  -- the part has the sons of its groups
  part_down : (p h : ℕ) → in_part s g p ≡ true → Son s p h → in_part s g h ≡ true
  part_down p h i j = part_step h j.group ∙ or_right (eqb h g) (in_part s g (s.parent h)) (rw j.under i)

  part_after : (n h : ℕ) → h ≤ s.size → under s g n h ≡ true → g ≤ h
  unfolding under
  part_after zero h l e = omega (arith, eqb-true h g e)
  part_after (suc n) h l e =
      or_true (eqb h g) (under s g n (s.parent h)) e
      (λ q. omega (arith, eqb-true h g q))
      (λ q. compare_le h 0
      (λ z. absurd (true_not_false _ e (under_zero (suc n) h z)))
      (λ z. let b = t.before h (omega arith) in omega (arith, part_after n (s.parent h) (omega arith) q)))

  -- the part's sheet is a tree, and says the same as s of the groups of the part
  pub part_tree : Tree (part_at s g)
  unfolding part_at
  part_tree =
      record {
        before = λ h j. split (eqb h g) (λ e. rw e j.first) (λ e. rw e (t.before h (omega arith)));
      }

  part_size : s.size ≡ (part_at s g).size
  unfolding part_at
  part_size = refl

  part_group : (h : ℕ) → Group (part_at s g) h ↔ Group s h
  part_group h = (λ j. omega (arith, part_size), λ j. omega (arith, part_size))

  part_parent : (h : ℕ) → (h ≡ g → ⊥) → (part_at s g).parent h ≡ s.parent h
  unfolding part_at
  part_parent h n = rw (ne_eqb h g n)

  part_root : (part_at s g).parent g ≡ 0
  unfolding part_at
  part_root = rw (eq-eqb g g refl)

  is_son_eq : (r : Sheet) (p h : ℕ) → s.parent h ≡ r.parent h → is_son s p h ≡ is_son r p h
  unfolding is_son
  is_son_eq r p h e = rw e

  not_son : (r : Sheet) (p h : ℕ) → r.parent h < p → is_son r p h ≡ false
  unfolding is_son
  not_son r p h l = rw (ne_eqb (r.parent h) p (λ e. omega arith)) (and_no (ltb 0 p && ltb 0 h))
    where
      and_no : (b : Bool) → (b && false) ≡ false
      and_no true = refl
      and_no false = refl

  part_alike : (p : ℕ) → Group s p → in_part s g p ≡ true → AlikeAt s (part_at s g) free free p
  unfolding part_at
  part_alike p j i =
      record {
        sons = λ h b. compare_eq h g
            (λ e. let c : s.parent h < p = omega (arith, t.before h b, part_after s.size p j.last i) in
            let d : (part_at s g).parent h < p = rw (eq-eqb h g e) j.first in
            not_son s p h c ∙ sym (not_son (part_at s g) p h d))
            (λ e. is_son_eq (part_at s g) p h (sym (part_parent h e)));
        lo = rw i;
        hi = rw i;
        disjoint = rw i;
        cover = rw i;
        same = rw i;
        flags = λ c. refl;
      }

  -- outside the part nothing is asked: 0 everywhere will do
  outside_choice : (p : ℕ) → Group (part_at s g) p → in_part s g p ≡ false → ChoiceAt (part_at s g) free p (λ h. 0) nowhere
  unfolding part_at
  outside_choice p j i =
      record {
        others = balanced_zero.at p j;
        one = balanced_zero.at p j;
        least = rw i zero-le;
        most = rw i tt;
        allowed = refl;
      }

  outside_down : (p h : ℕ) → in_part s g p ≡ false → Son (part_at s g) p h → in_part s g h ≡ false
  outside_down p h i j =
      let n : h ≡ g → ⊥ = λ e. let c = rw (e, part_root) at j.under in omega (arith, j.above) in
      part_step h ((part_group h).0 j.group) ∙ rw (ne_eqb h g n, ← part_parent h n, j.under) i

  outside_in : (x : ℕ → Bool → Span) → Measured (part_at s g) free x → (h : ℕ) → Group s h → in_part s g h ≡ false
      → In 0 (x h false)
  outside_in x m h j i =
      sound_at (part_at s g) free x part_tree m (λ h. in_part s g h ≡ false) outside_down (λ h. 0) nowhere outside_choice h
      ((part_group h).1 j) i

  -- a number in the span of g in the part's sheet, and 0 for the other parentless groups
  roots_in : (x : ℕ → Bool → Span) → Measured (part_at s g) free x → (r : ℕ) → In r (x g false)
      → (h : ℕ) → Group (part_at s g) h → (part_at s g).parent h ≡ 0 → In (cond (eqb h g) r 0) (x h false)
  roots_in x m r i h j e =
      compare_eq h g
      (λ q. rw (eq-eqb h g q, q) i)
      (λ q. rw (ne_eqb h g q)
      (outside_in x m h ((part_group h).0 j)
      (part_step h ((part_group h).0 j) ∙ rw (ne_eqb h g q, ← part_parent h q, e) (under_none s.size))))

  -- the sizes of the part's sheet have their numbers in the span, and no others
  module _ (z : ℕ → Bool → Span) (m : Measured s free z) where
    part_span : z g false ≡ spans_of (part_at s g) free g false
    part_span =
        measured_alike s (part_at s g) free free z (spans_of (part_at s g) free) t m
        (spans_measured (part_at s g) free part_tree) part_size (λ h. in_part s g h ≡ true) part_down part_alike g k part_self false

    pub part_sizes : (r : ℕ) → In r (z g false) ↔ ((f : ℕ → ℕ) × Sizes (part_at s g) f × (f g ≡ r))
    part_sizes r =
        let x = spans_of (part_at s g) free in
        let n = spans_measured (part_at s g) free part_tree in
        let j = (part_group g).1 k in (
          λ h. let w = had (part_at s g) free x part_tree n (λ h. cond (eqb h g) r 0) nowhere
              (roots_in x n r (rw part_span at h)) in
              let l : (part_at s g).parent g < 1 = omega (arith, part_root) in
              let e : w.0 g ≡ r = w.3.numbers g j l ∙ rw (eq-eqb g g refl) in
              ((λ h. w.0 h + bit (w.1 h)), choice_sizes w.2, rw (w.3.marks g j l) (omega arith)),
          λ w. rw (part_span, ← w.2)
              (sound (part_at s g) free x part_tree n w.0 nowhere (sizes_choice free (λ h i. refl) w.1) g j),
        )

    pub part_attains : (r : ℕ) → In r (z g false) ↔ Attains (part_at s g) g r
    part_attains r =
        let a = attains part_tree g r ((part_group g).1 k) in
        let b = part_sizes r in
        (λ h. a.1 (b.0 h), λ h. b.1 (a.0 h))

-- The ends of these spans are the bottom-up bounds.
pub bottom_up : (s : Sheet) (z : ℕ → Bool → Span) (L : ℕ → ℕ) (U : ℕ → Top) → Tree s → s.parent 0 ≡ 0 → Measured s free z
    → ((g : ℕ) → Group s g → z g false ≡ span (L g) (U g)) → BottomUp s L U
bottom_up s z L U t o m e = record { counts = λ g k r. rw (e g k) at (part_attains s t o g k z m r) }
