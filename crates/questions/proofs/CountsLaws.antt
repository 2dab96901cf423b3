-- Laws of counts asked for between two ends: the sheet with narrowed bounds, and what sets that fit it show of the claim.
use Prim.Native.Nat.{ℕ, suc, ◌≤◌, ◌+◌, ◌<◌, min, ◌-◌, max}
use mathlib.Core.Path.{refl, ◌≡◌, sym, ap, ◌∙◌}
use Rattle.std.proofs.lemmas.List.{get_or_default}
use mathlib.Core.Bool.{Bool, cond, true≢false, false, true, not}
use lib.Dec.{eqb}
use mathlib.Core.List.{List, []}
use mathlib.Core.Logic.{◌⊎◌, inl, inr, ⊎_elim}
use native.Mathlib.Omega.{arith}
use native.Mathlib.Nat.{le_refl}
use borrow.Author.Tests.{ne_eqb, eq-eqb}
use lib.ListN.{length, get_or, set, length-set}
use lib.Seq.{set-get_or, get_or-set_same, get_or-set_other, set-set}
use Rattle.laws.specs.Sum.{sum, bit}
use Rattle.laws.proofs.Cases.{split, compare_eq}
use Rattle.laws.proofs.SumLaws.{sum_eq}
use Rattle.wire.specs.Limits.{no_end}
use Rattle.meaning.specs.Sheet.{Sheet, Group, Son, fin, end_of, Top}
use Rattle.meaning.specs.Tree.{Tree, Rooted}
use Rattle.meaning.specs.Sons.{only, is_son, sons}
use Rattle.meaning.specs.Claim.{counted}
use Rattle.meaning.specs.Place.{all_say}
use Rattle.meaning.proofs.SonLaws.{son_of_law, son_is}
use Rattle.sizes.specs.Balanced.{Balanced, Choice, Sizes}
use Rattle.sizes.specs.Span.{smaller}
use Rattle.sizes.specs.ClaimsPlace.{is_in}
use Rattle.sizes.proofs.RunsLaws.{above_runs}
use Rattle.sizes.proofs.Possible.{nowhere, sizes_choice, possible}
use Rattle.sizes.proofs.Rebound.{rebound, group_rebound, tree_rebound, rooted_rebound}
use Rattle.sizes.proofs.ClaimsPlaceLaws.{place_in, place_choice}
use Rattle.sizes.proofs.ClaimsCount.{narrow_hi, narrow_lo, narrow_hi_sizes, narrow_lo_sizes, narrow_hi_choice, narrow_lo_choice}
use Rattle.sizes.proofs.ClaimsMathLaws.{breakable_empty, empty_breaks, shown_breaks_count, breakable_size}
use Rattle.tables.specs.declared.groups.Group.{Group as TableGroup}
use Rattle.tables.specs.Entry.{no_group}
use Rattle.tables.specs.Names.{meant_number}
use Rattle.tables.specs.Groups.{group_in}
use Rattle.tables.specs.Modes.{disjoint_mode, cover_mode, same_mode}
use Rattle.tables.specs.SheetIn.{Tabled, sheet_in}
use Rattle.tables.specs.Numbers.{number_in}
use Rattle.tables.proofs.SheetInLaws.{size_in, group_in_law, parent_in_law, lo_in_law, hi_in_law, disjoint_in, cover_in, same_in}
use Rattle.questions.specs.Judged.{Judged, Fitting, Showing}
use Rattle.questions.specs.Places.{PlaceJudged}
use Rattle.questions.specs.Counts.{Any, Sized, Between, CountUnder, CountOver, counts}
use Rattle.questions.proofs.WitnessedLaws.{witnessed_as, witnessed_no, witnessed_yes}

-- a place in no group and out of none
pub place_sized : {s : Sheet} {sizes marks : List ℕ} {x : Bool} → Tree s → PlaceJudged s [] [] sizes marks x
    → Sized s Any sizes marks x
unfolding place_in is_in
place_sized t w =
    witnessed_as
    (λ v. (v.fitting, tt))
    (λ z. (place_choice [] [] t).1 (z.0, nowhere, sizes_choice (place_in [] []) (λ g q. refl) z.1))
    w

-- two sheets that say the same of every group
pub record Same (s r : Sheet) : Type 0 where
  pub size : s.size ≡ r.size
  pub parent : (g : ℕ) → Group s g → s.parent g ≡ r.parent g
  pub lo : (g : ℕ) → Group s g → s.lo g ≡ r.lo g
  pub hi : (g : ℕ) → Group s g → s.hi g ≡ r.hi g
  pub disjoint : (g : ℕ) → Group s g → s.disjoint g ≡ r.disjoint g
  pub cover : (g : ℕ) → Group s g → s.cover g ≡ r.cover g
  pub same : (g : ℕ) → Group s g → s.same g ≡ r.same g

pub same_turned : {s r : Sheet} → Same s r → Same r s
same_turned {s} {r} w = record {
  size = sym w.size;
  parent = λ g q. sym (w.parent g (back g q));
  lo = λ g q. sym (w.lo g (back g q));
  hi = λ g q. sym (w.hi g (back g q));
  disjoint = λ g q. sym (w.disjoint g (back g q));
  cover = λ g q. sym (w.cover g (back g q));
  same = λ g q. sym (w.same g (back g q));
}
  where
    back : (g : ℕ) → Group r g → Group s g
    back g q = record { first = q.first; last = omega (arith, q.last, w.size) }

module _ {s r : Sheet} (w : Same s r) where
  group_back : {g : ℕ} → Group r g → Group s g
  group_back q = record { first = q.first; last = omega (arith, q.last, w.size) }

  son_back : {p g : ℕ} → Son r p g → Son s p g
  son_back {p} {g} k =
      let q = group_back k.group in
      record { above = k.above; group = q; under = w.parent g q ∙ k.under }

  is_son_same : (p g : ℕ) → g ≤ s.size → is_son s p g ≡ is_son r p g
  is_son_same p g l =
      split (is_son r p g)
      (λ e. rw e (son_is (son_back (son_of_law r p g (omega (arith, w.size)) e))))
      (λ e. split (is_son s p g)
      (λ o. let k = son_of_law s p g l o in
      let i : Son r p g =
      record {
        above = k.above;
        group = record { first = k.group.first; last = omega (arith, w.size) };
        under = sym
            (w.parent g k.group) ∙ k.under;
      } in
      absurd (true≢false (sym (son_is i) ∙ e)))
      (λ o. rw (e, o)))

  sons_same : (p : ℕ) (f : ℕ → ℕ) → sons s p f ≡ sons r p f
  unfolding sons
  sons_same p f =
      sum_eq (only s p f) (only r p f) (suc s.size) (λ g l. ap (λ b. cond b (f g) 0) (is_son_same p g (omega arith)))
      ∙ ap (λ n. sum (only r p f) (suc n)) w.size

  pub balanced_same : {f : ℕ → ℕ} → Balanced s f → Balanced r f
  balanced_same {f} b = record {
    at = λ p q. let i = group_back q in let a = b.at p i in record {
      inside = λ g k. a.inside g (son_back k);
      equal = λ g k e. a.equal g (son_back k) (w.same p i ∙ e);
      apart = λ e. rw (sons_same p f) at (a.apart (w.disjoint p i ∙ e));
      covered = λ e. rw (sons_same p f) at (a.covered (w.cover p i ∙ e));
    };
  }

  pub sizes_same : {f : ℕ → ℕ} → Sizes s f → Sizes r f
  sizes_same z = record {
    balanced = balanced_same z.balanced;
    least = λ g q. let i = group_back q in rw (w.lo g i) at (z.least g i);
    most = λ g q. let i = group_back q in rw (w.hi g i) at (z.most g i);
  }

  pub choice_same : {may : ℕ → Bool → Bool} {f : ℕ → ℕ} {M : ℕ → Bool} → Choice s may f M → Choice r may f M
  choice_same c = record {
    others = balanced_same c.others;
    one = balanced_same c.one;
    least = λ g q. let i = group_back q in rw (w.lo g i) at (c.least g i);
    most = λ g q. let i = group_back q in rw (w.hi g i) at (c.most g i);
    allowed = λ g q. c.allowed g (group_back q);
  }

  pub tree_same : Tree s → Tree r
  tree_same t = record { before = λ g q. let i = group_back q in rw (w.parent g i) at (t.before g i) }

  pub rooted_same : Rooted s → Rooted r
  rooted_same t = record {
    one = record { first = le_refl 1; last = omega (arith, t.one.last, w.size) };
    top = sym (w.parent 1 t.one) ∙ t.top;
    rest = λ g q l. let i = group_back q in rw (w.parent g i) at (t.rest g i l);
  }

-- a condition that narrows a sheet: the sizes of the narrowed one are those of the sheet that meet it
pub sized_narrow : {s u v : Sheet} {P Q : (ℕ → ℕ) → Type 0} {sizes marks : List ℕ} {x : Bool} → Same u v → s.size ≡ u.size
    → ((may : ℕ → Bool → Bool) (f : ℕ → ℕ) (M : ℕ → Bool) → Choice v may f M → Choice s may f M × P (λ g. f g + bit (M g)))
    → ((f : ℕ → ℕ) → Sizes s f → P f → Sizes v f) → Sized u Q sizes marks x → Sized s (λ f. P f × Q f) sizes marks x
sized_narrow w n i o z =
    witnessed_as
    (λ y. let f = y.0.found in let c = i y.0.may _ _ (choice_same w f.choice) in (
      record {
        may = y.0.may;
        root = y.0.root;
        found = record {
          choice = c.0;
          top = f.top;
          state = f.state;
          bits = λ g q. f.bits g (record { first = q.first; last = omega (arith, q.last, n) });
        };
      },
      (c.1, y.1),
    ))
    (λ y. (y.0, sizes_same (same_turned w) (o y.0 y.1 y.2.0), y.2.1))
    z

-- the smaller of an upper end and a number that is one
end_smaller : (h k : ℕ) → k < no_end → end_of no_end (min h k) ≡ smaller (end_of no_end h) (fin k)
unfolding end_of
end_smaller h k l =
    let n : min h k ≡ no_end → ⊥ = λ e. omega arith in
    compare_eq h no_end
    (λ e. let o : min h k ≡ k = omega arith in rw (ne_eqb (min h k) no_end n, e) (ap fin (rw e at o)))
    (λ o. rw (ne_eqb (min h k) no_end n, ne_eqb h no_end o))

same_itself : (s : Sheet) → Same s s
same_itself s = record {
  size = refl;
  parent = λ g q. refl;
  lo = λ g q. refl;
  hi = λ g q. refl;
  disjoint = λ g q. refl;
  cover = λ g q. refl;
  same = λ g q. refl;
}

-- An entry x stored for group g, with the parent and the mode that g has: the sheet with other bounds.
module _ (t : List TableGroup) (n g : ℕ) (a : 1 ≤ g) (b : g ≤ n) (l : n ≤ length t) (x : TableGroup)
    (p : x.parent ≡ (get_or t (g - 1) no_group).parent) (m : x.mode ≡ (get_or t (g - 1) no_group).mode) where
  abbrev u : List TableGroup
  u = set t (g - 1) x

  here : get_or u (g - 1) no_group ≡ x
  here = get_or-set_same t (g - 1) x no_group (omega arith)

  other : (h : ℕ) → 1 ≤ h → (h ≡ g → ⊥) → get_or u (h - 1) no_group ≡ get_or t (h - 1) no_group
  other h c o = get_or-set_other t (g - 1) (h - 1) x no_group (λ e. o (omega arith))

  kept : {A : Type 0} (f : TableGroup → A) → f x ≡ f (get_or t (g - 1) no_group) → (h : ℕ) → 1 ≤ h
      → f (get_or u (h - 1) no_group) ≡ f (get_or t (h - 1) no_group)
  kept f e h c = compare_eq h g (λ o. rw o (ap f here ∙ e)) (λ o. ap f (other h c o))

  stored : (L : ℕ → ℕ) (H : ℕ → Top) → ((h : ℕ) → Group (sheet_in t n) h → (group_in u (h - 1)).lo ≡ L h)
      → ((h : ℕ) → Group (sheet_in t n) h → end_of no_end (group_in u (h - 1)).hi ≡ H h)
      → Same (sheet_in u n) (rebound (sheet_in t n) L H)
  stored L H lo hi =
      let back : (h : ℕ) → Group (sheet_in u n) h → Group (sheet_in t n) h =
      λ h q. group_in_law t n q.first (omega (arith, q.last, size_in u n)) in
      let mode : (h : ℕ) → 1 ≤ h → (group_in u (h - 1)).mode ≡ (group_in t (h - 1)).mode =
      kept (λ y. y.mode.0) (ap (λ y. y.0) m) in
      record {
        size = size_in u n ∙ sym (size_in t n);
        parent = λ h q. parent_in_law u n h q ∙ kept (λ y. meant_number y.parent) (ap meant_number p) h q.first
            ∙ sym (parent_in_law t n h (back h q));
        lo = λ h q. lo_in_law u n h q ∙ lo h (back h q);
        hi = λ h q. hi_in_law u n h q ∙ hi h (back h q);
        disjoint = λ h q. disjoint_in u n h q ∙ ap disjoint_mode (mode h q.first) ∙ sym (disjoint_in t n h (back h q));
        cover = λ h q. cover_in u n h q ∙ ap cover_mode (mode h q.first) ∙ sym (cover_in t n h (back h q));
        same = λ h q. same_in u n h q ∙ ap same_mode (mode h q.first) ∙ sym (same_in t n h (back h q));
      }

  -- the table is that of a tree
  tabled_stored : Tabled t n → Tabled u n
  tabled_stored v =
      let L : ℕ → ℕ = λ h. (group_in u (h - 1)).lo in
      let H : ℕ → Top = λ h. end_of no_end (group_in u (h - 1)).hi in
      let w = same_turned (stored L H (λ h q. refl) (λ h q. refl)) in
      record {
        some = v.some;
        small = v.small;
        long = omega (arith, v.long, length-set t (g - 1) x);
        tree = tree_same w (tree_rebound (sheet_in t n) _ L _ H v.tree);
        rooted = rooted_same w (rooted_rebound (sheet_in t n) _ L _ H v.rooted);
      }

  own : Group (sheet_in t n) g
  own = group_in_law t n a b

  low : (k : ℕ) → x.lo ≡ max (get_or t (g - 1) no_group).lo k → (h : ℕ) → Group (sheet_in t n) h
      → (group_in u (h - 1)).lo ≡ (narrow_lo (sheet_in t n) g k).lo h
  low k e h q =
      compare_eq h g
      (λ o. rw (o, eq-eqb g g refl) (ap (λ y. y.lo) here ∙ e ∙ ap (λ z. max z k) (sym (lo_in_law t n g own))))
      (λ o. rw (ne_eqb h g o) (ap (λ y. y.lo) (other h q.first o) ∙ sym (lo_in_law t n h q)))

  high : (k : ℕ) → x.hi ≡ min (get_or t (g - 1) no_group).hi k → k < no_end → (h : ℕ) → Group (sheet_in t n) h
      → end_of no_end (group_in u (h - 1)).hi ≡ (narrow_hi (sheet_in t n) g k).hi h
  high k e c h q =
      compare_eq h g
      (λ o. rw (o, eq-eqb g g refl)
      (ap (λ y. end_of no_end y.hi) here ∙ ap (end_of no_end) e ∙ end_smaller (get_or t (g - 1) no_group).hi k c
      ∙ ap (λ z. smaller z (fin k)) (sym (hi_in_law t n g own))))
      (λ o. rw (ne_eqb h g o) (ap (λ y. end_of no_end y.hi) (other h q.first o) ∙ sym (hi_in_law t n h q)))

  endless : (k : ℕ) → x.hi ≡ min (get_or t (g - 1) no_group).hi k → k ≡ no_end → (h : ℕ) → Group (sheet_in t n) h
      → end_of no_end (group_in u (h - 1)).hi ≡ (sheet_in t n).hi h
  endless k e c h q =
      let most = (get_or t (g - 1) no_group).bounded.1 in
      ap (end_of no_end) (kept (λ y. y.hi) (omega arith) h q.first) ∙ sym (hi_in_law t n h q)

  -- both bounds narrowed
  between_sized : {sizes marks : List ℕ} {r : Bool} (lo hi : ℕ) → x.lo ≡ max (get_or t (g - 1) no_group).lo lo
      → x.hi ≡ min (get_or t (g - 1) no_group).hi hi → hi ≤ no_end
      → Sized (sheet_in u n) Any sizes marks r → Sized (sheet_in t n) (Between g lo (end_of no_end hi)) sizes marks r
  unfolding end_of
  between_sized lo hi d e k z =
      let s = sheet_in t n in
      let v = narrow_lo s g lo in
      let size = size_in t n ∙ sym (size_in u n) in
      compare_eq hi no_end
      (λ c. rw c
      (witnessed_as (λ y. (y.0, (y.1.0, tt))) (λ y. (y.0, y.1, (y.2.0, tt)))
      (sized_narrow (stored v.lo s.hi (low lo d) (endless hi e c)) size (λ may f M i. (narrow_lo_choice g lo own).0 i)
      (λ f i j. (narrow_lo_sizes g lo own).1 (i, j)) z)))
      (λ c. rw (ne_eqb hi no_end c)
      (witnessed_as (λ y. (y.0, (y.1.0, y.1.1.0))) (λ y. (y.0, y.1, (y.2.0, (y.2.1, tt))))
      (sized_narrow (same_itself v) refl (λ may f M i. (narrow_lo_choice g lo own).0 i)
      (λ f i j. (narrow_lo_sizes g lo own).1 (i, j))
      (sized_narrow (stored v.lo (narrow_hi s g hi).hi (low lo d) (high hi e (omega arith))) size
      (λ may f M i. (narrow_hi_choice g hi (group_rebound s _ _ _ _ own)).0 i)
      (λ f i j. (narrow_hi_sizes g hi (group_rebound s _ _ _ _ own)).1 (i, j)) z))))

-- the entry at index i of the table stored over, by one with the same parent and mode
module _ (t : List TableGroup) (n g i : ℕ) (a : 1 ≤ g) (b : g ≤ n) (k : i ≡ g - 1) (v : Tabled t n) (d x : TableGroup)
    (p : x.parent ≡ (get_or t i d).parent) (m : x.mode ≡ (get_or t i d).mode) where
  entry : get_or t i d ≡ get_or t (g - 1) no_group
  entry = get_or_default t i d no_group (omega (arith, v.long)) ∙ ap (λ j. get_or t j no_group) k

  pub tabled_changed : Tabled (set t i x) n
  tabled_changed = rw k (tabled_stored t n g a b v.long x (rw entry at p) (rw entry at m) v)

  pub sized_changed : {sizes marks : List ℕ} {r : Bool} (lo hi : ℕ) → x.lo ≡ max (get_or t i d).lo lo
      → x.hi ≡ min (get_or t i d).hi hi → hi ≤ no_end
      → Sized (sheet_in (set t i x) n) Any sizes marks r → Sized (sheet_in t n) (Between g lo (end_of no_end hi)) sizes marks r
  sized_changed lo hi e o h z =
      between_sized t n g a b v.long x (rw entry at p) (rw entry at m) lo hi (rw entry at e) (rw entry at o) h (rw k at z)

pub put_back : (t : List TableGroup) (i : ℕ) (d x : TableGroup) → set (set t i x) i (get_or t i d) ≡ t
put_back t i d x = set-set t i x _ ∙ set-get_or t i d

pub put_own : (t : List TableGroup) (i : ℕ) (d x : TableGroup) → d ≡ get_or t i d → set (set t i x) i d ≡ t
put_own t i d x e = ap (set (set t i x) i) e ∙ put_back t i d x

-- fewer than lo: at most lo - 1, where lo is not 0
pub sized_under : {s : Sheet} {sizes marks : List ℕ} {x : Bool} (g lo k : ℕ) → k + 1 ≡ lo → k < no_end
    → Sized s (Between g 0 (end_of no_end k)) sizes marks x → Sized s (CountUnder g lo) sizes marks x
unfolding end_of
sized_under g lo k e l z =
    let n = ne_eqb k no_end (λ i. omega arith) in
    witnessed_as
    (λ y. (y.0, let q = rw n at y.1.1 in omega arith))
    (λ y. (y.0, y.1, (omega arith, rw n (omega (arith, y.2)))))
    z

sized_never : {s : Sheet} {P : (ℕ → ℕ) → Type 0} {sizes marks : List ℕ} → ((f : ℕ → ℕ) → P f → ⊥)
    → Sized s P sizes marks false
sized_never h = witnessed_no (λ y. h y.0 y.2)

-- more than hi: at least hi + 1, where hi is an upper end
pub sized_over : {s : Sheet} {sizes marks : List ℕ} {x : Bool} (g h : ℕ) → (h ≡ no_end → ⊥)
    → Sized s (Between g (h + 1) (end_of no_end no_end)) sizes marks x
    → Sized s (CountOver g (end_of no_end h)) sizes marks x
unfolding end_of
sized_over g h n z =
    witnessed_as
    (λ y. (y.0, rw (ne_eqb h no_end n) (omega (arith, y.1.0))))
    (λ y. (y.0, y.1, (let q = rw (ne_eqb h no_end n) at y.2 in omega arith, tt)))
    z

pub over_never : {s : Sheet} {sizes marks : List ℕ} (g h : ℕ) → h ≡ no_end
    → Sized s (CountOver g (end_of no_end h)) sizes marks (not (eqb h no_end))
unfolding end_of
over_never g h e = rw e (sized_never (λ f p. p))

-- a count claim on the empty set
pub empty_count : {s : Sheet} {sizes marks : List ℕ} {x : Bool} (lo : ℕ) (hi : Top) → Tree s → 1 ≤ lo → Sized s Any sizes marks x
    → Judged s (all_say (counted 0 lo hi)) sizes marks x
empty_count lo hi t l z =
    witnessed_as
    (λ y. record { fitting = y.0; shows = λ st h. empty_breaks _ lo hi l })
    (λ y. let v = (possible t).0 ((breakable_empty lo hi).0 y).0 in (v.0, v.1, tt))
    z

pub empty_kept : {s : Sheet} {sizes marks : List ℕ} (lo : ℕ) (hi : Top) → lo ≡ 0
    → Judged s (all_say (counted 0 lo hi)) sizes marks (not (eqb lo 0))
empty_kept lo hi e = rw (eq-eqb lo 0 e) (witnessed_no (λ w. let l = ((breakable_empty lo hi).0 w).1 in omega arith))

-- a count claim on a group: too few, then too many
count_shows : {s : Sheet} {sizes marks : List ℕ} (g lo : ℕ) (hi : Top) → Tree s → Group s g → Fitting s sizes marks
    → CountUnder g lo (counts sizes marks) ⊎ CountOver g hi (counts sizes marks) → Showing s (all_say (counted g lo hi)) sizes marks
count_shows {s} {sizes} g lo hi t q f w = record {
  fitting = f;
  shows = λ st h. shown_breaks_count t f.found.choice h _ g lo hi q (above_runs s.size st (number_in sizes) g q.last) w;
}

pub under_judged : {s : Sheet} {sizes marks : List ℕ} (g lo : ℕ) (hi : Top) → Tree s → Group s g
    → Sized s (CountUnder g lo) sizes marks true → Judged s (all_say (counted g lo hi)) sizes marks true
under_judged g lo hi t q z = let f = z.found refl in witnessed_yes (count_shows g lo hi t q f.0 (inl f.1))

pub over_judged : {s : Sheet} {sizes marks sizes' marks' : List ℕ} {x : Bool} (g lo : ℕ) (hi : Top) → Tree s → Group s g
    → Sized s (CountUnder g lo) sizes' marks' false → Sized s (CountOver g hi) sizes marks x → Judged s (all_say (counted g lo hi)) sizes marks x
over_judged {s} g lo hi t q y z = record {
  found = λ e. let f = z.found e in count_shows g lo hi t q f.0 (inr f.1);
  lacking = λ e w.
      let v = (breakable_size t g lo hi q).0 w in
      ⊎_elim (λ u. y.lacking refl (v.0, v.1, u)) (λ u. z.lacking e (v.0, v.1, u)) v.2;
}
