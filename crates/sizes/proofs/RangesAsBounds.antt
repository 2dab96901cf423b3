-- A sheet with its ranges as bounds: the same sets fit, so the ranges are the same, and the arrangement is the same too
-- (document 02, card 13).
use Prim.Native.Nat.{ℕ, ◌≤◌, zero, suc, ◌+◌, zero-le}
use mathlib.Core.Path.{◌≡◌, refl, ap, fun_ext, sym, ◌∙◌, subst}
use mathlib.Core.Bool.{Bool, cond, ◌&&◌, ◌||◌, true}
use mathlib.Core.Logic.{◌↔◌}
use native.Mathlib.Omega.{arith}
use native.Mathlib.Nat.{le_refl}
use lib.Dec.{eqb}
use Rattle.laws.proofs.Cases.{split, compare_le}
use Rattle.laws.proofs.SumLaws.{sum_suc}
use Rattle.meaning.specs.Sheet.{Sheet, Group, Top, AtMost, inf, Son}
use Rattle.meaning.specs.Tree.{Tree, Rooted}
use Rattle.meaning.specs.Sons.{is_son, sons, only}
use Rattle.meaning.specs.Sets.{Sets, count}
use Rattle.meaning.specs.Fits.{Attains, Fits, Possible}
use Rattle.meaning.specs.Part.{under, part_at, BottomUp}
use Rattle.meaning.specs.Arranged.{cap, left_for, size_of, ended, first_of, Arranged, ArrangedBottomUp}
use Rattle.meaning.proofs.SonLaws.{son_is, son_parent, sons_prefix, sons_gap}
use Rattle.sizes.specs.Balanced.{Sizes}
use Rattle.sizes.specs.Renumbered.{renumbered}
use Rattle.sizes.proofs.RenumberedLaws.{renumbered_count, renumbered_fits}
use Rattle.sizes.proofs.Possible.{attains}
use Rattle.sizes.proofs.Rebound.{rebound, group_rebound, fits_rebound, son_rebound, tree_rebound, sizes_rebound, rooted_rebound}
use Rattle.sizes.proofs.SpanLaws.{cap_at, cap_most, cap_least, at_le}
use Rattle.sizes.proofs.ArrangedFits.{arranged_unique}
use Rattle.sizes.proofs.ArrangedOnce.{part_had, arrangement_runs}

-- l and u are the ends of the ranges: k is from l g to u g exactly when some finite sets fit and give group g k members
pub record RangeEnds (s : Sheet) (l : ℕ → ℕ) (u : ℕ → Top) : Type 0 where
  pub counts : (g : ℕ) → Group s g → (k : ℕ) → ((l g ≤ k) × AtMost k (u g)) ↔ Attains s g k

module _ {s : Sheet} {l : ℕ → ℕ} {u : ℕ → Top} (e : RangeEnds s l u) where
  -- the counts of sets that fit are in the ranges
  count_within : {X : Type 0} {A : Sets X} → Fits s A → (g : ℕ) → Group s g → (l g ≤ count A g) × AtMost (count A g) (u g)
  count_within {A = A} w g q = (e.counts g q (count A g)).1 (renumbered A, renumbered_fits w, renumbered_count A g)

  -- the numbers in a range keep the sheet's own bounds
  own_bounds : (g k : ℕ) → Group s g → l g ≤ k → AtMost k (u g) → (s.lo g ≤ k) × AtMost k (s.hi g)
  own_bounds g k q a b = let w = (e.counts g q k).0 (a, b) in rw (← w.2) (w.1.least g q, w.1.most g q)

  -- The same sets fit, over any type of member.
  pub same_sets : (X : Type 0) (A : Sets X) → Fits s A ↔ Fits (rebound s l u) A
  same_sets X A = (
    λ w. fits_rebound s s.lo l s.hi u w (count_within w),
    λ w. fits_rebound s l s.lo u s.hi w
        (λ g q. let j = group_rebound s s.lo l s.hi u q in own_bounds g (count A g) q (w.least g j) (w.most g j)),
  )

  -- The ranges are the same.
  pub same_ranges : (g k : ℕ) → Attains s g k ↔ Attains (rebound s l u) g k
  same_ranges g k =
      (λ w. (w.0, (same_sets ℕ w.0).0 w.1, w.2), λ w. (w.0, (same_sets ℕ w.0).1 w.1, w.2))

-- an upper end v that lies between c and u, and m between c and n: the smaller of v and m is c where that of u and n is
cap_between : (u v : Top) (n m c : ℕ) → c ≡ cap u n → AtMost c v → ((k : ℕ) → AtMost k v → AtMost k u) → c ≤ m → m ≤ n → c ≡ cap v m
cap_between u v n m c e a b x y =
    omega (
      arith,
      cap_least v c m x a,
      cap_least u (cap v m) n (omega (arith, cap_most v m)) (b (cap v m) (cap_at v m)),
    )

-- the part of a sheet with other bounds
module _ (s : Sheet) (l : ℕ → ℕ) (u : ℕ → Top) (g : ℕ) where
  under_rebound : (n h : ℕ) → under (rebound s l u) g n h ≡ under s g n h
  unfolding under
  under_rebound zero h = refl
  under_rebound (suc n) h = ap (λ x. eqb h g || x) (under_rebound n (s.parent h))

  part_rebound : part_at (rebound s l u) g
      ≡ rebound (part_at s g) (λ h. cond (under s g s.size h) (l h) 0) (λ h. cond (under s g s.size h) (u h) inf)
  unfolding part_at
  part_rebound =
      ap
      (λ (kept : ℕ → Bool). record {
        size = s.size;
        parent = λ h. cond (eqb h g) 0 (s.parent h);
        lo = λ h. cond (kept h) (l h) 0;
        hi = λ h. cond (kept h) (u h) inf;
        disjoint = λ h. kept h && s.disjoint h;
        cover = λ h. kept h && s.cover h;
        same = λ h. kept h && s.same h;
      })
      (fun_ext (under_rebound s.size))

-- sizes and starts speak of the tree and the modes only
module _ (s : Sheet) (l : ℕ → ℕ) (u : ℕ → Top) where
  size_of_rebound : (L : ℕ → ℕ) (U : ℕ → Top) (size : ℕ → ℕ) (p g : ℕ) → size_of (rebound s l u) L U size p g ≡ size_of s L U size p g
  unfolding size_of left_for sons is_son
  size_of_rebound L U size p g = refl

  ended_rebound : (first size : ℕ → ℕ) (p n : ℕ) → ended (rebound s l u) first size p n ≡ ended s first size p n
  unfolding ended is_son
  ended_rebound first size p zero = refl
  ended_rebound first size p (suc n) = ap (cond (is_son s p n) (first n + size n)) (ended_rebound first size p n)

  first_of_rebound : (first size : ℕ → ℕ) (p g : ℕ) → first_of (rebound s l u) first size p g ≡ first_of s first size p g
  unfolding first_of
  first_of_rebound first size p g = rw (ended_rebound first size p g)

-- The arrangement of a sheet is that of the sheet with its ranges as bounds: the bottom-up bounds of the second lie between those of
-- the first and the arrangement's sizes.
module _ {s : Sheet} {l : ℕ → ℕ} {u : ℕ → Top} (e : RangeEnds s l u) (t : Tree s) (r : Rooted s) (o : s.parent 0 ≡ 0)
    {first size : ℕ → ℕ} (z : Sizes s size) {L : ℕ → ℕ} {U : ℕ → Top} (b : BottomUp s L U) (a : Arranged s L U first size)
    {L' : ℕ → ℕ} {U' : ℕ → Top} (b' : BottomUp (rebound s l u) L' U') where
  group_kept : {g : ℕ} → Group s g → Group (rebound s l u) g
  group_kept q = group_rebound s s.lo l s.hi u q

  son_back : {p g : ℕ} → Son (rebound s l u) p g → Son s p g
  son_back k = son_rebound s l s.lo u s.hi k

  sizes_kept : Sizes (rebound s l u) size
  sizes_kept =
      let i : (g : ℕ) → Group s g → (l g ≤ size g) × AtMost (size g) (u g) =
      λ g q. (e.counts g q (size g)).1 ((attains t g (size g) q).1 (size, z, refl)) in
      sizes_rebound s s.lo l s.hi u z (λ g q. (i g q).0) (λ g q. (i g q).1)

  -- sets that fit the part with the narrower bounds fit the part
  part_wider : (g k : ℕ) → Attains (part_at (rebound s l u) g) g k → Attains (part_at s g) g k
  unfolding part_at
  part_wider g k w =
      let v = subst (λ x. Attains x g k) (part_rebound s l u g) w in (
        v.0,
        fits_rebound (part_at s g) _ (part_at s g).lo _ (part_at s g).hi v.1
            (λ h j. split (under s g s.size h)
            (λ x. rw x (own_bounds e h (count v.0 h) (omega arith) (rw x at (v.1.least h (omega arith))) (rw x at (v.1.most h (omega arith)))))
            (λ x. rw x (zero-le, tt))),
        v.2,
      )

  -- the size is between the bottom-up bounds, and these between those of the sheet
  size_within : (g : ℕ) → Group s g → (L' g ≤ size g) × AtMost (size g) (U' g)
  size_within g q = (b'.counts g (group_kept q) (size g)).1 (part_had (tree_rebound s _ l _ u t) o sizes_kept g (group_kept q))

  wider : (g k : ℕ) → Group s g → L' g ≤ k → AtMost k (U' g) → (L g ≤ k) × AtMost k (U g)
  wider g k q x y = (b.counts g q k).1 (part_wider g k ((b'.counts g (group_kept q) k).0 (x, y)))

  least_within : (g : ℕ) → Group s g → (L g ≤ L' g) × AtMost (L' g) (U g)
  least_within g q =
      let w = size_within g q in
      wider g (L' g) q (le_refl _) (at_le (L' g) (size g) (U' g) w.0 w.1)

  top_within : (g : ℕ) → Group s g → (k : ℕ) → AtMost k (U' g) → AtMost k (U g)
  top_within g q k x =
      compare_le (L' g) k (λ y. (wider g k q y x).1) (λ y. at_le k (L' g) (U g) (omega arith) (least_within g q).1)

  -- what is left for a son
  left_within : (p g : ℕ) → Son s p g → s.disjoint p ≡ true
      → (size g ≤ left_for s L' size p g) × (left_for s L' size p g ≤ left_for s L size p g)
  unfolding left_for
  left_within p g k d =
      let own = rw (son_is k) at (sum_suc (only s p size) g) in
      let more = sons_gap s p L L' (suc g) (omega (arith, k.group.last)) (λ h j. (least_within h j.group).0) in
      let room = sons_gap s p L' size (suc g) (omega (arith, k.group.last)) (λ h j. (size_within h j.group).0) in
      (omega (arith, (z.balanced.at p (son_parent t k)).apart d, sons_prefix size k), omega arith)

  -- the size of a son
  son_kept : (p g : ℕ) → Son s p g → size g ≡ size_of s L' U' size p g
  unfolding size_of
  son_kept p g k =
      let q = k.group in
      let is = a.son_size p g k in
      split (s.same p)
      (λ m. rw m (rw m at is))
      (λ m. split (s.cover p)
      (λ c. split (s.disjoint p)
      (λ d. let w = left_within p g k d in
      rw (m, c, d) (cap_between (U g) (U' g) (left_for s L size p g) (left_for s L' size p g) (size g) (rw (m, c, d) at is)
      (size_within g q).1 (top_within g q) w.0 w.1))
      (λ d. rw (m, c, d) (cap_between (U g) (U' g) (size p) (size p) (size g) (rw (m, c, d) at is)
      (size_within g q).1 (top_within g q) ((z.balanced.at p (son_parent t k)).inside g k) (le_refl _))))
      (λ c. let x : size g ≡ L g = rw (m, c) at is in rw (m, c) (omega (arith, (size_within g q).0, (least_within g q).0))))

  arranged_kept : Arranged (rebound s l u) L' U' first size
  arranged_kept = record {
    root_size = omega (arith, a.root_size, (size_within 1 r.one).0, (least_within 1 r.one).0);
    root_first = a.root_first;
    son_size = λ p g k. son_kept p g (son_back k) ∙ sym (size_of_rebound s l u L' U' size p g);
    son_first = λ p g k. a.son_first p g (son_back k) ∙ sym (first_of_rebound s l u first size p g);
  }

-- So it is the same, whatever two replies show.
pub same_arrangement : {s : Sheet} {l : ℕ → ℕ} {u : ℕ → Top} → RangeEnds s l u → Tree s → Rooted s → s.parent 0 ≡ 0 → Possible s
    → {first size first' size' : ℕ → ℕ} → ArrangedBottomUp s first size → ArrangedBottomUp (rebound s l u) first' size'
    → (g : ℕ) → Group s g → (first g ≡ first' g) × (size g ≡ size' g)
same_arrangement {s} {l} {u} e t r o w {first} {size} {first'} {size'} x y g q =
    let z = (arrangement_runs t r o w x).0 in
    arranged_unique (tree_rebound s _ l _ u t) (rooted_rebound s _ l _ u r) y.0 y.1 first size first' size'
    (arranged_kept e t r o z x.2 x.3 y.2) y.3 g (group_rebound s _ l _ u q)
