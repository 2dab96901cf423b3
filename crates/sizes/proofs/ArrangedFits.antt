-- The arrangement of document 01 fits: its sizes are sizes that the sheet allows, and its starts are those of the runs that
-- show them. For any bounds there is one, and one only.
use Prim.Native.Nat.{ℕ, zero, suc, ◌-◌, ◌+◌, ◌≤◌, min}
use mathlib.Core.Path.{◌≡◌, ◌∙◌, refl, sym}
use mathlib.Core.Bool.{true, false, ◌&&◌, Bool}
use native.Mathlib.Omega.{arith}
use native.Mathlib.Nat.{le_refl, add-zero}
use lib.Dec.{ltb}
use Rattle.laws.specs.Sum.{sum}
use Rattle.laws.proofs.Cases.{split, and_true, true_not_false, below_suc}
use Rattle.laws.proofs.SumLaws.{sum_suc, bit_eq, sum_eq}
use Rattle.meaning.specs.Sheet.{Sheet, Son, Top, Group, AtMost}
use Rattle.meaning.specs.Tree.{Tree, Rooted}
use Rattle.meaning.specs.Sons.{is_son, only, sons}
use Rattle.meaning.specs.SonList.{son_count}
use Rattle.meaning.specs.Fits.{Fits}
use Rattle.meaning.specs.Shown.{shown, above}
use Rattle.meaning.specs.Arranged.{cap, left_for, size_of, Arranged, ended, first_of}
use Rattle.meaning.proofs.SonLaws.{son_of_law, son_is, sons_le, sons_prefix, sons_gap, son_parent}
use Rattle.sizes.specs.Balanced.{RuleAt, Sizes}
use Rattle.sizes.specs.Span.{eq, span, In, Span}
use Rattle.sizes.specs.Fold.{join_kind, shut, Measured}
use Rattle.sizes.specs.Ranged.{free}
use Rattle.sizes.specs.Runs.{Starts}
use Rattle.sizes.specs.RuleSteps.{Upto}
use Rattle.sizes.proofs.Members.{balanced_zero}
use Rattle.sizes.proofs.RunsInWords.{told_starts}
use Rattle.sizes.proofs.Possible.{nowhere, sizes_fits_above}
use Rattle.sizes.proofs.SpanLaws.{at_le, cap_at, cap_most, cap_least}
use Rattle.sizes.proofs.JoinedLaws.{in_own}
use Rattle.sizes.proofs.RuleStepsLaws.{upto_none, upto_son, upto_skip, kind_same, shut_same, rule_upto, rule_eq}
use Rattle.sizes.proofs.Exact.{in_span, span_proper, sound, Grown, grow}
use Rattle.sizes.proofs.PullLaws.{proper_least}
use Rattle.sizes.proofs.RangedExists.{root_or_son, AlikeBelow, Down, down_exists, down_unique}

-- a total of numbers that are all the same, where nobody is left
shut_zero : (s : Sheet) (p : ℕ) (f : ℕ → ℕ) → join_kind s p ≡ eq → shut s p ≡ true → (k x : ℕ) → Upto s p f k x → x ≡ 0
shut_zero s p f e b zero x u = (upto_none s p f x).0 u b
shut_zero s p f e b (suc k) x u =
    split (is_son s p (s.size - k))
    (λ o. let w = (upto_son s p f k x o).0 u in
    let m = rw e at w.2 in
    omega (arith, shut_zero s p f e b k w.0 w.1))
    (λ o. shut_zero s p f e b k x ((upto_skip s p f k x o).0 u))

-- The sizes of the sons of p, compared with numbers f that keep the rule at p and the sons' bounds.
module _ (s : Sheet) (L : ℕ → ℕ) (U : ℕ → Top) (size : ℕ → ℕ) (p : ℕ) (f : ℕ → ℕ) (r : RuleAt s p f) (e : f p ≡ size p)
    (within : (g : ℕ) → Son s p g → In (f g) (span (L g) (U g)))
    (given : (g : ℕ) → Son s p g → size g ≡ size_of s L U size p g) where
  abbrev SizesKept : Type 0
  SizesKept = RuleAt s p size × ((g : ℕ) → Son s p g → In (size g) (span (L g) (U g)))

  same_size : s.same p ≡ true → (g : ℕ) → Son s p g → f g ≡ size g
  unfolding size_of
  same_size m g k =
      let a = rw m at (given g k) in
      split (s.disjoint p && ltb 1 (son_count s p))
      (λ o. let w = and_true (s.disjoint p) (ltb 1 (son_count s p)) o in
      let b : shut s p ≡ true = shut_same s p m ∙ rw w.1 w.0 in
      let z = shut_zero s p f (kind_same s p m) b s.size (f p) ((rule_upto s p f).0 r) in
      omega (arith, rw o at a, r.equal g k m))
      (λ o. omega (arith, rw o at a, r.equal g k m))

  same_kept : s.same p ≡ true → SizesKept
  same_kept m = (rule_eq s p f size (same_size m) e r, λ g k. rw (same_size m g k) at (within g k))

  least_kept : s.same p ≡ false → s.cover p ≡ false → SizesKept
  unfolding size_of
  least_kept m c =
      let is : (g : ℕ) → Son s p g → size g ≡ L g = λ g k. rw (m, c) at (given g k) in (
        record {
          inside = λ g k. omega (arith, is g k, (within g k).0, r.inside g k);
          equal = λ g k o. absurd (true_not_false _ o m);
          apart = λ d. omega (arith, r.apart d, sons_le s p size f (λ g k. omega (arith, is g k, (within g k).0)));
          covered = λ o. absurd (true_not_false _ o c);
        },
        λ g k. (omega (arith, is g k), at_le (size g) (f g) (U g) (omega (arith, is g k, (within g k).0)) (within g k).1),
      )

  cover_kept : s.same p ≡ false → s.cover p ≡ true → s.disjoint p ≡ false → SizesKept
  unfolding size_of
  cover_kept m c d =
      let is : (g : ℕ) → Son s p g → size g ≡ cap (U g) (size p) =
      λ g k. rw (m, c, d) at (given g k) in
      let up : (g : ℕ) → Son s p g → f g ≤ size g =
      λ g k. rw (is g k) (cap_least (U g) (f g) (size p) (omega (arith, r.inside g k)) (within g k).1) in (
        record {
          inside = λ g k. omega (arith, is g k, cap_most (U g) (size p));
          equal = λ g k o. absurd (true_not_false _ o m);
          apart = λ o. absurd (true_not_false _ o d);
          covered = λ o. omega (arith, r.covered c, sons_le s p f size up);
        },
        λ g k. (omega (arith, up g k, (within g k).0), rw (is g k) (cap_at (U g) (size p))),
      )

  -- Under 'disjoint' with 'cover': the sons before n leave room for the least of the others, and have no less than f gives.
  abbrev SharedTo : ℕ → Type 0
  SharedTo n =
      (sum (only s p size) n + sons s p L ≤ size p + sum (only s p L) n) × (sum (only s p f) n ≤ sum (only s p size) n)

  module _ (m : s.same p ≡ false) (c : s.cover p ≡ true) (d : s.disjoint p ≡ true) where
    shared_is : (g : ℕ) → Son s p g → size g ≡ cap (U g) (left_for s L size p g)
    unfolding size_of
    shared_is g k = rw (m, c, d) at (given g k)

    -- between what is left and the smaller of that and f, and not below the least
    shared_size : (g : ℕ) → Son s p g → SharedTo g
        → (sum (only s p size) g + size g + sons s p L ≤ size p + sum (only s p L) g + L g)
        × (sum (only s p f) g + f g ≤ sum (only s p size) g + size g) × (L g ≤ size g)
    unfolding left_for sons
    shared_size g k h =
        let a = shared_is g k in
        let n = left_for s L size p g in
        let i = within g k in
        let l = sons_prefix L k in
        let j = rw (son_is k) at (sum_suc (only s p L) g) in
        let v = rw (son_is k) at (sum_suc (only s p f) g) in
        let x = cap_most (U g) n in
        let y = cap_least (U g) (min (f g) n) n (omega arith) (at_le (min (f g) n) (f g) (U g) (omega arith) i.1) in
        let z = cap_least (U g) (L g) n (omega arith) (at_le (L g) (f g) (U g) i.0 i.1) in
        let w = sons_gap s p L f (suc g) (omega arith) (λ q o. (within q o).0) in
        (omega arith, omega (arith, r.apart d), omega arith)

    shared_to : (n : ℕ) → n ≤ suc s.size → SharedTo n
    unfolding sum
    shared_to zero l = (omega (arith, r.apart d, sons_le s p L f (λ g k. (within g k).0)), le_refl 0)
    shared_to (suc n) l =
        split (is_son s p n)
        (λ o. let w = shared_size n (son_of_law s p n (omega arith) o) (shared_to n (omega arith)) in rw o (omega arith))
        (λ o. rw o (omega (arith, shared_to n (omega arith))))

    shared_kept : SizesKept
    unfolding sons left_for
    shared_kept =
        let w = shared_to (suc s.size) (le_refl _) in (
          record {
            inside = λ g k. omega (arith, shared_is g k, cap_most (U g) (left_for s L size p g));
            equal = λ g k o. absurd (true_not_false _ o m);
            apart = λ o. omega arith;
            covered = λ o. omega (arith, r.covered c);
          },
          λ g k. (
            (shared_size g k (shared_to g (omega arith))).2,
            rw (shared_is g k) (cap_at (U g) (left_for s L size p g)),
          ),
        )

  -- the rule holds at p, and its sons' sizes are within their bounds
  sizes_kept : SizesKept
  sizes_kept =
      split (s.same p) same_kept
      (λ m. split (s.cover p) (λ c. split (s.disjoint p) (shared_kept m c) (cover_kept m c)) (least_kept m))

-- The sizes of the arrangement, group after group: where those before are right, the fold has numbers for the sons of p.
module _ {s : Sheet} {z : ℕ → Bool → Span} {L : ℕ → ℕ} {U : ℕ → Top} {first size : ℕ → ℕ} (t : Tree s) (r : Rooted s)
    (m : Measured s free z) (e : (g : ℕ) → Group s g → z g false ≡ span (L g) (U g)) (a : Arranged s L U first size) where
  grown_root : Grown s z 1 size nowhere
  grown_root = record {
    others = λ p q l. absurd (omega arith);
    one = λ p q l. absurd (omega arith);
    within = λ g q l. root_or_son r g q
        (λ o. rw (o, a.root_size, e 1 r.one)
        (proper_least (L 1) (U 1) (rw (e 1 r.one) at (span_proper s free z t m 1 r.one false))))
        (λ p k. absurd (omega arith));
  }

  -- numbers for the sons of p
  fold_sons : (p : ℕ) → Group s p → Grown s z p size nowhere
      → (f : ℕ → ℕ) × RuleAt s p f × (f p ≡ size p) × ((g : ℕ) → Son s p g → In (f g) (z g false))
  fold_sons p q w =
      let v = grow s free z t m p q.first size nowhere w in
      let c = v.2 in
      let b = v.3 in
      let unmarked : v.1 p ≡ false = b.marks p q (t.before p q) in (
        v.0,
        c.others.at p q,
        b.numbers p q (t.before p q),
        λ g k. let i = rw unmarked at ((c.one.at p q).inside g k) in
            let o : v.1 g ≡ false = bit_eq (v.1 g) false (omega arith) in
            rw o at (sound s free z t m v.0 v.1 c g k.group),
      )

  grown_next : (p : ℕ) → Group s p → Grown s z p size nowhere → Grown s z (suc p) size nowhere
  grown_next p q w =
      let v = fold_sons p q w in
      let kept = sizes_kept s L U size p v.0 v.1 v.2
      (λ g k. rw (e g k.group) at (v.3 g k)) (λ g k. a.son_size p g k) in
      record {
        others = λ i j l. below_suc i p l (λ o. rw o kept.0) (w.others i j);
        one = λ i j l. balanced_zero.at i j;
        within = λ g j l. below_suc (s.parent g) p l
            (λ o. rw (e g j) (kept.1 g (record { above = q.first; group = j; under = o })))
            (w.within g j);
      }

  grown_all : (n : ℕ) → n ≤ s.size → Grown s z (suc n) size nowhere
  grown_all zero l = grown_root
  grown_all (suc n) l = grown_next (suc n) (omega arith) (grown_all n (omega arith))

  -- the arrangement's sizes are allowed
  pub arranged_sizes : Sizes s size
  arranged_sizes =
      let w = grown_all s.size (le_refl _) in
      let own_bounds : (g : ℕ) → Group s g → (s.lo g ≤ size g) × AtMost (size g) (s.hi g) =
      λ g q. let i = ((in_span s free z t m g q false (size g)).0 (w.within g q (omega (arith, t.before g q)))).1 in
      let o = (in_own s free g false (size g)).0 i in
      (omega arith, rw (add-zero (size g)) at o.2) in
      record {
        balanced = record { at = λ p q. w.others p q (omega arith) };
        least = λ g q. (own_bounds g q).0;
        most = λ g q. (own_bounds g q).1;
      }

  -- its starts are those of the runs
  pub arranged_starts : Starts s size first
  arranged_starts =
      told_starts t arranged_sizes.balanced a.son_first
      (λ g q o. root_or_son r g q (λ x. rw (x, a.root_first) (le_refl 1)) (λ p k. absurd (omega arith)))

  -- its sets fit
  pub arranged_fits : Fits s (shown first size nowhere (above s.size first size))
  arranged_fits = sizes_fits_above t arranged_sizes arranged_starts

-- The arrangement exists: sizes first, then starts.
module _ {s : Sheet} (t : Tree s) (r : Rooted s) (L : ℕ → ℕ) (U : ℕ → Top) where
  -- sums over the sons below g speak of groups below g
  only_alike : (h k : ℕ → ℕ) (p g n : ℕ) → n ≤ g → g ≤ s.size → AlikeBelow s h k g → sum (only s p h) n ≡ sum (only s p k) n
  only_alike h k p g n l q w =
      sum_eq _ _ n
      (λ i j. split (is_son s p i) (λ o. rw o (w i (son_of_law s p i (omega arith) o).group (omega arith))) (λ o. rw o))

  parent_alike : {A : Type 0} (h k : ℕ → A) (p g : ℕ) → Son s p g → AlikeBelow s h k g → h p ≡ k p
  parent_alike h k p g j w = w p (son_parent t j) (omega (arith, t.before g j.group))

  size_local : (h k : ℕ → ℕ) (p g : ℕ) → Son s p g → AlikeBelow s h k g → size_of s L U h p g ≡ size_of s L U k p g
  unfolding size_of left_for
  size_local h k p g j w =
      rw (parent_alike h k p g j w, only_alike h k p g g (le_refl g) j.group.last w)

  ended_local : (a b h k : ℕ → ℕ) (p g n : ℕ) → Son s p g → n ≤ g → AlikeBelow s a b g → AlikeBelow s h k g
      → ended s h a p n ≡ ended s k b p n
  unfolding ended
  ended_local a b h k p g zero j l v w = parent_alike h k p g j w
  ended_local a b h k p g (suc n) j l v w =
      split (is_son s p n)
      (λ o. let i = (son_of_law s p n (omega arith) o).group in rw (o, v n i l, w n i l))
      (λ o. rw o (ended_local a b h k p g n j (omega arith) v w))

  first_local : (a b h k : ℕ → ℕ) (p g : ℕ) → Son s p g → AlikeBelow s a b (suc g) → AlikeBelow s h k g
      → first_of s h a p g ≡ first_of s k b p g
  unfolding first_of
  first_local a b h k p g j v w =
      let u : AlikeBelow s a b g = λ i q l. v i q (omega arith) in
      rw (
        parent_alike h k p g j w,
        parent_alike a b p g j u,
        v g j.group (le_refl (suc g)),
        ended_local a b h k p g g j (le_refl g) u w,
      )

  -- the starts, for given sizes
  start_local : (size h k : ℕ → ℕ) (p g : ℕ) → Son s p g → AlikeBelow s h k g → first_of s h size p g ≡ first_of s k size p g
  start_local size h k p g j w = first_local size size h k p g j (λ i q l. refl) w

  pub arranged_exists : (first : ℕ → ℕ) × (size : ℕ → ℕ) × Arranged s L U first size
  arranged_exists =
      let v = down_exists t r (L 1) (size_of s L U) size_local in
      let w = down_exists t r 1 (λ h. first_of s h v.0) (start_local v.0) in (
        w.0,
        v.0,
        record { root_size = v.1.root; root_first = w.1.root; son_size = v.1.son; son_first = w.1.son },
      )

  pub arranged_unique : (f a h b : ℕ → ℕ) → Arranged s L U f a → Arranged s L U h b → (g : ℕ) → Group s g
      → (f g ≡ h g) × (a g ≡ b g)
  arranged_unique f a h b x y =
      let sized : (c d : ℕ → ℕ) → Arranged s L U c d → Down s (L 1) (size_of s L U) d =
      λ c d w. record { root = w.root_size; son = w.son_size } in
      let same : (g : ℕ) → Group s g → a g ≡ b g =
      down_unique t r (L 1) (size_of s L U) size_local a b (sized f a x) (sized h b y) in
      λ g q. (
        down_unique t r 1 (λ i. first_of s i a) (start_local a) f h
            (record { root = x.root_first; son = x.son_first })
            (record {
              root = y.root_first;
              son = λ p i k. y.son_first p i k
                  ∙ sym (first_local a b h h p i k (λ j w l. same j w) (λ j w l. refl));
            })
            g q,
        same g q,
      )
