-- Laws of the arrangement's sizes, group after group, from the tables of measuring.
use Prim.Native.Nat.{ℕ, suc, ◌≤◌, zero, ◌+◌, ◌-◌, ◌<◌}
use mathlib.Core.Path.{◌≡◌, sym, ◌∙◌, ap, refl}
use mathlib.Core.Bool.{true, false}
use mathlib.Core.List.{List}
use native.Mathlib.Omega.{arith}
use native.Mathlib.Nat.{le_refl}
use lib.ListN.{length, get_or, set, length-set}
use Rattle.laws.specs.Sum.{sum}
use Rattle.laws.proofs.Cases.{compare_le, split, compare_eq}
use Rattle.laws.proofs.SumLaws.{sum_zero, sum_suc}
use Rattle.meaning.specs.Sheet.{Top, Sheet, Group, Son, fin}
use Rattle.meaning.specs.Tree.{Tree}
use Rattle.meaning.specs.Sons.{only, is_son, sons}
use Rattle.meaning.specs.Arranged.{left_for, size_of, Arranged}
use Rattle.meaning.proofs.SonLaws.{no_son_before, son_of_law, son_parent, son_is, one_parent}
use Rattle.sizes.specs.Balanced.{Sizes}
use Rattle.sizes.specs.Span.{span, plus, add, join}
use Rattle.sizes.specs.Fold.{join_kind, shut, start, joined, later}
use Rattle.sizes.proofs.Possible.{possible}
use Rattle.sizes.proofs.RuleStepsLaws.{kind_disjoint, shut_cover}
use Rattle.sizes.proofs.LaterLaws.{later_none, later_son, later_skip}
use Rattle.sizes.proofs.BoundsLaws.{weight_least}
use Rattle.sizes.proofs.RangeExact.{span_has_ends}
use Rattle.sizes.proofs.ArrangedFits.{arranged_sizes, arranged_exists}
use Rattle.sizes.proofs.ArrangedAlike.{arranged_eq}
use Rattle.tables.specs.declared.groups.Group.{Group as TableGroup}
use Rattle.tables.specs.Groups.{group_in}
use Rattle.tables.specs.Modes.{disjoint_mode, cover_mode, same_mode}
use Rattle.tables.specs.SheetIn.{sheet_in, size_limit}
use Rattle.tables.specs.Numbers.{number_in}
use Rattle.tables.proofs.SheetInLaws.{disjoint_in, cover_in, same_in}
use Rattle.tables.proofs.NumbersLaws.{number_same, number_other}
use Rattle.spans.specs.declared.pair.Pair.{Pair as PairCode}
use Rattle.spans.specs.Held.{top_of, span_of}
use Rattle.spans.proofs.HeldLaws.{none_of, some_of}
use Rattle.measuring.specs.Pairs.{pair_in, least_in, greatest_in}
use Rattle.measuring.specs.Fitting.{Arrangeable}
use Rattle.measuring.proofs.DoneLaws.{room_span}
use Rattle.runs.specs.Told.{Told, Startable}
use Rattle.ranging.specs.Sized.{size_by}

-- the lower end of a span of two numbers
pub span_of_ends : (a b l : ℕ) (u : Top) → span_of a b ≡ span l u → span_of a b ≡ span a (top_of b)
span_of_ends a b l u e =
    compare_le a b some_of
    (λ h. let n = none_of h in
    let z : ◌≡◌ {A = ℕ} 0 1 = cc in
    absurd (omega arith))

least_is : (a b l : ℕ) (u : Top) → span_of a b ≡ span l u → a ≡ l
least_is a b l u e = let d = span_of_ends a b l u e in cc

-- no son of p comes before p
no_sons : {s : Sheet} → Tree s → (f : ℕ → ℕ) (p n : ℕ) → n ≤ suc p → p ≤ s.size → sum (only s p f) n ≡ 0
no_sons {s} t f p n l h =
    sum_zero (only s p f) n (λ g k. rw (no_son_before t p g (omega arith) h))

module _ {groups : List TableGroup} {spans after : List PairCode} {n : ℕ} (k : Arrangeable groups n spans after) where
  abbrev s : Sheet
  s = sheet_in groups n

  -- the bounds that the table has are those of the measured spans
  pub span_told : (g : ℕ) → Group s g → k.z g false ≡ span (least_in spans g) (greatest_in spans g)
  unfolding pair_in
  span_told g q =
      let w = (possible k.tabled.tree).0 k.fit in
      let e = span_has_ends k.tabled.tree k.tabled.rooted k.measured w.0 w.1 g q in
      let d = k.measures.spanned g q in
      sym d ∙ span_of_ends _ _ e.0 e.1 (d ∙ e.2)

  -- the least of the sons of p among the last i groups, together
  later_least : (p : ℕ) → join_kind s p ≡ add → shut s p ≡ true → (i : ℕ) → i ≤ s.size
      → (l : ℕ) × (u : Top) × (later s k.z p i false ≡ span l u)
      × (l + sum (only s p (least_in spans)) (suc (s.size - i)) ≡ sons s p (least_in spans))
  unfolding start joined join sons
  later_least p d e zero h =
      (0, fin 0, later_none s k.z p false ∙ rw e, (let o : s.size - 0 ≡ s.size = omega arith in rw o (omega arith)))
  later_least p d e (suc i) h =
      let w = later_least p d e i (omega arith) in
      let g = s.size - i in
      let o : g ≡ suc (s.size - suc i) = omega arith in
      let v = sum_suc (only s p (least_in spans)) g in
      split (is_son s p g)
      (λ b. let j = son_of_law s p g (omega arith) b in (
        w.0 + least_in spans g,
        plus w.1 (greatest_in spans g),
        later_son s k.z p i false b ∙ rw (d, w.2, span_told g j.group),
        (let x = rw b at v in rw (← o) (omega (arith, w.3))),
      ))
      (λ b. (w.0, w.1, later_skip s k.z p i false b ∙ w.2, (let x = rw b at v in rw (← o) (omega (arith, w.3)))))

  -- the least of the sons after g, together
  after_least : (p g : ℕ) → Son s p g → s.same p ≡ false → s.disjoint p ≡ true → s.cover p ≡ true
      → least_in after g ≡ sons s p (least_in spans) - sum (only s p (least_in spans)) (suc g)
  unfolding pair_in
  after_least p g j m d c =
      let w = later_least p (kind_disjoint s p m d) (shut_cover s p m ∙ c) (s.size - g) (omega arith) in
      let e = least_is _ _ w.0 w.1 (k.measures.followed p g j ∙ w.2) in
      let o : s.size - (s.size - g) ≡ g = omega (arith, j.group.last) in
      let x = rw o at w.3 in
      omega arith

  module _ {first size : ℕ → ℕ} (a : Arranged s (least_in spans) (greatest_in spans) first size) where
    pub told_sizes : Sizes s size
    told_sizes = arranged_sizes k.tabled.tree k.tabled.rooted k.measured span_told a

    -- every size by what stands in the tables
    pub size_by_law : (p g : ℕ) → Son s p g
        → size g ≡ size_by (s.same p) (s.disjoint p) (s.cover p) (least_in spans g) (greatest_in spans g) (size p)
        (size p - sum (only s p size) g - least_in after g)
    unfolding size_by size_of left_for
    size_by_law p g j =
        split (s.same p)
        (λ m. rw m ((told_sizes.balanced.at p (son_parent k.tabled.tree j)).equal g j m))
        (λ m. split (s.cover p)
        (λ c. split (s.disjoint p)
        (λ d. let e : size p - (sum (only s p size) g + (sons s p (least_in spans) - sum (only s p (least_in spans)) (suc g)))
        ≡ size p - sum (only s p size) g - least_in after g = omega (arith, after_least p g j m d c) in
        (rw (m, c, d, e) at (a.son_size p g j)) ∙ rw (m, c, d))
        (λ d. (rw (m, c, d) at (a.son_size p g j)) ∙ rw (m, c, d)))
        (λ c. (rw (m, c) at (a.son_size p g j)) ∙ rw (m, c)))

-- the groups up to i have their sizes f, and `left` is what the sons up to i have left of each group
pub record SizedTo (s : Sheet) (size f left : ℕ → ℕ) (i : ℕ) : Type 0 where
  pub found : (g : ℕ) → Group s g → g ≤ i → f g ≡ size g
  pub rest : (p : ℕ) → Group s p → p ≤ i → left p ≡ size p - sum (only s p size) (suc i)

-- one more group, g, a son of p, with x members: what changes in the two tables
pub record Sizing (sizes left : List ℕ) (p g x : ℕ) (sizes' left' : List ℕ) : Type 0 where
  pub found : number_in sizes' g ≡ x
  pub others : (h : ℕ) → 1 ≤ h → (h ≡ g → ⊥) → number_in sizes' h ≡ number_in sizes h
  pub own : number_in left' g ≡ x
  pub last : number_in left' p ≡ number_in left p - x
  pub rest : (h : ℕ) → 1 ≤ h → (h ≡ g → ⊥) → (h ≡ p → ⊥) → number_in left' h ≡ number_in left h

module _ {s : Sheet} {size : ℕ → ℕ} (t : Tree s) where
  -- the root alone
  pub sized_root : {f left : ℕ → ℕ} → Group s 1 → f 1 ≡ size 1 → left 1 ≡ size 1 → SizedTo s size f left 1
  sized_root q e o = record {
    found = λ g j l. let one : g ≡ 1 = omega (arith, j.first) in rw one e;
    rest = λ p j l. let one : p ≡ 1 = omega (arith, j.first) in
        rw one (omega (arith, no_sons t size 1 2 (omega arith) q.last));
  }

  -- one more group
  pub sized_more : {sizes left sizes' left' : List ℕ} (p i x : ℕ) → Son s p (suc i)
      → SizedTo s size (number_in sizes) (number_in left) i → x ≡ size (suc i) → Sizing sizes left p (suc i) x sizes' left'
      → SizedTo s size (number_in sizes') (number_in left') (suc i)
  sized_more p i x k w e v = record {
    found = λ g j l. compare_eq g (suc i)
        (λ o. rw o (v.found ∙ e))
        (λ o. v.others g j.first o ∙ w.found g j (omega arith));
    rest = λ h j l.
        let z = sum_suc (only s h size) (suc i) in
        compare_eq h (suc i)
        (λ o. rw o (v.own ∙ (omega (arith, no_sons t size (suc i) (suc (suc i)) (le_refl _) k.group.last))))
        (λ n. compare_eq h p
        (λ o. let y = rw (o, son_is k) at z in
        rw o (omega (arith, v.last, rw o at (w.rest h j (omega arith)))))
        (λ o. let y = rw (one_parent k h o) at z in
        omega (arith, v.rest h j.first n o, w.rest h j (omega arith))));
  }

-- one turn
pub size_step : {groups : List TableGroup} {spans after : List PairCode} {sizes left sizes' left' : List ℕ} {n : ℕ} → Arrangeable groups n spans after
    → (g p x : ℕ) → Son (sheet_in groups n) p g
    → (m : ℕ) → m ≡ (group_in groups (p - 1)).mode
    → x ≡ size_by (same_mode m) (disjoint_mode m) (cover_mode m) (least_in spans g) (greatest_in spans g) (number_in sizes p)
    (number_in left p - least_in after g)
    → Sizing sizes left p g x sizes' left'
    → (first size : ℕ → ℕ) → Arranged (sheet_in groups n) (least_in spans) (greatest_in spans) first size
    → SizedTo (sheet_in groups n) size (number_in sizes) (number_in left) (g - 1)
    → SizedTo (sheet_in groups n) size (number_in sizes') (number_in left') g
size_step k zero p x j m f d v first size r w = absurd (omega (arith, j.group.first))
size_step {groups} {spans} {after} {sizes} {left} {n = n} k (suc i) p x j m f d v first size r w =
    let q = son_parent k.tabled.tree j in
    let l : p ≤ i = omega (arith, k.tabled.tree.before (suc i) j.group, j.under) in
    let o : suc i - 1 ≡ i = omega arith in
    let y = rw o at w in
    let by = size_by_law k r p (suc i) j in
    let found = y.found p q l in
    let rest = y.rest p q l in
    sized_more k.tabled.tree p i x j y
    (d ∙ rw (found, rest, f, ← same_in groups n p q, ← disjoint_in groups n p q, ← cover_in groups n p q) (sym by))
    v

-- three stores
pub sizing : (sizes left : List ℕ) (p g x y : ℕ) → 1 ≤ p → p < g → g ≤ length sizes → g ≤ length left
    → y ≡ get_or (set left (g - 1) x) (p - 1) 0 - x
    → Sizing sizes left p g x (set sizes (g - 1) x) (set (set left (g - 1) x) (p - 1) y)
sizing sizes left p g x y a b c d e =
    let mid = set left (g - 1) x in
    record {
      found = number_same sizes g x (omega arith) c;
      others = λ h i n. number_other sizes g h x (omega arith) i n;
      own = number_other mid p g y a (omega arith) (λ o. omega arith) ∙ number_same left g x (omega arith) d;
      last = number_same mid p y a (simp length-set (omega arith)) ∙ e
          ∙ ap (λ m. m - x) (number_other left g p x (omega arith) a (λ o. omega arith));
      rest = λ h i n o. number_other mid p h y a i o ∙ number_other left g h x (omega arith) i n;
    }

-- All groups have their sizes: the sizes of the table are those of an arrangement.
module _ {groups : List TableGroup} {spans after : List PairCode} {n : ℕ} (k : Arrangeable groups n spans after) (sizes : List ℕ)
    (all : (first size : ℕ → ℕ) → Arranged (sheet_in groups n) (least_in spans) (greatest_in spans) first size
    → (g : ℕ) → Group (sheet_in groups n) g → number_in sizes g ≡ size g) where
  table_sizes : (first : ℕ → ℕ) × Arranged (sheet_in groups n) (least_in spans) (greatest_in spans) first (number_in sizes)
  table_sizes =
      let t = k.tabled.tree in
      let r = k.tabled.rooted in
      let w = arranged_exists t r (least_in spans) (greatest_in spans) in
      (w.0, arranged_eq t (λ g q. refl) (λ g q. sym (all w.0 w.1 w.2 g q)) r w.2)

  -- the root has its least count, which is not large
  table_top : number_in sizes 1 ≤ size_limit
  table_top =
      let q = k.tabled.rooted.one in
      let w = rw (span_told k 1 q) at (room_span k.tabled k.measured 1 q false) in
      omega (arith, table_sizes.1.root_size, weight_least _ _ _ w)

  -- so the runs can be given starts
  pub table_placeable : (firsts ends : List ℕ) → n ≤ length sizes → n ≤ length firsts
      → n ≤ length ends → Startable groups n sizes firsts ends
  table_placeable firsts ends x y z = record {
    sizes_long = x;
    firsts_long = y;
    ends_long = z;
    balanced = (told_sizes k table_sizes.1).balanced;
    top = table_top;
  }

  -- and with starts in document 01's words they are the arrangement
  pub table_arranged : (first : ℕ → ℕ) → Told (sheet_in groups n) (number_in sizes) first
      → Arranged (sheet_in groups n) (least_in spans) (greatest_in spans) first (number_in sizes)
  table_arranged first w =
      let a = table_sizes.1 in
      record { root_size = a.root_size; root_first = w.root; son_size = a.son_size; son_first = w.son }
