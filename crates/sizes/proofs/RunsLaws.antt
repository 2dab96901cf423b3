-- Laws of runs: sizes that are balanced are shown by runs with marks, and these fit.
use Prim.Native.Nat.{ℕ, ◌+◌, ◌≤◌, ◌<◌, zero, suc, ◌-◌}
use mathlib.Core.Path.{◌≡◌, refl}
use mathlib.Core.Bool.{true, Bool, false, cond, ◌&&◌}
use native.Mathlib.Omega.{arith}
use native.Mathlib.Nat.{le_refl}
use borrow.Author.Tests.{ltb-true, leb-true, lt-ltb, le-leb, eqb-true, lt-leb, eqb-false, ne_eqb}
use lib.Dec.{leb, ltb, eqb}
use Rattle.laws.specs.Sum.{sum, bit}
use Rattle.laws.proofs.Cases.{and_true, compare_le, compare_eq, split}
use Rattle.laws.proofs.SumLaws.{sum_eq, sum_but, sum_run, sum_term}
use Rattle.meaning.specs.Sheet.{Sheet, Group, Son}
use Rattle.meaning.specs.Tree.{Tree}
use Rattle.meaning.specs.Sons.{only}
use Rattle.meaning.specs.Sets.{count}
use Rattle.meaning.specs.Fits.{Meets, groups_of, Fits}
use Rattle.meaning.specs.Shown.{in_run, shown, above}
use Rattle.meaning.proofs.SonLaws.{son_parent, sons_prefix, only_prefix, sons_locate}
use Rattle.sizes.specs.Balanced.{Balanced, Choice}
use Rattle.sizes.specs.Runs.{start_under, Starts, start_at}
use Rattle.sizes.proofs.Members.{balanced_meets}
use Rattle.sizes.proofs.RenumberedLaws.{numbered_distinct}

-- a run as numbers
pub run_of : (a c m : ℕ) → in_run a c m ≡ true → (a ≤ m) × (m < a + c)
unfolding in_run
run_of a c m h = let w = and_true (leb a m) (ltb m (a + c)) h in (leb-true a m w.0, ltb-true m (a + c) w.1)

pub in_run_law : (a c m : ℕ) → a ≤ m → m < a + c → in_run a c m ≡ true
unfolding in_run
in_run_law a c m x y = rw (le-leb a m x, lt-ltb m (a + c) y)

-- a son's run is part of its parent's
within : (e d c : Bool) (a z b y : ℕ) → (e ≡ true → y ≡ z) → y ≤ z → (d ≡ true → b + y ≤ z)
    → (a ≤ start_under e d c a z b y) × (start_under e d c a z b y + y ≤ a + z)
unfolding start_under
within true d c a z b y p q r = omega (arith, p refl)
within false true c a z b y p q r = omega (arith, r refl)
within false false true a z b y p q r = omega arith
within false false false a z b y p q r = omega arith

-- where the sons cover, each place of the parent's run is in the run of the son in whose part it lies
reached : (e d : Bool) (a z b y x : ℕ) → (e ≡ true → y ≡ z) → y ≤ z → b ≤ x → x < b + y → x < z
    → (start_under e d true a z b y ≤ a + x) × (a + x < start_under e d true a z b y + y)
unfolding start_under
reached true d a z b y x p q k l m = omega (arith, p refl)
reached false true a z b y x p q k l m = omega arith
reached false false a z b y x p q k l m = omega arith

-- the runs of two sons of a 'disjoint' group, the second later, share no number
parted : (e c : Bool) (a z b y v w m : ℕ) → (e ≡ true → (y ≡ z) × (w ≡ z)) → b + y ≤ v → v + w ≤ z
    → m < start_under e true c a z b y + y → start_under e true c a z v w ≤ m → m < start_under e true c a z v w + w → ⊥
unfolding start_under
parted true c a z b y v w m p q r i j k = omega (arith, p refl)
parted false c a z b y v w m p q r i j k = omega arith

one_of : {s : Sheet} (x : Bool) (M R : ℕ → Bool) → Meets s M → Meets s R → Meets s (λ g. cond x (M g) (R g))
one_of true M R m r = m
one_of false M R m r = r

module _ {s : Sheet} {f st : ℕ → ℕ} (t : Tree s) (b : Balanced s f) (h : Starts s f st) where
  pub run_inside : {p g : ℕ} → Son s p g → (st p ≤ st g) × (st g + f g ≤ st p + f p)
  run_inside {p} {g} k =
      let r = b.at p (son_parent t k) in
      rw (h.under p g k)
      (within (s.same p) (s.disjoint p) (s.cover p) (st p) (f p) (sum (only s p f) g) (f g)
      (r.equal g k) (r.inside g k) (λ d. omega (arith, r.apart d, sons_prefix f k)))

  -- every run starts at 1 or later
  start_first : (d g : ℕ) → g ≤ d → Group s g → 1 ≤ st g
  start_first zero g l q = absurd (omega arith)
  start_first (suc d) g l q =
      compare_eq (s.parent g) 0 (h.top g q)
      (λ n. let k : Son s (s.parent g) g = record { above = omega arith; group = q; under = refl } in
      omega (arith, run_inside k, start_first d (s.parent g) (omega (arith, t.before g q)) (son_parent t k)))

  pub runs_first : (g : ℕ) → Group s g → 1 ≤ st g
  runs_first g q = start_first g g (le_refl g) q

  -- under a 'disjoint' group a later son's run shares no number with an earlier one's
  later_parted : {p g i : ℕ} (m : ℕ) → Son s p g → Son s p i → s.disjoint p ≡ true → g < i → m < st g + f g
      → st i ≤ m → m < st i + f i → ⊥
  later_parted {p} {g} {i} m k l d n x y z =
      let r = b.at p (son_parent t k) in
      let u = rw d at (h.under p g k) in
      let v = rw d at (h.under p i l) in
      parted
      (s.same p)
      (s.cover p)
      (st p)
      (f p)
      (sum (only s p f) g)
      (f g)
      (sum (only s p f) i)
      (f i)
      m
      (λ e. (r.equal g k e, r.equal i l e))
      (only_prefix f i k n)
      (omega (arith, r.apart d, sons_prefix f l))
      (omega arith)
      (omega arith)
      (omega arith)

  -- a place of a 'cover' group's run is in the run of one of its sons
  some_son : (p : ℕ) → Group s p → s.cover p ≡ true → (m : ℕ) → st p ≤ m → m < st p + f p
      → (g : ℕ) × Son s p g × (st g ≤ m) × (m < st g + f g)
  some_son p q c m x y =
      let r = b.at p q in
      let w = sons_locate s p f (m - st p) (omega (arith, r.covered c)) in
      let g = w.0 in
      let v = reached
      (s.same p)
      (s.disjoint p)
      (st p)
      (f p)
      (sum (only s p f) g)
      (f g)
      (m - st p)
      (r.equal g w.1)
      (r.inside g w.1)
      w.2
      w.3
      (omega arith) in
      let u = rw c at (h.under p g w.1) in
      (g, w.1, omega (arith, u, v), omega (arith, u, v))

  -- a number meets the rules in the groups whose runs have it
  pub runs_meet : (m : ℕ) → Meets s (λ g. in_run (st g) (f g) m)
  runs_meet m = record {
    inside = λ p g k x.
        let w = run_of (st g) (f g) m x in
        let i = run_inside k in
        in_run_law (st p) (f p) m (omega arith) (omega arith);
    equal = λ p g k e x.
        let w = run_of (st p) (f p) m x in
        let i = run_inside k in
        let c = (b.at p (son_parent t k)).equal g k e in
        in_run_law (st g) (f g) m (omega arith) (omega arith);
    covered = λ p q c x.
        let w = run_of (st p) (f p) m x in
        let v = some_son p q c m w.0 w.1 in
        (v.0, v.1, in_run_law (st v.0) (f v.0) m v.2 v.3);
    apart = λ p g i k l d x y.
        let w = run_of (st g) (f g) m x in
        let v = run_of (st i) (f i) m y in
        compare_eq
        g
        i
        (λ e. e)
        (λ n. compare_le
        g
        i
        (λ o. absurd (later_parted m k l d (omega arith) w.1 v.0 v.1))
        (λ o. absurd (later_parted m l k d (omega arith) v.1 w.0 w.1)));
  }

  -- and so does every member shown
  pub shown_meets : (M : ℕ → Bool) → Balanced s (λ g. bit (M g)) → (n i : ℕ) → Meets s (groups_of (shown st f M n) i)
  shown_meets M o n i = one_of (eqb i 0) M (λ g. in_run (st g) (f g) i) (balanced_meets t o) (runs_meet i)

-- the count of a group that is shown
pub shown_count_law : (st f : ℕ → ℕ) (M : ℕ → Bool) (n g : ℕ) → 1 ≤ st g → st g + f g ≤ n
    → count (shown st f M n) g ≡ f g + bit (M g)
unfolding count in_run
shown_count_law st f M n g x y =
    let all : ℕ → ℕ = λ i. bit (cond (eqb i 0) (M g) (in_run (st g) (f g) i)) in
    let run : ℕ → ℕ = λ i. bit (leb (st g) i && ltb i (st g + f g)) in
    let parts = sum_but all n 0 (omega arith) in
    let same = sum_eq (λ i. cond (eqb i 0) 0 (all i)) run n
    (λ i l. split (eqb i 0) (λ e. rw (e, lt-leb (st g) i (omega (arith, eqb-true i 0 e)))) (λ e. rw e)) in
    omega (arith, sum_run (st g) (st g + f g) n (omega arith))

pub above_runs : (size : ℕ) (st f : ℕ → ℕ) (g : ℕ) → g ≤ size → st g + f g ≤ above size st f
unfolding above
above_runs size st f g l = omega (arith, sum_term (λ i. st i + f i) (suc size) g (omega arith))

-- A choice, and starts for its numbers, show sets that fit.
pub shown_fits : {s : Sheet} {may : ℕ → Bool → Bool} {f st : ℕ → ℕ} {M : ℕ → Bool} → Tree s → Choice s may f M → Starts s f st
    → (n : ℕ) → ((g : ℕ) → Group s g → st g + f g ≤ n) → Fits s (shown st f M n)
shown_fits {s} {may} {f} {st} {M} t c h n l = record {
  distinct = numbered_distinct _ _;
  rules = λ i k. shown_meets t c.others h M c.one n i;
  least = λ g q. rw (at g q) (c.least g q);
  most = λ g q. rw (at g q) (c.most g q);
}
  where
    at : (g : ℕ) → Group s g → count (shown st f M n) g ≡ f g + bit (M g)
    at g q = shown_count_law st f M n g (runs_first t c.others h g q) (l g q)

-- Starts exist: by recursion on the number of parents above.
unfoldable pub starts_from : Sheet → (ℕ → ℕ) → ℕ → ℕ → ℕ
starts_from s f zero g = 1
starts_from s f (suc d) g = cond (eqb (s.parent g) 0) 1 (start_at s f (starts_from s f d) (s.parent g) g)

starts_from_enough : {s : Sheet} (f : ℕ → ℕ) → Tree s → (d e g : ℕ) → Group s g → g ≤ d → g ≤ e
    → starts_from s f d g ≡ starts_from s f e g
unfolding starts_from
starts_from_enough f t zero e g q k l = absurd (omega arith)
starts_from_enough f t (suc d) zero g q k l = absurd (omega arith)
starts_from_enough {s} f t (suc d) (suc e) g q k l =
    split
    (eqb (s.parent g) 0)
    (λ x. rw x)
    (λ x. let b = t.before g q in
    let y : s.parent g ≡ 0 → ⊥ = eqb-false _ _ x in
    rw (x, starts_from_enough f t d e (s.parent g) (omega arith) (omega arith) (omega arith)))

starts_from_top : (s : Sheet) (f : ℕ → ℕ) (d g : ℕ) → s.parent g ≡ 0 → starts_from s f (suc d) g ≡ 1
unfolding starts_from
starts_from_top s f d g e = rw e

starts_from_under : {s : Sheet} (f : ℕ → ℕ) (d p g : ℕ) → Son s p g
    → starts_from s f (suc d) g ≡ start_at s f (starts_from s f d) p g
unfolding starts_from
starts_from_under f d p g k = rw (k.under, ne_eqb p 0 (omega arith))

unfoldable pub starts : Sheet → (ℕ → ℕ) → ℕ → ℕ
starts s f = starts_from s f (suc s.size)

pub starts_are : {s : Sheet} → Tree s → (f : ℕ → ℕ) → Starts s f (starts s f)
unfolding starts
starts_are {s} t f = record {
  top = λ g q e. rw (starts_from_top s f s.size g e) (le_refl 1);
  under = λ p g k.
      let q = son_parent t k in
      rw (starts_from_enough f t (suc s.size) s.size p q (omega arith) (omega arith))
      (starts_from_under f s.size p g k);
}

-- A choice shows sets that fit, with any starts, and with those that exist.
pub shown_fits_above : {s : Sheet} {may : ℕ → Bool → Bool} {f st : ℕ → ℕ} {M : ℕ → Bool} → Tree s → Choice s may f M
    → Starts s f st → Fits s (shown st f M (above s.size st f))
shown_fits_above {s} {f = f} {st = st} t c h = shown_fits t c h _ (λ g q. above_runs s.size st f g q.last)

pub choice_fits : {s : Sheet} {may : ℕ → Bool → Bool} {f : ℕ → ℕ} {M : ℕ → Bool} → Tree s → Choice s may f M
    → Fits s (shown (starts s f) f M (above s.size (starts s f) f))
choice_fits {f = f} t c = shown_fits_above t c (starts_are t f)
