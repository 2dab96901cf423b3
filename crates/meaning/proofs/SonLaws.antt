-- Laws of the sons of a group and of sums over them.
use Prim.Native.Nat.{ℕ, ◌≤◌, zero-le, suc, ◌+◌, ◌<◌, zero}
use mathlib.Core.Path.{◌≡◌, sym, ◌∙◌, refl}
use mathlib.Core.Bool.{true, ◌&&◌, false, Bool}
use native.Mathlib.Omega.{arith}
use native.Mathlib.Nat.{le_refl}
use borrow.Author.Tests.{ltb-true, eqb-true, lt-ltb, eq-eqb}
use lib.Dec.{ltb, eqb}
use Rattle.laws.specs.Sum.{sum, bit}
use Rattle.laws.proofs.Cases.{and_true, not_true_false, split, compare_le, compare_eq}
use Rattle.laws.proofs.SumLaws.{sum_le, sum_gap, sum_eq, sum_term, sum_prefix, locate, sum_add, sum_zero, true_bit}
use Rattle.meaning.specs.Sheet.{Sheet, Son, Group}
use Rattle.meaning.specs.Tree.{Tree, Rooted}
use Rattle.meaning.specs.Sons.{is_son, only, sons}
use Rattle.meaning.specs.Fits.{Meets}

-- a group whose test says that it is a son, and a son's test
pub son_of_law : (s : Sheet) (p g : ℕ) → g ≤ s.size → is_son s p g ≡ true → Son s p g
unfolding is_son
son_of_law s p g l e =
    let a = and_true (ltb 0 p && ltb 0 g) (eqb (s.parent g) p) e in
    let b = and_true (ltb 0 p) (ltb 0 g) a.0 in
    record {
      above = ltb-true 0 p b.0;
      group = record { first = ltb-true 0 g b.1; last = l };
      under = eqb-true (s.parent g) p a.1;
    }

pub son_is : {s : Sheet} {p g : ℕ} → Son s p g → is_son s p g ≡ true
unfolding is_son
son_is {s} {p} {g} k = rw (lt-ltb 0 p k.above, lt-ltb 0 g k.group.first, eq-eqb (s.parent g) p k.under)

pub son_only : {s : Sheet} {p g : ℕ} (f : ℕ → ℕ) → Son s p g → only s p f g ≡ f g
son_only f k = rw (son_is k)

-- in a tree the parent of a group is a group, or 0
pub son_parent : {s : Sheet} {p g : ℕ} → Tree s → Son s p g → Group s p
son_parent {s} {p} {g} t k = omega (arith, t.before g k.group)

-- number 0 is nobody's son, and the root neither
pub no_son : (s : Sheet) (p : ℕ) → is_son s p 0 ≡ false
no_son s p = not_true_false (is_son s p 0) (λ e. omega (arith, (son_of_law s p 0 zero-le e).group.first))

pub root_no_son : {s : Sheet} → Rooted s → (p : ℕ) → is_son s p 1 ≡ false
root_no_son {s} r p =
    not_true_false (is_son s p 1)
    (λ e. let k = son_of_law s p 1 (omega (arith, r.one)) e in omega (arith, k.above, k.under, r.top))

-- no son of a group comes before it
pub no_son_before : {s : Sheet} → Tree s → (p g : ℕ) → g ≤ p → p ≤ s.size → is_son s p g ≡ false
no_son_before {s} t p g l h =
    not_true_false (is_son s p g) (λ e. let k = son_of_law s p g (omega arith) e in omega (arith, t.before g k.group))

-- a group is the son of its parent alone
pub one_parent : {s : Sheet} {p g : ℕ} → Son s p g → (q : ℕ) → (q ≡ p → ⊥) → is_son s q g ≡ false
one_parent {s} {p} {g} k q n =
    not_true_false (is_son s q g) (λ e. n (sym (son_of_law s q g k.group.last e).under ∙ k.under))

-- the sum over the sons of p, term by term
pub sons_le : (s : Sheet) (p : ℕ) (f h : ℕ → ℕ) → ((g : ℕ) → Son s p g → f g ≤ h g) → sons s p f ≤ sons s p h
unfolding sons
sons_le s p f h q =
    sum_le _ _ _ (λ g l. split (is_son s p g) (λ e. rw e (q g (son_of_law s p g (omega arith) e))) (λ e. rw e zero-le))

-- the terms of the sons from n on, where one term is not above the other
pub sons_gap : (s : Sheet) (p : ℕ) (f h : ℕ → ℕ) (n : ℕ) → n ≤ suc s.size → ((g : ℕ) → Son s p g → f g ≤ h g)
    → sum (only s p h) n + sons s p f ≤ sons s p h + sum (only s p f) n
unfolding sons
sons_gap s p f h n l q =
    sum_gap (only s p f) (only s p h) n (suc s.size)
    (λ g k. split (is_son s p g) (λ e. rw e (q g (son_of_law s p g (omega arith) e))) (λ e. rw e zero-le)) l

-- the sum over the sons below n, term by term
pub only_eq : (s : Sheet) (p : ℕ) (f h : ℕ → ℕ) (n : ℕ) → n ≤ suc s.size → ((g : ℕ) → Son s p g → f g ≡ h g)
    → sum (only s p f) n ≡ sum (only s p h) n
only_eq s p f h n l q =
    sum_eq _ _ _ (λ g k. split (is_son s p g) (λ e. rw e (q g (son_of_law s p g (omega arith) e))) (λ e. rw e))

pub sons_eq : (s : Sheet) (p : ℕ) (f h : ℕ → ℕ) → ((g : ℕ) → Son s p g → f g ≡ h g) → sons s p f ≡ sons s p h
unfolding sons
sons_eq s p f h q = only_eq s p f h (suc s.size) (le_refl _) q

-- a son's term is at most the sum over the sons
pub sons_term : {s : Sheet} {p g : ℕ} (f : ℕ → ℕ) → Son s p g → f g ≤ sons s p f
unfolding sons
sons_term {s} {p} {g} f k = rw (son_only f k) at (sum_term (only s p f) (suc s.size) g (omega arith))

-- the sons below a son, with that son, are at most the sum over the sons
pub sons_prefix : {s : Sheet} {p g : ℕ} (f : ℕ → ℕ) → Son s p g → sum (only s p f) g + f g ≤ sons s p f
unfolding sons
sons_prefix {s} {p} {g} f k = rw (son_only f k) at (sum_prefix (only s p f) (suc s.size) g (omega arith))

-- a son's term is at most the sum over the sons below a later number
pub only_prefix : {s : Sheet} {p g : ℕ} (f : ℕ → ℕ) (n : ℕ) → Son s p g → g < n
    → sum (only s p f) g + f g ≤ sum (only s p f) n
only_prefix {s} {p} {g} f n k l = rw (son_only f k) at (sum_prefix (only s p f) n g l)

-- the son in whose part of the sum a number lies
pub sons_locate : (s : Sheet) (p : ℕ) (f : ℕ → ℕ) (x : ℕ) → x < sons s p f
    → (g : ℕ) × Son s p g × (sum (only s p f) g ≤ x) × (x < sum (only s p f) g + f g)
unfolding sons
sons_locate s p f x l =
    let w = locate (only s p f) (suc s.size) x l in
    split (is_son s p w.0)
    (λ e. (w.0, son_of_law s p w.0 (omega arith) e, w.2, rw e at w.3))
    (λ e. absurd (let z = rw e at w.3 in omega arith))

-- the sum over the sons of a sum of two
pub sons_add : (s : Sheet) (p : ℕ) (f h : ℕ → ℕ) → sons s p (λ g. f g + h g) ≡ sons s p f + sons s p h
unfolding sons
sons_add s p f h =
    sum_eq _ (λ g. only s p f g + only s p h g) _ (λ g l. split (is_son s p g) (λ e. rw e) (λ e. rw e))
    ∙ sum_add (only s p f) (only s p h) (suc s.size)

pub sons_zero : (s : Sheet) (p : ℕ) (f : ℕ → ℕ) → ((g : ℕ) → Son s p g → f g ≡ 0) → sons s p f ≡ 0
unfolding sons
sons_zero s p f q =
    sum_zero _ _ (λ g l. split (is_son s p g) (λ e. rw e (q g (son_of_law s p g (omega arith) e))) (λ e. rw e))

-- the sum over the sons of a sum
pub sons_sum : (s : Sheet) (p : ℕ) (f : ℕ → ℕ → ℕ) (n : ℕ) → sons s p (λ g. sum (λ i. f i g) n) ≡ sum (λ i. sons s p (f i)) n
unfolding sum
sons_sum s p f zero = sons_zero s p (λ g. 0) (λ g k. refl)
sons_sum s p f (suc n) = omega (arith, sons_add s p (λ g. sum (λ i. f i g) n) (f n), sons_sum s p f n)

-- where the sum over the sons is at most 1, there is at most one son that is not 0
pub sons_one : {s : Sheet} {p g h : ℕ} (f : ℕ → ℕ) → Son s p g → Son s p h → sons s p f ≤ 1 → 1 ≤ f g → 1 ≤ f h → g ≡ h
sons_one {s} {p} {g} {h} f j k l x y =
    compare_eq g h (λ e. e)
    (λ n. compare_le g h
    (λ o. absurd (omega (arith, sons_prefix f k, only_prefix f h j (omega arith))))
    (λ o. absurd (omega (arith, sons_prefix f j, only_prefix f g k (omega arith)))))

-- a member of a 'cover' group and its sons, as bits
pub cover_bits : {s : Sheet} {M : ℕ → Bool} → Meets s M → (p : ℕ) → Group s p → s.cover p ≡ true
    → bit (M p) ≤ sons s p (λ g. bit (M g))
cover_bits {M = M} m p q e =
    split (M p)
    (λ x. let c = m.covered p q e x in rw x (omega (arith, sons_term (λ g. bit (M g)) c.1, true_bit c.2)))
    (λ x. rw x zero-le)
