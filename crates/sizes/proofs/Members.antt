-- A member meets the rules exactly when its 0s and 1s are balanced; balanced numbers add up. So the counts of sets whose
-- members all meet the rules are balanced, also without one of the members.
use Prim.Native.Nat.{ℕ, suc, ◌≤◌, ◌<◌, zero-le, ◌+◌, zero}
use mathlib.Core.Path.{◌≡◌, ◌∙◌, refl}
use mathlib.Core.Bool.{Bool, true, cond}
use native.Mathlib.Omega.{arith}
use native.Mathlib.Nat.{le_antisymm, le_refl}
use lib.Dec.{eqb}
use Rattle.laws.specs.Sum.{bit, sum}
use Rattle.laws.proofs.Cases.{split}
use Rattle.laws.proofs.SumLaws.{bit_true, bit_le, sum_one, bit_le_true, bit_eq, true_bit, bit_most, sum_but}
use Rattle.meaning.specs.Sheet.{Sheet, Group}
use Rattle.meaning.specs.Tree.{Tree}
use Rattle.meaning.specs.Sons.{is_son, only, sons}
use Rattle.meaning.specs.Sets.{Sets, count}
use Rattle.meaning.specs.Fits.{Meets, groups_of}
use Rattle.meaning.proofs.SonLaws.{son_of_law, cover_bits, son_parent, sons_locate, sons_one, sons_zero, sons_add, sons_eq}
use Rattle.sizes.specs.Balanced.{Balanced}

-- two sons of a 'disjoint' group that have a member are one son
one_son : {s : Sheet} {M : ℕ → Bool} → Meets s M → (p : ℕ) → s.disjoint p ≡ true → (g h : ℕ) → g < h → h < suc s.size
    → 1 ≤ only s p (λ i. bit (M i)) g → 1 ≤ only s p (λ i. bit (M i)) h → ⊥
one_son {s} {M} m p d g h l n x y =
    split
    (is_son s p g)
    (λ e. split (is_son s p h) (λ f. both e f (rw e at x) (rw f at y)) (λ f. let z = rw f at y in omega arith))
    (λ e. let z = rw e at x in omega arith)
  where
    both : is_son s p g ≡ true → is_son s p h ≡ true → 1 ≤ bit (M g) → 1 ≤ bit (M h) → ⊥
    both e f u v =
        let j = son_of_law s p g (omega arith) e in
        let k = son_of_law s p h (omega arith) f in
        omega (arith, m.apart p g h j k d (bit_true (M g) u) (bit_true (M h) v))

-- one member
pub meets_balanced : {s : Sheet} {M : ℕ → Bool} → Meets s M → Balanced s (λ g. bit (M g))
unfolding sons
meets_balanced {s} {M} m = record {
  at = λ p q. record {
    inside = λ g k. bit_le (M g) (M p) (m.inside p g k);
    equal = λ g k e. le_antisymm (bit_le (M g) (M p) (m.inside p g k)) (bit_le (M p) (M g) (m.equal p g k e));
    apart = λ d. sum_one
        (only s p (λ g. bit (M g)))
        (bit (M p))
        (suc s.size)
        (λ g l. split
        (is_son s p g)
        (λ e. rw e (bit_le (M g) (M p) (m.inside p g (son_of_law s p g (omega arith) e))))
        (λ e. rw e zero-le))
        (one_son m p d);
    covered = cover_bits m p q;
  };
}

pub balanced_meets : {s : Sheet} {M : ℕ → Bool} → Tree s → Balanced s (λ g. bit (M g)) → Meets s M
balanced_meets {s} {M} t b = record {
  inside = λ p g k. bit_le_true (M g) (M p) ((b.at p (son_parent t k)).inside g k);
  equal = λ p g k e x. bit_eq (M g) (M p) ((b.at p (son_parent t k)).equal g k e) ∙ x;
  covered = λ p q c x.
      let w = sons_locate s p (λ g. bit (M g)) 0 (omega (arith, (b.at p q).covered c, true_bit x)) in
      (w.0, w.1, bit_true (M w.0) (omega arith));
  apart = λ p g h k l d x y. sons_one
      (λ g. bit (M g))
      k
      l
      (omega (arith, (b.at p (son_parent t k)).apart d, bit_most (M p)))
      (omega (arith, true_bit x))
      (omega (arith, true_bit y));
}

-- balanced numbers add up
pub balanced_zero : {s : Sheet} → Balanced s (λ g. 0)
balanced_zero {s} = record {
  at = λ p q. record {
    inside = λ g k. zero-le;
    equal = λ g k e. refl;
    apart = λ d. omega (arith, sons_zero s p (λ g. 0) (λ g k. refl));
    covered = λ c. zero-le;
  };
}

pub balanced_add : {s : Sheet} {f h : ℕ → ℕ} → Balanced s f → Balanced s h → Balanced s (λ g. f g + h g)
balanced_add {s} {f} {h} a b = record {
  at = λ p q. record {
    inside = λ g k. omega (arith, (a.at p q).inside g k, (b.at p q).inside g k);
    equal = λ g k e. omega (arith, (a.at p q).equal g k e, (b.at p q).equal g k e);
    apart = λ d. omega (arith, sons_add s p f h, (a.at p q).apart d, (b.at p q).apart d);
    covered = λ c. omega (arith, sons_add s p f h, (a.at p q).covered c, (b.at p q).covered c);
  };
}

pub balanced_sum : {s : Sheet} (f : ℕ → ℕ → ℕ) (n : ℕ) → ((i : ℕ) → i < n → Balanced s (f i))
    → Balanced s (λ g. sum (λ i. f i g) n)
unfolding sum
balanced_sum f zero b = balanced_zero
balanced_sum f (suc n) b = balanced_add (balanced_sum f n (λ i l. b i (omega arith))) (b n (le_refl (suc n)))

-- only the numbers at groups matter
pub balanced_eq : {s : Sheet} {f h : ℕ → ℕ} → ((g : ℕ) → Group s g → f g ≡ h g) → Balanced s f → Balanced s h
balanced_eq {s} {f} {h} e b = record {
  at = λ p q.
      let same = sons_eq s p f h (λ g k. e g k.group) in record {
        inside = λ g k. omega (arith, (b.at p q).inside g k, e g k.group, e p q);
        equal = λ g k x. omega (arith, (b.at p q).equal g k x, e g k.group, e p q);
        apart = λ d. omega (arith, (b.at p q).apart d, e p q);
        covered = λ c. omega (arith, (b.at p q).covered c, e p q);
      };
}

-- counts
pub count_balanced : {X : Type 0} {s : Sheet} (A : Sets X) → ((i : ℕ) → i < A.bound → Meets s (groups_of A i))
    → Balanced s (count A)
unfolding count
count_balanced A m = balanced_sum (λ i g. bit (groups_of A i g)) A.bound (λ i l. meets_balanced (m i l))

-- the number of members other than the one numbered j in the set of group g
unfoldable pub others : {X : Type 0} → Sets X → ℕ → ℕ → ℕ
others A j g = sum (λ i. cond (eqb i j) 0 (bit (groups_of A i g))) A.bound

pub others_count : {X : Type 0} (A : Sets X) (j g : ℕ) → j < A.bound → count A g ≡ others A j g + bit (groups_of A j g)
unfolding count others
others_count A j g l = sum_but (λ i. bit (groups_of A i g)) A.bound j l

pub others_balanced : {X : Type 0} {s : Sheet} (A : Sets X) (j : ℕ) → ((i : ℕ) → i < A.bound → Meets s (groups_of A i))
    → Balanced s (others A j)
unfolding others
others_balanced A j m =
    balanced_sum (λ i g. cond (eqb i j) 0 (bit (groups_of A i g))) A.bound
    (λ i l. split (eqb i j) (λ e. rw e balanced_zero) (λ e. rw e (meets_balanced (m i l))))
