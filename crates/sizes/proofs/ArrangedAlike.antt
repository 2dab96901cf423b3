-- An arrangement is settled by values at the groups: runs and bounds that agree there are both arrangements.
use Prim.Native.Nat.{ℕ, zero, suc, ◌≤◌}
use mathlib.Core.Path.{◌≡◌, sym, ◌∙◌, refl}
use native.Mathlib.Omega.{arith}
use Rattle.laws.proofs.Cases.{split}
use Rattle.meaning.specs.Sheet.{Sheet, Group, Son, Top}
use Rattle.meaning.specs.Tree.{Tree, Rooted}
use Rattle.meaning.specs.Sons.{is_son}
use Rattle.meaning.specs.Arranged.{left_for, size_of, ended, first_of, Arranged}
use Rattle.meaning.proofs.SonLaws.{son_of_law, son_parent, only_eq, sons_eq}

module _ {s : Sheet} (t : Tree s) {first size first' size' L L' : ℕ → ℕ} {U U' : ℕ → Top}
    (a : (g : ℕ) → Group s g → first g ≡ first' g) (b : (g : ℕ) → Group s g → size g ≡ size' g)
    (c : (g : ℕ) → Group s g → L g ≡ L' g) (d : (g : ℕ) → Group s g → U g ≡ U' g) where
  size_of_eq : (p g : ℕ) → Son s p g → size_of s L U size p g ≡ size_of s L' U' size' p g
  unfolding size_of left_for
  size_of_eq p g k =
      let sums = only_eq s p size size' g (omega (arith, k.group.last)) (λ j o. b j o.group) in
      let lower = only_eq s p L L' (suc g) (omega (arith, k.group.last)) (λ j o. c j o.group) in
      let all = sons_eq s p L L' (λ j o. c j o.group) in
      rw (b p (son_parent t k), sums, lower, all, c g k.group, d g k.group)

  ended_alike : (p n : ℕ) → Group s p → n ≤ suc s.size → ended s first size p n ≡ ended s first' size' p n
  unfolding ended
  ended_alike p zero q l = a p q
  ended_alike p (suc n) q l =
      split (is_son s p n)
      (λ e. let o = son_of_law s p n (omega arith) e in rw (e, a n o.group, b n o.group))
      (λ e. rw e (ended_alike p n q (omega arith)))

  first_of_eq : (p g : ℕ) → Son s p g → first_of s first size p g ≡ first_of s first' size' p g
  unfolding first_of
  first_of_eq p g k =
      let q = son_parent t k in
      rw (a p q, b p q, b g k.group, ended_alike p g q (omega (arith, k.group.last)))

  pub arranged_alike : Rooted s → Arranged s L U first size → Arranged s L' U' first' size'
  arranged_alike r w = record {
    root_size = sym (b 1 r.one) ∙ w.root_size ∙ c 1 r.one;
    root_first = sym (a 1 r.one) ∙ w.root_first;
    son_size = λ p g k. sym (b g k.group) ∙ (w.son_size p g k ∙ size_of_eq p g k);
    son_first = λ p g k. sym (a g k.group) ∙ (w.son_first p g k ∙ first_of_eq p g k);
  }

-- the same bounds
pub arranged_eq : {s : Sheet} → Tree s → {first size first' size' : ℕ → ℕ} → ((g : ℕ) → Group s g → first g ≡ first' g)
    → ((g : ℕ) → Group s g → size g ≡ size' g) → {L : ℕ → ℕ} {U : ℕ → Top} → Rooted s → Arranged s L U first size
    → Arranged s L U first' size'
arranged_eq t a b r w = arranged_alike t a b (λ g q. refl) (λ g q. refl) r w
