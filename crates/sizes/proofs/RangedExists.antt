-- What is given at the root, and at each son by what stands at smaller groups, exists and is unique. So the ranges exist.
use Prim.Native.Nat.{ℕ, ◌<◌, zero, suc}
use mathlib.Core.Path.{◌≡◌, refl, sym, ◌∙◌}
use mathlib.Core.Bool.{cond, Bool, false}
use native.Mathlib.Omega.{arith}
use native.Mathlib.Nat.{le_refl}
use borrow.Author.Tests.{ne_eqb}
use lib.Dec.{eqb}
use Rattle.laws.proofs.Cases.{compare_eq}
use Rattle.meaning.specs.Sheet.{Sheet, Group, Son}
use Rattle.meaning.specs.Tree.{Rooted, Tree}
use Rattle.meaning.proofs.SonLaws.{son_parent}
use Rattle.sizes.specs.Span.{Span}
use Rattle.sizes.specs.Ranged.{held, son_range, Ranged}

-- h and k are equal at the groups below n
abbrev pub AlikeBelow : Sheet → {A : Type 0} → (ℕ → A) → (ℕ → A) → ℕ → Type 0
AlikeBelow s h k n = (m : ℕ) → Group s m → m < n → h m ≡ k m

-- h is given at the root, and at each son g of p by `F h p g`
pub record Down (s : Sheet) {A : Type 0} (top : A) (F : (ℕ → A) → ℕ → ℕ → A) (h : ℕ → A) : Type 0 where
  pub root : h 1 ≡ top
  pub son : (p g : ℕ) → Son s p g → h g ≡ F h p g

-- what `Down` gives, by recursion, with d left
unfoldable down : Sheet → {A : Type 0} → A → ((ℕ → A) → ℕ → ℕ → A) → ℕ → ℕ → A
down s top F zero g = top
down s top F (suc d) g = cond (eqb g 1) top (F (down s top F d) (s.parent g) g)

-- a group is the root, or a son
pub root_or_son {ℓ} : {s : Sheet} {C : Type ℓ} → Rooted s → (g : ℕ) → Group s g → (g ≡ 1 → C)
    → ((p : ℕ) → Son s p g → C) → C
root_or_son {s} r g q x y =
    compare_eq g 1 x (λ n. y (s.parent g) (record { above = r.rest g q (omega arith); group = q; under = refl }))

-- where F h p g speaks of h at groups below g only
module _ {s : Sheet} {A : Type 0} (t : Tree s) (r : Rooted s) (top : A) (F : (ℕ → A) → ℕ → ℕ → A)
    (w : (h k : ℕ → A) (p g : ℕ) → Son s p g → AlikeBelow s h k g → F h p g ≡ F k p g) where
  down_root : (d : ℕ) → down s top F d 1 ≡ top
  unfolding down
  down_root zero = refl
  down_root (suc d) = refl

  down_son : (d p g : ℕ) → Son s p g → down s top F (suc d) g ≡ F (down s top F d) p g
  unfolding down
  down_son d p g k = rw (ne_eqb g 1 (omega (arith, t.before g k.group)), k.under)

  down_enough : (d e g : ℕ) → Group s g → g < d → g < e → down s top F d g ≡ down s top F e g
  down_enough zero e g q k l = absurd (omega arith)
  down_enough (suc d) zero g q k l = absurd (omega arith)
  down_enough (suc d) (suc e) g q k l =
      root_or_son r g q
      (λ o. rw o (down_root (suc d) ∙ sym (down_root (suc e))))
      (λ p j. down_son d p g j
      ∙ w _ _ p g j (λ m i u. down_enough d e m i (omega arith) (omega arith))
      ∙ sym (down_son e p g j))

  pub down_exists : (h : ℕ → A) × Down s top F h
  down_exists = (
    λ g. down s top F (suc g) g,
    record {
      root = down_root 2;
      son = λ p g k. down_son g p g k ∙ w _ _ p g k (λ m j i. down_enough g (suc m) m j i (le_refl (suc m)));
    },
  )

  down_agree : (h k : ℕ → A) → Down s top F h → Down s top F k → (n : ℕ) → AlikeBelow s h k n
  down_agree h k i j zero m q l = absurd (omega arith)
  down_agree h k i j (suc n) m q l =
      root_or_son r m q
      (λ o. rw o (i.root ∙ sym j.root))
      (λ p u. i.son p m u ∙ w h k p m u (λ x y v. down_agree h k i j n x y (omega arith)) ∙ sym (j.son p m u))

  pub down_unique : (h k : ℕ → A) → Down s top F h → Down s top F k → (g : ℕ) → Group s g → h g ≡ k g
  down_unique h k i j g q = down_agree h k i j (suc g) g q (le_refl (suc g))

-- `held` speaks of the range of p only
pub held_eq : (s : Sheet) (z : ℕ → Bool → Span) (h k : ℕ → Span) (p n : ℕ) → h p ≡ k p → held s z h p n ≡ held s z k p n
unfolding held
held_eq s z h k p zero e = e
held_eq s z h k p (suc n) e = rw (held_eq s z h k p n e)

module _ {s : Sheet} (t : Tree s) (r : Rooted s) (z : ℕ → Bool → Span) where
  range_local : (h k : ℕ → Span) (p g : ℕ) → Son s p g → AlikeBelow s h k g
      → son_range s z (held s z h p g) p g ≡ son_range s z (held s z k p g) p g
  range_local h k p g q j = rw (held_eq s z h k p g (j p (son_parent t q) (omega (arith, t.before g q.group))))

  pub ranged_exists : (R : ℕ → Span) × Ranged s z R
  ranged_exists =
      let w = down_exists t r (z 1 false) (λ R p g. son_range s z (held s z R p g) p g) range_local in
      (w.0, record { root = w.1.root; son = w.1.son })
