-- Document 01's starts, "where the previous son ended", are the starts of the formula.
use Prim.Native.Nat.{ℕ, ◌+◌, ◌-◌, min, zero, suc, ◌≤◌}
use mathlib.Core.Path.{◌≡◌, refl, ◌∙◌}
use mathlib.Core.Bool.{Bool, true, false, cond}
use native.Mathlib.Omega.{arith}
use Rattle.laws.specs.Sum.{sum}
use Rattle.laws.proofs.Cases.{split}
use Rattle.meaning.specs.Sheet.{Sheet, Group, Son}
use Rattle.meaning.specs.Tree.{Tree}
use Rattle.meaning.specs.Sons.{is_son, only}
use Rattle.meaning.specs.Arranged.{ended, first_of}
use Rattle.meaning.proofs.SonLaws.{son_of_law, son_parent}
use Rattle.sizes.specs.Balanced.{Balanced}
use Rattle.sizes.specs.Runs.{start_under, Starts}

-- the two forms of a start, w being where the previous son ended
formula : (e d c : Bool) (a z b y w : ℕ) → (e ≡ false → d ≡ true → w ≡ a + b)
    → (e ≡ false → d ≡ false → c ≡ true → w ≡ min (a + b) (a + z))
    → cond e a (cond d w (cond c (min w (a + z - y)) a)) ≡ start_under e d c a z b y
unfolding start_under
formula true d c a z b y w p q = refl
formula false true c a z b y w p q = p refl refl
formula false false true a z b y w p q = omega (arith, q refl refl refl)
formula false false false a z b y w p q = refl

module _ {s : Sheet} {f first : ℕ → ℕ} (t : Tree s) (b : Balanced s f)
    (told : (p g : ℕ) → Son s p g → first g ≡ first_of s first f p g) where
  -- under 'disjoint' the sons before n end where their counts do
  ended_apart : (p : ℕ) → s.same p ≡ false → s.disjoint p ≡ true → (n : ℕ) → n ≤ suc s.size
      → ended s first f p n ≡ first p + sum (only s p f) n
  unfolding ended sum first_of
  ended_apart p e d zero l = omega arith
  ended_apart p e d (suc n) l =
      let before = ended_apart p e d n (omega arith) in
      split
      (is_son s p n)
      (λ i. let starts = rw (e, d) at (told p n (son_of_law s p n (omega arith) i)) in rw i (omega arith))
      (λ i. rw i (omega arith))

  -- under 'cover' alone too, or at the parent's end
  ended_lap : (p : ℕ) → s.same p ≡ false → s.disjoint p ≡ false → s.cover p ≡ true → (n : ℕ) → n ≤ suc s.size
      → ended s first f p n ≡ min (first p + sum (only s p f) n) (first p + f p)
  unfolding ended sum first_of
  ended_lap p e d c zero l = omega arith
  ended_lap p e d c (suc n) l =
      let before = ended_lap p e d c n (omega arith) in
      split
      (is_son s p n)
      (λ i.
      let k = son_of_law s p n (omega arith) i in
      let starts = rw (e, d, c) at (told p n k) in
      rw i (omega (arith, (b.at p (son_parent t k)).inside n k)))
      (λ i. rw i (omega arith))

  pub told_starts : ((g : ℕ) → Group s g → s.parent g ≡ 0 → 1 ≤ first g) → Starts s f first
  unfolding first_of
  told_starts top = record {
    top = top;
    under = λ p g k.
        told p g k
        ∙ formula (s.same p) (s.disjoint p) (s.cover p) (first p) (f p) (sum (only s p f) g) (f g) (ended s first f p g)
        (λ e d. ended_apart p e d g (omega arith))
        (λ e d c. ended_lap p e d c g (omega arith));
  }
