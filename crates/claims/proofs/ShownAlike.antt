-- Sets that agree at every number up to the size of a sheet fit it alike and answer the same questions: what a table shows and
-- what is read back from the bytes of a reply are the same sets.
use Prim.Native.Nat.{ℕ, zero, suc, ◌≤◌}
use mathlib.Core.Path.{◌≡◌, refl, sym, ap, ◌∙◌, subst}
use mathlib.Core.Bool.{Bool}
use mathlib.Core.List.Memᴰ
use mathlib.Core.List.{List, [], ◌∷◌}
use native.Mathlib.Omega.{arith}
use Rattle.laws.specs.Sum.{bit}
use Rattle.laws.proofs.SumLaws.{sum_eq}
use Rattle.meaning.specs.Sheet.{Sheet, Son}
use Rattle.meaning.specs.Tree.{Tree}
use Rattle.meaning.specs.Sets.{numbered, count}
use Rattle.meaning.specs.Fits.{Meets, Fits}
use Rattle.meaning.specs.Claim.{Claim, counted, within, separate, named, union, count_named, Says}
use Rattle.meaning.specs.Place.{every, Question, all_say, some_place}
use Rattle.meaning.specs.Shown.{shown, above}
use Rattle.meaning.proofs.SonLaws.{son_parent}
use Rattle.sizes.specs.Witness.{ShownWitness}
use Rattle.questions.proofs.GroupsLaws.{AllUpTo}
use Rattle.claims.proofs.NamedLaws.{SpeaksUpTo}

module _ (n m : ℕ) (h k : ℕ → ℕ → Bool) (e : (g : ℕ) → g ≤ m → (x : ℕ) → h g x ≡ k g x) where
  named_alike : (g : ℕ) → g ≤ m → (x : ℕ) → named (numbered n h) g x ≡ named (numbered n k) g x
  named_alike zero l x = refl
  named_alike (suc g) l x = e (suc g) l x

  union_alike : (l : List ℕ) → AllUpTo m l → (x : ℕ) → union (numbered n h) l x ≡ union (numbered n k) l x
  union_alike [] a x = refl
  union_alike (g ∷ l) a x =
      rw (named_alike g (a g (Memᴰ.head refl)) x, union_alike l (λ j w. a j (Memᴰ.tail w)) x)

  every_alike : (l : List ℕ) → AllUpTo m l → (x : ℕ) → every (numbered n h) l x ≡ every (numbered n k) l x
  every_alike [] a x = refl
  every_alike (g ∷ l) a x =
      rw (named_alike g (a g (Memᴰ.head refl)) x, every_alike l (λ j w. a j (Memᴰ.tail w)) x)

  says_alike : (c : Claim) → SpeaksUpTo m (all_say c) → Says c (numbered n k) → Says c (numbered n h)
  unfolding count_named
  says_alike (counted g lo hi) a w = rw (sum_eq _ _ n (λ i q. ap bit (named_alike g a i))) w
  says_alike (within l r) a w = λ i q x. union_alike r a.1 i ∙ w i q (sym (union_alike l a.0 i) ∙ x)
  says_alike (separate l r) a w =
      λ i q x y. w i q (sym (union_alike l a.0 i) ∙ x) (sym (union_alike r a.1 i) ∙ y)

  witness_alike : (q : Question) → SpeaksUpTo m q → ShownWitness q (numbered n h) → ShownWitness q (numbered n k)
  witness_alike (all_say c) a w = λ y. w (says_alike c a y)
  witness_alike (some_place l r) a w = record {
    listed = w.listed;
    left = sym (every_alike l a.0 0) ∙ w.left;
    right = sym (union_alike r a.1 0) ∙ w.right;
  }

module _ (s : Sheet) (n : ℕ) (t : Tree s) (h k : ℕ → ℕ → Bool) (e : (g : ℕ) → g ≤ s.size → (x : ℕ) → h g x ≡ k g x) where
  meets_alike : (i : ℕ) → Meets s (λ g. h g i) → Meets s (λ g. k g i)
  meets_alike i w =
      let at : (p g : ℕ) → Son s p g → h p i ≡ k p i = λ p g o. e p (son_parent t o).last i in
      let below : (p g : ℕ) → Son s p g → h g i ≡ k g i = λ p g o. e g o.group.last i in
      record {
        inside = λ p g o x. sym (at p g o) ∙ w.inside p g o (below p g o ∙ x);
        equal = λ p g o m x. sym (below p g o) ∙ w.equal p g o m (at p g o ∙ x);
        covered = λ p q c x.
            let v = w.covered p q c (e p q.last i ∙ x) in (v.0, v.1, sym (below p v.0 v.1) ∙ v.2);
        apart = λ p g j o u d x y. w.apart p g j o u d (below p g o ∙ x) (below p j u ∙ y);
      }

  count_alike : (g : ℕ) → g ≤ s.size → count (numbered n h) g ≡ count (numbered n k) g
  unfolding count
  count_alike g l = sum_eq _ _ n (λ i q. ap bit (e g l i))

  fits_alike : Fits s (numbered n h) → Fits s (numbered n k)
  fits_alike f = record {
    distinct = record { once = λ i j a b x. x };
    rules = λ i l. meets_alike i (f.rules i l);
    least = λ g q. rw (← count_alike g q.last) (f.least g q);
    most = λ g q. rw (← count_alike g q.last) (f.most g q);
  }

-- runs and marks that agree up to the size show the same
module _ (s : Sheet) {first count first' count' : ℕ → ℕ} {mark mark' : ℕ → Bool} (a : (g : ℕ) → g ≤ s.size → first g ≡ first' g)
    (b : (g : ℕ) → g ≤ s.size → count g ≡ count' g) (c : (g : ℕ) → g ≤ s.size → mark g ≡ mark' g) where
  above_alike : above s.size first count ≡ above s.size first' count'
  unfolding above
  above_alike = ap suc (sum_eq _ _ (suc s.size) (λ g l. rw (a g (omega arith), b g (omega arith))))

  has_alike : (n g : ℕ) → g ≤ s.size → (x : ℕ) → (shown first count mark n).has g x ≡ (shown first' count' mark' n).has g x
  has_alike n g l x = rw (a g l, b g l, c g l)

  pub shown_fits_alike : Tree s → Fits s (shown first count mark (above s.size first count))
      → Fits s (shown first' count' mark' (above s.size first' count'))
  shown_fits_alike t w =
      fits_alike s _ t _ _ (has_alike 0) (subst (λ n. Fits s (shown first count mark n)) above_alike w)

  pub shown_witness_alike : (q : Question) → SpeaksUpTo s.size q → ShownWitness q (shown first count mark (above s.size first count))
      → ShownWitness q (shown first' count' mark' (above s.size first' count'))
  shown_witness_alike q u w =
      witness_alike _ s.size _ _ (has_alike 0) q u (subst (λ n. ShownWitness q (shown first count mark n)) above_alike w)
