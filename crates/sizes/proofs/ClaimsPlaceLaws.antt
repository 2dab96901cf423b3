-- Laws of places: sets with a member in some groups and out of others are a choice.
use Prim.Native.Nat.{ℕ, ◌<◌}
use mathlib.Core.Path.{◌≡◌}
use mathlib.Core.Bool.{Bool, true, false, not, false≢true}
use mathlib.Core.List.{List, Memᴰ, [], ◌∷◌}
use mathlib.Core.Logic.{◌↔◌}
use borrow.Author.Tests.{eq-eqb, eqb-true, not-true}
use lib.Dec.{eqb}
use Rattle.laws.proofs.Cases.{or_right, or_true, split, not_true_false, true_not_false}
use Rattle.meaning.specs.Sheet.{Sheet, Group}
use Rattle.meaning.specs.Tree.{Tree}
use Rattle.meaning.specs.Sets.{Sets}
use Rattle.meaning.specs.Fits.{Fits, groups_of}
use Rattle.sizes.specs.Balanced.{Choice}
use Rattle.sizes.specs.ClaimsPlace.{is_in, AtPlace}
use Rattle.sizes.proofs.Possible.{placed}

-- The flags of a place: the member may be in a group (true) that is not on the list `outs`, and out of one (false) that
-- is not on the list `ins`. A 0 on a list is no group and says nothing.
unfoldable pub place_in : List ℕ → List ℕ → ℕ → Bool → Bool
place_in ins outs g true = not (is_in g outs)
place_in ins outs g false = not (is_in g ins)

pub is_in_of : {g : ℕ} {l : List ℕ} → Memᴰ g l → is_in g l ≡ true
unfolding is_in
is_in_of {g} (Memᴰ.head {x = x} e) = rw (eq-eqb g x e)
is_in_of {g} (Memᴰ.tail {x = x} {xs = xs} m) = or_right (eqb g x) (is_in g xs) (is_in_of m)

pub of_is_in : (g : ℕ) (l : List ℕ) → is_in g l ≡ true → Memᴰ g l
unfolding is_in
of_is_in g [] h = absurd (false≢true h)
of_is_in g (x ∷ xs) h =
    or_true (eqb g x) (is_in g xs) h (λ e. Memᴰ.head (eqb-true g x e)) (λ e. Memᴰ.tail (of_is_in g xs e))

pub placed_flags : {s : Sheet} {ins outs : List ℕ} {M : ℕ → Bool} → AtPlace s ins outs M
    → (g : ℕ) → Group s g → place_in ins outs g (M g) ≡ true
unfolding place_in
placed_flags {s} {ins} {outs} {M} p g q =
    split
    (M g)
    (λ e. rw (e, not_true_false (is_in g outs) (λ i. true_not_false (M g) e (p.kept g (of_is_in g outs i) q))))
    (λ e. rw (e, not_true_false (is_in g ins) (λ i. true_not_false (M g) (p.held g (of_is_in g ins i) q) e)))

pub flags_placed : {s : Sheet} (ins outs : List ℕ) (M : ℕ → Bool) → ((g : ℕ) → Group s g → place_in ins outs g (M g) ≡ true)
    → AtPlace s ins outs M
unfolding place_in
flags_placed ins outs M a = record {
  held = λ g m q. split
      (M g)
      (λ e. e)
      (λ e. absurd (true_not_false (is_in g ins) (is_in_of m) (not-true _ (rw e at (a g q)))));
  kept = λ g m q. split
      (M g)
      (λ e. absurd (true_not_false (is_in g outs) (is_in_of m) (not-true _ (rw e at (a g q)))))
      (λ e. e);
}

-- Some sets that fit have a member in every group of `ins` and in none of `outs` exactly when there is a choice.
pub place_choice : {s : Sheet} (ins outs : List ℕ) → Tree s
    → ((A : Sets ℕ) × Fits s A × (j : ℕ) × (j < A.bound) × AtPlace s ins outs (groups_of A j))
    ↔ ((f : ℕ → ℕ) × (M : ℕ → Bool) × Choice s (place_in ins outs) f M)
place_choice ins outs t =
    let e = placed (place_in ins outs) t in (
      λ w. e.0 (w.0, w.1, w.2, w.3, placed_flags w.4),
      λ w. let v = e.1 w in (v.0, v.1, v.2, v.3, flags_placed ins outs (groups_of v.0 v.2) v.4),
    )
