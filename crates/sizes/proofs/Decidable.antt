-- Some sets fit a sheet or none do, and some sets fit it and are a witness or none do: for every tree and every question.
use Prim.Native.Nat.{ℕ, suc, ◌+◌, ◌≤◌}
use mathlib.Core.Path.{refl, subst, sym, ◌≡◌}
use mathlib.Core.Bool.{Bool, true, false}
use mathlib.Core.List.Memᴰ
use mathlib.Core.List.{List, [], ◌∷◌, Memᴰ}
use mathlib.Core.Logic.Dec
use mathlib.Core.Logic.Iff
use mathlib.Core.Logic.{◌⊎◌, inl, inr, ⊎_elim, by_cases}
use native.Mathlib.Omega.{arith}
use native.Mathlib.Decide.{dec_le}
use Rattle.laws.specs.Sum.{bit}
use Rattle.laws.proofs.Cases.{compare_le, compare_eq}
use Rattle.wire.specs.SheetFormat.{ListKind, inside, apart, place}
use Rattle.meaning.specs.Sheet.{Sheet, Group, Top, fin, inf}
use Rattle.meaning.specs.Tree.{Tree}
use Rattle.meaning.specs.Fits.{Possible}
use Rattle.meaning.specs.Claim.{counted, Breakable, within, separate}
use Rattle.meaning.specs.Place.{lists_ask, Question, all_say, some_place}
use Rattle.sizes.specs.Balanced.{Choice, Sizes}
use Rattle.sizes.specs.Span.{Span, none, span, In}
use Rattle.sizes.specs.Fold.{spans_of}
use Rattle.sizes.specs.Ranged.{free}
use Rattle.sizes.specs.Witness.{HasWitness}
use Rattle.sizes.specs.ClaimsMath.{Way, away, along, within_all}
use Rattle.sizes.proofs.Possible.{nowhere, sizes_choice, choice_sizes, possible}
use Rattle.sizes.proofs.Rebound.{tree_rebound}
use Rattle.sizes.proofs.ClaimsPlaceLaws.{place_in}
use Rattle.sizes.proofs.ClaimsMathLaws.{one_or_all, Known, witness_lists, High, breakable_counted, breakable_empty}
use Rattle.sizes.proofs.SpanLaws.{Proper}
use Rattle.sizes.proofs.Exact.{sound, span_proper, had}
use Rattle.sizes.proofs.MeasuredLaws.{spans_measured}
use Rattle.sizes.proofs.PullLaws.{proper_least}
use Rattle.sizes.proofs.Widened.{widened, widened_tree, widened_fits}

-- decisions of 'or', and of a number on a list
dec_or : {P Q : Type 0} → Dec P → Dec Q → Dec (P ⊎ Q)
dec_or (yes p) e = yes (inl p)
dec_or (no n) (yes q) = yes (inr q)
dec_or (no n) (no m) = no (⊎_elim n m)

dec_listed : {P : ℕ → Type 0} → ((g : ℕ) → Dec (P g)) → (l : List ℕ) → Dec ((g : ℕ) × Memᴰ g l × P g)
dec_listed d [] = no (λ w. Memᴰ.not-nil w.1)
dec_listed {P} d (x ∷ l) = step (d x) (dec_listed d l)
  where
    step : Dec (P x) → Dec ((g : ℕ) × Memᴰ g l × P g) → Dec ((g : ℕ) × Memᴰ g (x ∷ l) × P g)
    step (yes p) e = yes (x, Memᴰ.head refl, p)
    step (no n) (yes w) = yes (w.0, Memᴰ.tail w.1, w.2)
    step (no n) (no m) =
        no (λ w. ⊎_elim (λ e. n (subst P e w.2)) (λ o. m (w.0, o, w.2)) (Memᴰ.cases_cons w.1))

dec_all : {P : ℕ → Type 0} → ((g : ℕ) → Dec (P g)) → (l : List ℕ) → Dec ((g : ℕ) → Memᴰ g l → P g)
dec_all d [] = yes (λ g m. absurd (Memᴰ.not-nil m))
dec_all {P} d (x ∷ l) =
    Dec.of_iff (
      λ w g m. ⊎_elim (λ e. subst P (sym e) w.0) (λ o. w.1 g o) (Memᴰ.cases_cons m),
      λ w. (w x (Memᴰ.head refl), λ g m. w g (Memᴰ.tail m)),
    ) (Dec.and (d x) (dec_all d l))

-- whether a span has no number, and its least number
has_none : Span → Bool
has_none none = true
has_none (span l u) = false

least_of : Span → ℕ
least_of none = 0
least_of (span l u) = l

least_or_none : (a : Span) → Proper a
    → ((has_none a ≡ false) × In (least_of a) a) ⊎ ((has_none a ≡ true) × ((n : ℕ) → In n a → ⊥))
unfolding has_none least_of
least_or_none none p = inr (refl, λ n i. i)
least_or_none (span l u) p = inl (refl, proper_least l u p)

-- the first state whose span has a number, in if neither has one
state_of : (Bool → Span) → Bool
state_of a = has_none (a false)

state_or_none : (a : Bool → Span) → ((c : Bool) → Proper (a c))
    → In (least_of (a (state_of a))) (a (state_of a)) ⊎ ((c : Bool) (n : ℕ) → In n (a c) → ⊥)
unfolding state_of
state_or_none a p =
    ⊎_elim
    (λ w. inl (rw w.0 w.1))
    (λ w. ⊎_elim (λ v. inl (rw w.0 v.1)) (λ v. inr (both w.1 v.1)) (least_or_none (a true) (p true)))
    (least_or_none (a false) (p false))
  where
    both : ((n : ℕ) → In n (a false) → ⊥) → ((n : ℕ) → In n (a true) → ⊥) → (c : Bool) (n : ℕ) → In n (a c) → ⊥
    both x y false = x
    both x y true = y

-- choices and sizes: there is one exactly when every group has a number in some state
choice_dec : {s : Sheet} (may : ℕ → Bool → Bool) → Tree s → Dec ((f : ℕ → ℕ) × (M : ℕ → Bool) × Choice s may f M)
choice_dec {s} may t =
    let z = spans_of s may in
    let m = spans_measured s may t in
    ⊎_elim
    (λ w. no (λ v. w.2.1 (v.1 w.0) (v.0 w.0) (sound s may z t m v.0 v.1 v.2 w.0 w.2.0)))
    (λ w. let v = had s may z t m (λ g. least_of (z g (state_of (z g)))) (λ g. state_of (z g)) (λ g q e. w g (omega arith) q) in
    yes (v.0, v.1, v.2))
    (one_or_all {P = λ g. Group s g × ((c : Bool) (n : ℕ) → In n (z g c) → ⊥)}
    {Q = λ g. Group s g → In (least_of (z g (state_of (z g)))) (z g (state_of (z g)))} (suc s.size)
    (λ g l. compare_le 1 g
    (λ i. let q : Group s g = omega arith in
    ⊎_elim (λ x. inr (λ o. x)) (λ x. inl (q, x)) (state_or_none (z g) (span_proper s may z t m g q)))
    (λ i. inr (λ q. absurd (omega arith)))))

sizes_dec : {s : Sheet} → Tree s → Dec ((f : ℕ → ℕ) × Sizes s f)
sizes_dec t =
    Dec.of_iff (
      λ w. ((λ g. w.0 g + bit (w.1 g)), choice_sizes w.2),
      λ w. (w.0, nowhere, sizes_choice free (λ g q. refl) w.1),
    ) (choice_dec free t)

possible_dec : {s : Sheet} → Tree s → Dec (Possible s)
possible_dec t = Dec.of_iff (Iff.symm (possible t)) (sizes_dec t)

-- kinds 5 to 7: a place for one of the ways
way_dec : {P : List ℕ → List ℕ → Type 0} → ((ins outs : List ℕ) → Dec (P ins outs)) → (b : ListKind) (l r : List ℕ)
    → Dec ((ins outs : List ℕ) × Way l r b ins outs × P ins outs)
way_dec {P} d inside l r =
    Dec.of_iff (λ w. (w.0 ∷ [], r, away w.1 w.2.0, w.2.1), λ w. back w.2 w.3)
    (dec_listed (λ g. Dec.and (dec_le 1 g) (d (g ∷ []) r)) l)
  where
    back : {ins outs : List ℕ} → Way l r inside ins outs → P ins outs → (g : ℕ) × Memᴰ g l × ((1 ≤ g) × P (g ∷ []) r)
    back (away {g = g} m p) x = (g, m, (p, x))
way_dec {P} d apart l r =
    Dec.of_iff (
      λ w. let v = w.2.1 in (w.0 ∷ v.0 ∷ [], [], along w.1 w.2.0 v.1 v.2.0, v.2.1),
      λ w. back w.2 w.3,
    )
    (dec_listed (λ g. Dec.and (dec_le 1 g) (dec_listed (λ h. Dec.and (dec_le 1 h) (d (g ∷ h ∷ []) [])) r)) l)
  where
    back : {ins outs : List ℕ} → Way l r apart ins outs → P ins outs
        → (g : ℕ) × Memᴰ g l × ((1 ≤ g) × ((h : ℕ) × Memᴰ h r × ((1 ≤ h) × P (g ∷ h ∷ []) [])))
    back (along {g = g} {h = h} m p o q) x = (g, m, (p, (h, o, (q, x))))
way_dec {P} d place l r =
    Dec.of_iff (λ w. (l, r, within_all w.0, w.1), λ w. back w.2 w.3) (Dec.and (dec_all (λ g. dec_le 1 g) l) (d l r))
  where
    back : {ins outs : List ℕ} → Way l r place ins outs → P ins outs → ((g : ℕ) → Memᴰ g l → 1 ≤ g) × P l r
    back (within_all p) x = (p, x)

lists_dec : {s : Sheet} → Tree s → (b : ListKind) (l r : List ℕ) → Known s l → Known s r → Dec (HasWitness s (lists_ask b l r))
lists_dec t b l r k n =
    let e = witness_lists t b l r k n in
    Dec.of_iff (
      λ w. e.1 (w.0, w.1, w.2, w.3.0, w.3.1, w.3.2),
      λ w. let v = e.0 w in (v.0, v.1, v.2, (v.3, v.4, v.5)),
    )
    (way_dec (λ ins outs. choice_dec (place_in ins outs) t) b l r)

-- kind 4: sizes under a narrowed bound
high_dec : {s : Sheet} → Tree s → (g : ℕ) (hi : Top) → Dec (High s g hi)
high_dec {s} t g (fin h) = sizes_dec (tree_rebound s _ _ _ _ t)
high_dec t g inf = no (λ w. w)

count_dec : {s : Sheet} → Tree s → (g lo : ℕ) (hi : Top) → g ≤ s.size → Dec (Breakable s (counted g lo hi))
count_dec {s} t g lo hi l =
    compare_eq g 0
    (λ e. rw e (Dec.of_iff (Iff.symm (breakable_empty lo hi)) (Dec.and (possible_dec t) (dec_le 1 lo))))
    (λ n. Dec.of_iff (Iff.symm (breakable_counted t g lo hi (omega arith)))
    (dec_or (Dec.and (dec_le 1 lo) (sizes_dec (tree_rebound s _ _ _ _ t))) (high_dec t g hi)))

-- a number that no group of the question passes
total : List ℕ → ℕ
total [] = 0
total (x ∷ l) = x + total l

listed_total : {g : ℕ} {l : List ℕ} → Memᴰ g l → g ≤ total l
unfolding total
listed_total (Memᴰ.head e) = omega arith
listed_total (Memᴰ.tail m) = omega (arith, listed_total m)

summed_dec : {s : Sheet} → Tree s → (b : ListKind) (l r : List ℕ) → total l + total r ≤ s.size → Dec (HasWitness s (lists_ask b l r))
summed_dec t b l r h = lists_dec t b l r (λ g m. omega (arith, listed_total m)) (λ g m. omega (arith, listed_total m))

reach : Question → ℕ
reach (all_say (counted g lo hi)) = g
reach (all_say (within l r)) = total l + total r
reach (all_say (separate l r)) = total l + total r
reach (some_place l r) = total l + total r

reached_dec : {s : Sheet} → Tree s → (q : Question) → reach q ≤ s.size → Dec (HasWitness s q)
unfolding reach
reached_dec t (all_say (counted g lo hi)) h = count_dec t g lo hi h
reached_dec {s} t (all_say (within l r)) h = summed_dec t inside l r h
reached_dec {s} t (all_say (separate l r)) h = summed_dec t apart l r h
reached_dec {s} t (some_place l r) h = summed_dec t place l r h

-- Some sets fit or none do.
pub possible_or_not : {s : Sheet} → Tree s → Possible s ⊎ (Possible s → ⊥)
possible_or_not t = by_cases (possible_dec t) inl inr

-- Some sets that fit are a witness or none are.
pub witness_or_not : {s : Sheet} → Tree s → (q : Question) → HasWitness s q ⊎ (HasWitness s q → ⊥)
witness_or_not t q =
    by_cases (reached_dec (widened_tree t (reach q)) q (unfold widened in omega arith))
    (λ w. inl (w.0, (widened_fits t (reach q)).1 w.1, w.2))
    (λ n. inr (λ w. n (w.0, (widened_fits t (reach q)).0 w.1, w.2)))
