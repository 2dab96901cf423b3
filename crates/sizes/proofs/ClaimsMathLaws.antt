-- Laws of claims: what sets break one, in terms of members at a place and of counts.
use Prim.Native.Nat.{ℕ, ◌<◌, zero, suc, ◌≤◌, ◌+◌, ◌-◌}
use mathlib.Core.Path.{◌≡◌, sym, subst, refl, ◌∙◌}
use mathlib.Core.Bool.{Bool, true, false, Bool-discrete, false≢true}
use mathlib.Core.List.Memᴰ
use mathlib.Core.List.{List, [], ◌∷◌, Memᴰ}
use mathlib.Core.Logic.{◌⊎◌, inl, inr, ⊎_elim, by_cases, ◌↔◌}
use native.Mathlib.Omega.{arith}
use native.Mathlib.Nat.{le_refl}
use Rattle.laws.specs.Sum.{bit}
use Rattle.laws.proofs.Cases.{compare_le, below_suc, split, true_not_false, or_true, or_left, or_right, not_true_false, and_true}
use Rattle.laws.proofs.SumLaws.{sum_zero}
use Rattle.wire.specs.SheetFormat.{ListKind, inside, apart, place}
use Rattle.meaning.specs.Sheet.{Top, fin, inf, AtMost, Sheet, Group}
use Rattle.meaning.specs.Tree.{Tree}
use Rattle.meaning.specs.Sets.{Sets, count}
use Rattle.meaning.specs.Fits.{groups_of, Possible}
use Rattle.meaning.specs.Claim.{union, Claim, counted, within, separate, count_named, Says, Breaks, named, Breakable}
use Rattle.meaning.specs.Place.{every, lists_ask}
use Rattle.meaning.specs.Shown.{shown}
use Rattle.sizes.specs.Balanced.{Choice, Sizes}
use Rattle.sizes.specs.Runs.{Starts}
use Rattle.sizes.specs.Witness.{WitnessAt, Witness, HasWitness}
use Rattle.sizes.specs.ClaimsPlace.{AtPlace}
use Rattle.sizes.specs.ClaimsMath.{MoreThan, Way, away, along, within_all}
use Rattle.sizes.proofs.RunsLaws.{runs_first, shown_count_law}
use Rattle.sizes.proofs.Possible.{fits_sizes, sizes_sets}
use Rattle.sizes.proofs.WitnessLaws.{witness_at}
use Rattle.sizes.proofs.ClaimsPlaceLaws.{place_in, place_choice}
use Rattle.sizes.proofs.ClaimsCount.{narrow_hi, narrow_lo, narrow_hi_sizes, narrow_lo_sizes}

-- A member that answers a claim on two lists: in one left set (kinds 5 and 6) or in every one (kind 7), and in one right set
-- (kind 6) or in none (kinds 5 and 7).
abbrev pub left_in : {X : Type 0} → ListKind → Sets X → List ℕ → X → Bool
left_in inside A l x = union A l x
left_in apart A l x = union A l x
left_in place A l x = every A l x

abbrev pub right_in : ListKind → Bool
right_in inside = false
right_in apart = true
right_in place = false

pub record Meeting {X : Type 0} (A : Sets X) (k : ListKind) (l r : List ℕ) (i : ℕ) : Type 0 where
  pub listed : i < A.bound
  pub left : left_in k A l (A.who i) ≡ true
  pub right : union A r (A.who i) ≡ right_in k

-- how sets break a claim
abbrev pub Fails : {X : Type 0} → Claim → Sets X → Type 0
Fails (counted g lo hi) A = (count_named A g < lo) ⊎ MoreThan (count_named A g) hi
Fails (within l r) A = (i : ℕ) × Meeting A inside l r i
Fails (separate l r) A = (i : ℕ) × Meeting A apart l r i

end_or_above : (n : ℕ) (u : Top) → AtMost n u ⊎ MoreThan n u
end_or_above n (fin k) = compare_le n k inl inr
end_or_above n inf = inl tt

above_end : (n : ℕ) (u : Top) → MoreThan n u → AtMost n u → ⊥
above_end n (fin k) a b = omega arith
above_end n inf a b = a

-- one number below n of the first kind, or all of the second
pub one_or_all : {P Q : ℕ → Type 0} (n : ℕ) → ((i : ℕ) → i < n → P i ⊎ Q i)
    → ((i : ℕ) × (i < n) × P i) ⊎ ((i : ℕ) → i < n → Q i)
one_or_all zero d = inr (λ i l. absurd (omega arith))
one_or_all {P} {Q} (suc n) d =
    ⊎_elim
    (λ p. inl (n, le_refl (suc n), p))
    (λ q. ⊎_elim
    (λ w. inl (w.0, omega arith, w.2))
    (λ w. inr (λ i l. below_suc i n l (λ e. subst Q (sym e) q) (λ k. w i k)))
    (one_or_all n (λ i l. d i (omega arith))))
    (d n (le_refl (suc n)))

-- some member meets the lists so, or none does
meeting_or_none : {X : Type 0} (A : Sets X) (k : ListKind) (l r : List ℕ)
    → ((i : ℕ) × Meeting A k l r i)
    ⊎ ((i : ℕ) → i < A.bound → left_in k A l (A.who i) ≡ true → union A r (A.who i) ≡ right_in k → ⊥)
meeting_or_none A k l r =
    ⊎_elim
    (λ w. inl (w.0, record { listed = w.1; left = w.2.0; right = w.2.1 }))
    inr
    (one_or_all {P = λ i. (left_in k A l (A.who i) ≡ true) × (union A r (A.who i) ≡ right_in k)} A.bound (λ i j. each i))
  where
    each : (i : ℕ) → ((left_in k A l (A.who i) ≡ true) × (union A r (A.who i) ≡ right_in k))
        ⊎ (left_in k A l (A.who i) ≡ true → union A r (A.who i) ≡ right_in k → ⊥)
    each i =
        split
        (left_in k A l (A.who i))
        (λ e. by_cases (Bool-discrete (union A r (A.who i)) (right_in k)) (λ h. inl (e, h)) (λ h. inr (λ x y. h y)))
        (λ e. inr (λ x y. true_not_false _ x e))

-- what a claim says of sets is so, or they show how they break it
pub says_or_fails : {X : Type 0} (c : Claim) (A : Sets X) → Says c A ⊎ Fails c A
says_or_fails (counted g lo hi) A =
    compare_le
    lo
    (count_named A g)
    (λ x. ⊎_elim (λ y. inl (x, y)) (λ y. inr (inr y)) (end_or_above (count_named A g) hi))
    (λ x. inr (inl x))
says_or_fails (within l r) A =
    ⊎_elim
    inr
    (λ n. inl (λ i k u. split (union A r (A.who i)) (λ e. e) (λ e. absurd (n i k u e))))
    (meeting_or_none A inside l r)
says_or_fails (separate l r) A = ⊎_elim inr inl (meeting_or_none A apart l r)

pub fails_breaks : {X : Type 0} (c : Claim) (A : Sets X) → Fails c A → Breaks c A
fails_breaks (counted g lo hi) A w y =
    ⊎_elim (λ x. let z = y.0 in omega arith) (λ x. above_end (count_named A g) hi x y.1) w
fails_breaks (within l r) A w y = true_not_false _ (y w.0 w.1.listed w.1.left) w.1.right
fails_breaks (separate l r) A w y = y w.0 w.1.listed w.1.left w.1.right

pub breaks_fails : {X : Type 0} (c : Claim) (A : Sets X) → Breaks c A → Fails c A
breaks_fails c A n = ⊎_elim (λ y. absurd (n y)) (λ w. w) (says_or_fails c A)

-- unions
pub union_has : {X : Type 0} (A : Sets X) (l : List ℕ) (x : X) → union A l x ≡ true
    → (g : ℕ) × Memᴰ g l × (1 ≤ g) × (A.has g x ≡ true)
union_has A [] x h = absurd (false≢true h)
union_has A (zero ∷ l) x h = let w = union_has A l x h in (w.0, Memᴰ.tail w.1, w.2, w.3)
union_has A (suc g ∷ l) x h =
    or_true
    (A.has (suc g) x)
    (union A l x)
    h
    (λ e. (suc g, Memᴰ.head refl, omega arith, e))
    (λ e. let w = union_has A l x e in (w.0, Memᴰ.tail w.1, w.2, w.3))

named_has : {X : Type 0} (A : Sets X) (g : ℕ) (x : X) → 1 ≤ g → A.has g x ≡ true → named A g x ≡ true
named_has A zero x p q = absurd (omega arith)
named_has A (suc g) x p q = q

pub has_union : {X : Type 0} (A : Sets X) {g : ℕ} {l : List ℕ} (x : X) → Memᴰ g l → 1 ≤ g → A.has g x ≡ true
    → union A l x ≡ true
has_union A {g = g} x (Memᴰ.head {x = h} {xs = l} e) p q =
    or_left (named A h x) (union A l x) (named_has A h x (rw e at p) (rw e at q))
has_union A x (Memᴰ.tail {x = h} {xs = l} m) p q = or_right (named A h x) (union A l x) (has_union A x m p q)

pub union_none : {X : Type 0} (A : Sets X) (l : List ℕ) (x : X) → ((g : ℕ) → Memᴰ g l → 1 ≤ g → A.has g x ≡ false)
    → union A l x ≡ false
union_none A l x n =
    not_true_false (union A l x) (λ h. let w = union_has A l x h in true_not_false _ w.3 (n w.0 w.1 w.2))

-- in every named set: each name means a group, and the member is in it
pub every_has : {X : Type 0} (A : Sets X) (l : List ℕ) (x : X) → every A l x ≡ true
    → (g : ℕ) → Memᴰ g l → (1 ≤ g) × (A.has g x ≡ true)
every_has A [] x h g m = absurd (Memᴰ.not-nil m)
every_has A (zero ∷ l) x h g m = absurd (false≢true h)
every_has A (suc f ∷ l) x h g m =
    let w = and_true (A.has (suc f) x) (every A l x) h in
    ⊎_elim (λ (e : g ≡ suc f). rw e (omega arith, w.0)) (λ o. every_has A l x w.1 g o) (Memᴰ.cases_cons m)

pub has_every : {X : Type 0} (A : Sets X) (l : List ℕ) (x : X) → ((g : ℕ) → Memᴰ g l → (1 ≤ g) × (A.has g x ≡ true))
    → every A l x ≡ true
has_every A [] x h = refl
has_every A (g ∷ l) x h =
    let w = h g (Memᴰ.head refl) in
    rw (named_has A g x w.0 w.1, has_every A l x (λ f m. h f (Memᴰ.tail m)))

-- every number on the list is 0 or a group of the sheet
abbrev pub Known : Sheet → List ℕ → Type 0
Known s l = (g : ℕ) → Memᴰ g l → g ≤ s.size

pub way_meeting : {X : Type 0} {s : Sheet} (A : Sets X) {l r ins outs : List ℕ} {b : ListKind} → Known s l → Known s r
    → Way l r b ins outs → (j : ℕ) → j < A.bound → AtPlace s ins outs (groups_of A j) → Meeting A b l r j
way_meeting A {r = r} k n (away {g = g} m p) j i w = record {
  listed = i;
  left = has_union A (A.who j) m p (w.held g (Memᴰ.head refl) (record { first = p; last = k g m }));
  right = union_none A r (A.who j) (λ h x y. w.kept h x (record { first = y; last = n h x }));
}
way_meeting A k n (along {g = g} {h = h} m p o q) j i w = record {
  listed = i;
  left = has_union A (A.who j) m p (w.held g (Memᴰ.head refl) (record { first = p; last = k g m }));
  right =
      has_union
      A
      (A.who j)
      o
      q
      (w.held h (Memᴰ.tail (Memᴰ.head refl)) (record { first = q; last = n h o }));
}
way_meeting A {l = l} {r = r} k n (within_all p) j i w = record {
  listed = i;
  left = has_every A l (A.who j) (λ g m. (p g m, w.held g m (record { first = p g m; last = k g m })));
  right = union_none A r (A.who j) (λ h x y. w.kept h x (record { first = y; last = n h x }));
}

-- in no named set, in no group on the list
none_has : {X : Type 0} {s : Sheet} (A : Sets X) {r : List ℕ} (x : X) → union A r x ≡ false → (g : ℕ) → Memᴰ g r → Group s g
    → A.has g x ≡ false
none_has A x h g m q = not_true_false (A.has g x) (λ e. true_not_false _ (has_union A x m q.first e) h)

pub meeting_way : {X : Type 0} (s : Sheet) (A : Sets X) (l r : List ℕ) (b : ListKind) (i : ℕ) → Meeting A b l r i
    → (ins outs : List ℕ) × Way l r b ins outs × AtPlace s ins outs (groups_of A i)
meeting_way s A l r inside i w =
    let x = A.who i in
    let u = union_has A l x w.left in (
      u.0 ∷ [],
      r,
      away u.1 u.2,
      record {
        held = λ g m q. let e : g ≡ u.0 = Memᴰ.eq_of_singleton m in rw e u.3;
        kept = none_has A x w.right;
      },
    )
meeting_way s A l r place i w =
    let x = A.who i in
    let u = every_has A l x w.left in
    (l, r, within_all (λ g m. (u g m).0), record { held = λ g m q. (u g m).1; kept = none_has A x w.right })
meeting_way s A l r apart i w =
    let x = A.who i in
    let u = union_has A l x w.left in
    let v = union_has A r x w.right in (
      u.0 ∷ v.0 ∷ [],
      [],
      along u.1 u.2 v.1 v.2,
      record {
        held = λ g m q.
            ⊎_elim
            (λ e. rw e u.3)
            (λ o. let e : g ≡ v.0 = Memᴰ.eq_of_singleton o in rw e v.3)
            (Memᴰ.cases_cons m);
        kept = λ g m q. absurd (Memᴰ.not-nil m);
      },
    )

-- such a member makes the sets a witness, and every witness has one
pub meeting_witness : {X : Type 0} (b : ListKind) (l r : List ℕ) (A : Sets X) (i : ℕ) → Meeting A b l r i → WitnessAt (lists_ask b l r) A i
meeting_witness inside l r A i w = fails_breaks (within l r) A (i, w)
meeting_witness apart l r A i w = fails_breaks (separate l r) A (i, w)
meeting_witness place l r A i w = record { listed = w.listed; left = w.left; right = w.right }

pub witness_meeting : {X : Type 0} (b : ListKind) (l r : List ℕ) (A : Sets X) → Witness (lists_ask b l r) A → (i : ℕ) × Meeting A b l r i
witness_meeting inside l r A w = breaks_fails (within l r) A w
witness_meeting apart l r A w = breaks_fails (separate l r) A w
witness_meeting place l r A w = (w.0, record { listed = w.1.listed; left = w.1.left; right = w.1.right })

-- A claim of kinds 5 to 7 has a witness exactly when there is a choice for one of its places.
pub witness_lists : {s : Sheet} → Tree s → (b : ListKind) (l r : List ℕ) → Known s l → Known s r
    → HasWitness s (lists_ask b l r)
    ↔ ((ins outs : List ℕ) × Way l r b ins outs × (f : ℕ → ℕ) × (M : ℕ → Bool) × Choice s (place_in ins outs) f M)
witness_lists {s} t b l r k n = (
  λ w.
      let m = witness_meeting b l r w.0 w.2 in
      let v = meeting_way s w.0 l r b m.0 m.1 in
      let c = (place_choice v.0 v.1 t).0 (w.0, w.1, m.0, m.1.listed, v.3) in
      (v.0, v.1, v.2, c.0, c.1, c.2),
  λ w.
      let v = (place_choice w.0 w.1 t).1 (w.3, w.4, w.5) in
      (v.0, v.1, witness_at (lists_ask b l r) v.0 v.2 (meeting_witness b l r v.0 v.2 (way_meeting v.0 k n w.2 v.2 v.3 v.4))),
)

-- kind 4
pub count_named_group : {X : Type 0} (A : Sets X) (g : ℕ) → 1 ≤ g → count_named A g ≡ count A g
unfolding count_named count
count_named_group A zero p = absurd (omega arith)
count_named_group A (suc g) p = refl

pub count_named_empty : {X : Type 0} (A : Sets X) → count_named A 0 ≡ 0
unfolding count_named
count_named_empty A = sum_zero _ _ (λ i l. refl)

-- sets whose count is not from lo to hi break the claim
pub count_breaks_law : {X : Type 0} (A : Sets X) (g lo k : ℕ) (hi : Top) → 1 ≤ g → count A g ≡ k → (k < lo) ⊎ MoreThan k hi
    → Breaks (counted g lo hi) A
count_breaks_law A g lo k hi p e w =
    fails_breaks (counted g lo hi) A (rw (count_named_group A g p ∙ e) w)

-- the sets that a choice shows, with such a count, break the claim
pub shown_breaks_count : {s : Sheet} {may : ℕ → Bool → Bool} {f st : ℕ → ℕ} {M : ℕ → Bool} → Tree s → Choice s may f M
    → Starts s f st → (n g lo : ℕ) (hi : Top) → Group s g → st g + f g ≤ n
    → (f g + bit (M g) < lo) ⊎ MoreThan (f g + bit (M g)) hi → Breaks (counted g lo hi) (shown st f M n)
shown_breaks_count {f = f} {st = st} {M = M} t c h n g lo hi q l w =
    count_breaks_law (shown st f M n) g lo _ hi q.first
    (shown_count_law st f M n g (runs_first t c.others h g q) l) w

-- A count claim on a group can be broken exactly when the group has a size below lo or above hi.
pub breakable_size : {s : Sheet} → Tree s → (g lo : ℕ) (hi : Top) → Group s g
    → Breakable s (counted g lo hi) ↔ ((f : ℕ → ℕ) × Sizes s f × ((f g < lo) ⊎ MoreThan (f g) hi))
breakable_size t g lo hi q = (
  λ w. (
    count w.0,
    fits_sizes w.1,
    rw (count_named_group w.0 g q.first) at (breaks_fails (counted g lo hi) w.0 w.2),
  ),
  λ w.
      let v = sizes_sets t w.1 in
      (v.0, v.1, count_breaks_law v.0 g lo (w.0 g) hi q.first (v.2 g q) w.2),
)

-- counts below lo and above hi, as sizes under a narrowed bound
abbrev pub Low : Sheet → ℕ → ℕ → Type 0
Low s g lo = (1 ≤ lo) × ((f : ℕ → ℕ) × Sizes (narrow_hi s g (lo - 1)) f)

abbrev pub High : Sheet → ℕ → Top → Type 0
High s g (fin h) = (f : ℕ → ℕ) × Sizes (narrow_lo s g (h + 1)) f
High s g inf = ⊥

low_size : {s : Sheet} (g lo : ℕ) → Group s g → Low s g lo ↔ ((f : ℕ → ℕ) × Sizes s f × (f g < lo))
low_size g lo q = (
  λ w. let v = (narrow_hi_sizes g (lo - 1) q).0 w.1.1 in (w.1.0, v.0, let l = w.0 in omega (arith, v.1)),
  λ w. (omega arith, (w.0, (narrow_hi_sizes g (lo - 1) q).1 (w.1, omega arith))),
)

high_size : {s : Sheet} (g : ℕ) (hi : Top) → Group s g → High s g hi ↔ ((f : ℕ → ℕ) × Sizes s f × MoreThan (f g) hi)
high_size g (fin h) q = (
  λ w. let v = (narrow_lo_sizes g (h + 1) q).0 w.1 in (w.0, v.0, omega (arith, v.1)),
  λ w. (w.0, (narrow_lo_sizes g (h + 1) q).1 (w.1, omega arith)),
)
high_size g inf q = (λ w. absurd w, λ w. w.2)

pub breakable_counted : {s : Sheet} → Tree s → (g lo : ℕ) (hi : Top) → Group s g
    → Breakable s (counted g lo hi) ↔ (Low s g lo ⊎ High s g hi)
breakable_counted {s} t g lo hi q =
    let e = breakable_size t g lo hi q in (
      λ w. let v = e.0 w in
          ⊎_elim
          (λ x. inl ((low_size g lo q).1 (v.0, v.1, x)))
          (λ x. inr ((high_size g hi q).1 (v.0, v.1, x)))
          v.2,
      λ w. e.1
          (⊎_elim
          (λ x. let v = (low_size g lo q).0 x in (v.0, v.1, inl v.2))
          (λ x. let v = (high_size g hi q).0 x in (v.0, v.1, inr v.2))
          w),
    )

-- A count claim on the empty set can be broken exactly when lo is not 0 and some sets fit: any sets that fit break it.
pub empty_breaks : {X : Type 0} (A : Sets X) (lo : ℕ) (hi : Top) → 1 ≤ lo → Breaks (counted 0 lo hi) A
empty_breaks A lo hi l = fails_breaks (counted 0 lo hi) A (inl (omega (arith, count_named_empty A)))

not_above_zero : (u : Top) → MoreThan 0 u → ⊥
not_above_zero (fin k) a = omega arith
not_above_zero inf a = a

pub breakable_empty : {s : Sheet} (lo : ℕ) (hi : Top) → Breakable s (counted 0 lo hi) ↔ (Possible s × (1 ≤ lo))
breakable_empty lo hi = (
  λ w. (
    (w.0, w.1),
    ⊎_elim
        (λ x. omega arith)
        (λ x. absurd (not_above_zero hi x))
        (rw (count_named_empty w.0) at (breaks_fails (counted 0 lo hi) w.0 w.2)),
  ),
  λ w. (w.0.0, w.0.1, empty_breaks w.0.0 lo hi w.1),
)
