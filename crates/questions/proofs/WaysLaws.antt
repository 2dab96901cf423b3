-- Laws of the ways to answer a claim on two lists, list by list and group by group.
use Prim.Native.Nat.{ℕ, ◌≤◌, ◌+◌, ◌<◌}
use mathlib.Core.Path.{◌≡◌, refl, sym, ◌∙◌, subst}
use mathlib.Core.Bool.{true, Bool, false, false≢true, true≢false}
use mathlib.Core.List.Memᴰ
use mathlib.Core.List.{List, Memᴰ, [], ◌∷◌}
use mathlib.Core.Logic.{⊎_elim}
use native.Mathlib.Omega.{arith}
use lib.ListN.{length, get_or, take}
use Rattle.wire.specs.SheetFormat.{ListKind, inside, apart, place}
use Rattle.meaning.specs.Sheet.{Sheet}
use Rattle.meaning.specs.Sets.{Sets}
use Rattle.meaning.specs.Place.{lists_ask}
use Rattle.meaning.specs.Shown.{above, shown}
use Rattle.sizes.specs.ClaimsMath.{Way, away, along, within_all}
use Rattle.sizes.proofs.ClaimsMathLaws.{left_in, Meeting, Known, way_meeting, meeting_way, meeting_witness, witness_meeting, every_has}
use Rattle.tables.specs.Numbers.{number_in}
use Rattle.choosing.specs.Divided.{marked_in}
use Rattle.tables.specs.declared.groups.GroupNo.{GroupNo}
use Rattle.questions.specs.Groups.{groups_among, numbers_of}
use Rattle.questions.specs.Judged.{Judged}
use Rattle.questions.specs.Places.{PlaceHad, PlaceShown, PlaceJudged}
use Rattle.questions.specs.Ways.{is_place, Tried, WayHad, WayShown}
use Rattle.questions.proofs.WitnessedLaws.{witnessed_as, witnessed_no}
use Rattle.questions.proofs.GroupsLaws.{union_groups, among_known, get_d_in, in_take_next, number_at, length_numbers}

above_one : (s : Sheet) (st f : ℕ → ℕ) → 1 ≤ above s.size st f
unfolding above
above_one s st f = omega arith

-- The empty set has no members: a member answers the claim on what names mean as it answers the one on the groups among it, if
-- kind 7 has no empty set on the left.
left_among : {X : Type 0} (b : ListKind) (A : Sets X) (l : List ℕ) (x : X) → (is_place b ≡ true → groups_among l ≡ l)
    → left_in b A (groups_among l) x ≡ left_in b A l x
left_among inside A l x h = union_groups A l x
left_among apart A l x h = union_groups A l x
left_among place A l x h = rw (h refl)

module _ {X : Type 0} (b : ListKind) (A : Sets X) (l r : List ℕ) (i : ℕ) (h : is_place b ≡ true → groups_among l ≡ l) where
  meeting_names : Meeting A b (groups_among l) (groups_among r) i → Meeting A b l r i
  meeting_names w = record {
    listed = w.listed;
    left = sym (left_among b A l (A.who i) h) ∙ w.left;
    right = sym (union_groups A r (A.who i)) ∙ w.right;
  }

  meeting_groups : Meeting A b l r i → Meeting A b (groups_among l) (groups_among r) i
  meeting_groups w = record {
    listed = w.listed;
    left = left_among b A l (A.who i) h ∙ w.left;
    right = union_groups A r (A.who i) ∙ w.right;
  }

-- The places decide the claim.
pub tried_judged : {s : Sheet} {sizes marks : List ℕ} {x : Bool} (b : ListKind) (l r : List ℕ) → (is_place b ≡ true → groups_among l ≡ l)
    → Known s l → Known s r → Tried s b (groups_among l) (groups_among r) sizes marks x
    → Judged s (lists_ask b l r) sizes marks x
tried_judged {s} {sizes} {marks} b l r h k n w =
    witnessed_as
    (λ v. record {
      fitting = v.3.fitting;
      shows = λ st o.
          let A = shown st (number_in sizes) (marked_in marks) (above s.size st (number_in sizes)) in
          meeting_witness b l r A 0
          (meeting_names b A l r 0 h
          (way_meeting A (among_known s.size l k) (among_known s.size r n) v.2 0 (above_one s st (number_in sizes)) v.3.placed));
    })
    (λ v.
    let m = witness_meeting b l r v.0 v.2 in
    let u = meeting_way s v.0 (groups_among l) (groups_among r) b m.0 (meeting_groups b v.0 l r m.0 h m.1) in
    (u.0, u.1, u.2, (v.0, v.1, m.0, m.1.listed, u.3)))
    w

-- Where kind 7 has the empty set on the left, nobody is in every left set.
pub empty_judged : {s : Sheet} {sizes marks : List ℕ} (b : ListKind) (l r : List ℕ) → is_place b ≡ true → Memᴰ 0 l
    → Judged s (lists_ask b l r) sizes marks false
empty_judged inside l r e m = absurd (false≢true e)
empty_judged apart l r e m = absurd (false≢true e)
empty_judged place l r e m =
    witnessed_no (λ v. let w = every_has v.0 l _ v.2.1.left 0 m in omega (arith, w.0))

-- a way of these kinds takes one group of its left list, and is a way for any list with that group
left_one : {l r ins outs : List ℕ} {b : ListKind} → is_place b ≡ false → Way l r b ins outs
    → (g : ℕ) × Memᴰ g l × ((k : List ℕ) → Memᴰ g k → Way k r b ins outs)
left_one e (away {g = g} m p) = (g, m, λ k i. away i p)
left_one e (along {g = g} m p o q) = (g, m, λ k i. along i p o q)
left_one e (within_all p) = absurd (true≢false e)

-- for kind 6 the same is so of the right list
right_one : {l r ins outs : List ℕ} → Way l r apart ins outs
    → (h : ℕ) × Memᴰ h r × ((k : List ℕ) → Memᴰ h k → Way l k apart ins outs)
right_one (along {h = h} m p o q) = (h, o, λ k i. along m p i q)

-- Such a list group by group: no way through the first i groups, then through one more; one through a group is one through the
-- list.
module _ (W : List ℕ → List ℕ → List ℕ → Type 0)
    (one : (l ins outs : List ℕ) → W l ins outs → (g : ℕ) × Memᴰ g l × ((k : List ℕ) → Memᴰ g k → W k ins outs))
    (P : List ℕ → List ℕ → Type 0) where
  abbrev Through : List ℕ → Type 0
  Through l = (ins outs : List ℕ) × W l ins outs × P ins outs

  through_none : Through [] → ⊥
  through_none v = Memᴰ.not-nil (one [] v.0 v.1 v.2).1

  through_more : (t : List ℕ) (i : ℕ) → i < length t → (Through (take i t) → ⊥) → (Through (get_or t i 0 ∷ []) → ⊥)
      → Through (take (i + 1) t) → ⊥
  through_more t i l h n v =
      let w = one (take (i + 1) t) v.0 v.1 v.2 in
      ⊎_elim
      (λ m. h (v.0, v.1, w.2 (take i t) m, v.3))
      (λ e. n (v.0, v.1, w.2 (get_or t i 0 ∷ []) (Memᴰ.head e), v.3))
      (in_take_next t i w.0 l w.1)

  through_one : (t : List ℕ) (i : ℕ) → i < length t → Through (get_or t i 0 ∷ []) → Through t
  through_one t i l v =
      let w = one (get_or t i 0 ∷ []) v.0 v.1 v.2 in
      (v.0, v.1, w.2 t (Memᴰ.cast (Memᴰ.eq_of_singleton w.1) (get_d_in t i l)), v.3)

-- the left list of kinds 5 and 6
module _ {s : Sheet} (b : ListKind) (e : is_place b ≡ false) (t : List GroupNo) (r : List ℕ) where
  pub left_way_none : WayHad s b [] r → ⊥
  left_way_none = through_none (λ l. Way l r b) (λ l i o w. left_one e w) (PlaceHad s)

  pub left_way_more : (i : ℕ) → i < length t → (WayHad s b (take i (numbers_of t)) r → ⊥)
      → (WayHad s b ((get_or t i (record { 0 = 0 })).0 ∷ []) r → ⊥) → WayHad s b (take (i + 1) (numbers_of t)) r → ⊥
  left_way_more i l h n =
      through_more (λ l. Way l r b) (λ l i o w. left_one e w) (PlaceHad s) (numbers_of t) i (omega (arith, length_numbers t)) h
      (rw (number_at t i) n)

  pub left_way_found : {sizes marks : List ℕ} (i : ℕ) → i < length t → WayShown s b ((get_or t i (record { 0 = 0 })).0 ∷ []) r sizes marks
      → WayShown s b (numbers_of t) r sizes marks
  left_way_found {sizes} {marks} i l w =
      through_one (λ l. Way l r b) (λ l i o w. left_one e w) (λ i o. PlaceShown s i o sizes marks) (numbers_of t) i
      (omega (arith, length_numbers t)) (rw (number_at t i) w)

-- the right list of kind 6
module _ {s : Sheet} (l : List ℕ) (t : List GroupNo) where
  pub right_way_none : WayHad s apart l [] → ⊥
  right_way_none = through_none (λ r. Way l r apart) (λ r i o w. right_one w) (PlaceHad s)

  pub right_way_more : (i : ℕ) → i < length t → (WayHad s apart l (take i (numbers_of t)) → ⊥)
      → (WayHad s apart l ((get_or t i (record { 0 = 0 })).0 ∷ []) → ⊥) → WayHad s apart l (take (i + 1) (numbers_of t)) → ⊥
  right_way_more i h k n =
      through_more (λ r. Way l r apart) (λ r i o w. right_one w) (PlaceHad s) (numbers_of t) i (omega (arith, length_numbers t)) k
      (rw (number_at t i) n)

  pub right_way_found : {sizes marks : List ℕ} (i : ℕ) → i < length t → WayShown s apart l ((get_or t i (record { 0 = 0 })).0 ∷ []) sizes marks
      → WayShown s apart l (numbers_of t) sizes marks
  right_way_found {sizes} {marks} i h w =
      through_one (λ r. Way l r apart) (λ r i o w. right_one w) (λ i o. PlaceShown s i o sizes marks) (numbers_of t) i
      (omega (arith, length_numbers t)) (rw (number_at t i) w)

-- all left groups at once, one left group, one group of each list: one place
module _ {s : Sheet} where
  pub place_tried : {l r sizes marks : List ℕ} {x : Bool} → ((g : ℕ) → Memᴰ g l → 1 ≤ g) → PlaceJudged s l r sizes marks x
      → Tried s place l r sizes marks x
  place_tried {l} {r} a w = witnessed_as (λ v. (l, r, within_all a, v)) (λ v. place_only v.2 v.3) w
    where
      place_only : {ins outs : List ℕ} → Way l r place ins outs → PlaceHad s ins outs → PlaceHad s l r
      place_only (within_all p) v = v

  inside_only : {r ins outs : List ℕ} {g : ℕ} → Way (g ∷ []) r inside ins outs → PlaceHad s ins outs → PlaceHad s (g ∷ []) r
  inside_only (away m p) v = let i = Memᴰ.eq_of_singleton m in rw i at v

  both_only : {ins outs : List ℕ} {g h : ℕ} → Way (g ∷ []) (h ∷ []) apart ins outs → PlaceHad s ins outs
      → PlaceHad s (g ∷ h ∷ []) []
  both_only {g = g} {h = h} (along {g = i} {h = j} m p o q) v =
      let a : i ≡ g = Memᴰ.eq_of_singleton m in
      let c : j ≡ h = Memᴰ.eq_of_singleton o in
      let d : i ∷ j ∷ [] ≡ g ∷ h ∷ [] = cc in
      subst (λ l. PlaceHad s l []) d v

  pub inside_tried : {g : ℕ} {r sizes marks : List ℕ} {x : Bool} → 1 ≤ g → PlaceJudged s (g ∷ []) r sizes marks x
      → Tried s inside (g ∷ []) r sizes marks x
  inside_tried {g} {r} a w = witnessed_as (λ v. (g ∷ [], r, away (Memᴰ.head refl) a, v)) (λ v. inside_only v.2 v.3) w

  pub both_tried : {g h : ℕ} {sizes marks : List ℕ} {x : Bool} → 1 ≤ g → 1 ≤ h → PlaceJudged s (g ∷ h ∷ []) [] sizes marks x
      → Tried s apart (g ∷ []) (h ∷ []) sizes marks x
  both_tried {g} {h} a c w =
      witnessed_as
      (λ v. (g ∷ h ∷ [], [], along (Memᴰ.head refl) a (Memᴰ.head refl) c, v))
      (λ v. both_only v.2 v.3)
      w
