-- The worked sheets that are shown by proof, those of document 01 and some for document 02, cards 1 and 3, and worked registers for
-- cards 2 and 4, in one list: `worked`. They speak of the meaning alone.
use Prim.Native.Nat.{ℕ, zero, suc, ◌+◌, ◌≤◌, ◌<◌, ◌-◌, zero-le}
use mathlib.Core.Path.{◌≡◌, subst, ap, refl, sym, ◌∙◌}
use mathlib.Core.Bool.{Bool, false, true, cond, false≢true, ◌&&◌, ◌||◌}
use mathlib.Core.List.{[], ◌∷◌, List}
use mathlib.Core.Logic.{◌↔◌}
use native.Mathlib.Omega.{arith}
use lib.Dec.{leb, ltb, eqb}
use native.Mathlib.Nat.{le_of_eq}
use Rattle.laws.specs.Sum.{bit, sum}
use Rattle.laws.specs.Digit.{digit}
use Rattle.laws.proofs.Cases.{compare_eq, split, not_true_false, true_not_false, and_true, or_true, or_left, or_false}
use Rattle.laws.proofs.SumLaws.{sum_le, sum_add, sum_zero, sum_gap_term, bit_le, bit_le_true, sum_tight, bit_most, true_bit, bit_true}
use Rattle.laws.proofs.SumLaws.{sum_term}
use Rattle.wire.specs.Member.{Side, left, right, side_number, one_member}
use Rattle.wire.specs.SheetFormat.{GroupRecord, NameRecord, lists, place, count, inside, apart}
use Rattle.wire.specs.RegisterFormat.{Row, in_group}
use Rattle.wire.proofs.Ears.{ear}
use Rattle.meaning.specs.Sheet.{Sheet, Group, Son, end_of, AtMost}
use Rattle.meaning.specs.Sons.{sons, is_son}
use Rattle.meaning.specs.SonList.{son_list, passing}
use Rattle.meaning.specs.Sets.{Sets, Distinct, numbered}
use Rattle.meaning.specs.Fits.{Possible, Fits, Attains, Meets, groups_of}
use Rattle.meaning.specs.Claim.{Breakable, count_named}
use Rattle.meaning.specs.Place.{Fillable, Question, all_say, some_place, every}
use Rattle.meaning.specs.Rule.{Broken}
use Rattle.meaning.specs.OfRecords.{sheet_of, claimed, members, listed_sets, listed}
use Rattle.meaning.proofs.SonLaws.{sons_sum, cover_bits, sons_locate, sons_one}
use Rattle.meaning.specs.Sets as sets
use Rattle.meaning.specs.Rule as rule

-- a group record: parent, lo, hi, mode
abbrev group : ℕ → ℕ → ℕ → ℕ → GroupRecord
group p l h m = record { parent = p; lo = l; hi = h; mode = m }

-- Disjoint root with the given hi, sons with lo 2 and 2.
abbrev pub pair : ℕ → Sheet
pair h = sheet_of (group 0 0 h 1 ∷ group 1 2 65535 0 ∷ group 1 2 65535 0 ∷ [])

-- 'Cover' leaf with the given lo.
abbrev pub leaf : ℕ → Sheet
leaf l = sheet_of (group 0 l 65535 2 ∷ [])

-- 'Same' with 'disjoint', two sons; one son.
abbrev pub twins : Sheet
twins = sheet_of (group 0 0 65535 5 ∷ group 1 0 65535 0 ∷ group 1 0 65535 0 ∷ [])

abbrev pub single : Sheet
single = sheet_of (group 0 0 65535 5 ∷ group 1 0 65535 0 ∷ [])

-- Root 5 to 5, no mode, sons A 0 to 5, B 5 to 5.
abbrev pub forced : Sheet
forced = sheet_of (group 0 5 5 0 ∷ group 1 0 5 0 ∷ group 1 5 5 0 ∷ [])

-- 'Cover' root with the given lo, sons with hi 3 and 2.
abbrev pub shared : ℕ → Sheet
shared l = sheet_of (group 0 l 65535 2 ∷ group 1 0 3 0 ∷ group 1 0 2 0 ∷ [])

-- Root without upper end.
abbrev pub endless : Sheet
endless = sheet_of (group 0 0 65535 0 ∷ [])

-- 'Cover' root 2 to 2, three sons 0 to 1.
abbrev pub trio : Sheet
trio = sheet_of (group 0 2 2 2 ∷ group 1 0 1 0 ∷ group 1 0 1 0 ∷ group 1 0 1 0 ∷ [])

-- Root with the sons 2, 3 and 5; group 2 with the son 4.
abbrev pub family : Sheet
family = sheet_of (group 0 0 9 0 ∷ group 1 0 9 0 ∷ group 1 0 9 0 ∷ group 2 0 9 0 ∷ group 1 0 9 0 ∷ [])

-- names 1 to 4 for groups 1 to 4, name 5 for the empty set
abbrev names : List NameRecord
names =
    record { group = 1; label = 82 ∷ [] } ∷ record { group = 2; label = 65 ∷ [] } ∷ record { group = 3; label = 66 ∷ [] }
    ∷ record { group = 4; label = 67 ∷ [] }
    ∷ record { group = 0; label = 69 ∷ [] }
    ∷ []

-- the claim holds: some sets fit, and none of them break it; for kind 7 some have the member
abbrev pub Holds : Sheet → Question → Type 0
Holds s (all_say c) = Possible s × (Breakable s c → ⊥)
Holds s (some_place l r) = Fillable s l r

-- the claim is denied: some sets that fit break it; for kind 7 some fit, and none of them have the member
abbrev pub Denied : Sheet → Question → Type 0
Denied s (all_say c) = Breakable s c
Denied s (some_place l r) = Possible s × (Fillable s l r → ⊥)

-- asks for a member of all the named sets; nobody is in the empty set, so nobody is left out
abbrev together : List ℕ → Question
together l = claimed names (lists place l (5 ∷ []))

-- a row that names an ear, with its first membership byte
abbrev row : ℕ → Side → ℕ → Row
row n s b = record { member = ear n s; bits = b ∷ [] }

-- Surgery and rehabilitation each have a row for the left ear of recipient 7, in the root and one of its sons; the left ear of
-- recipient 9 has one row, in the root.
abbrev pub visits : List Row
visits = row 7 left 3 ∷ row 7 left 5 ∷ row 9 left 1 ∷ []

-- Two such rows, for the left and the right ear of recipient 7.
abbrev pub ears : List Row
ears = row 7 left 3 ∷ row 7 right 5 ∷ []

-- Disjoint root, two sons.
abbrev pub wards : Sheet
wards = sheet_of (group 0 0 65535 1 ∷ group 1 0 65535 0 ∷ group 1 0 65535 0 ∷ [])

-- A root and its son, with one member each.
abbrev pub alike : Sheet
alike = sheet_of (group 0 1 1 0 ∷ group 1 1 1 0 ∷ [])

-- One row for the son and one for the root, of one ear; and of two ears of one recipient.
abbrev pub spread : List Row
spread = row 7 left 2 ∷ row 7 left 1 ∷ []

abbrev pub astray : List Row
astray = row 7 left 1 ∷ row 7 right 2 ∷ []

-- the worked sheets: each as document 01 has it, `trio` for document 02, card 1, and `family` for card 3; the worked registers are
-- for cards 2 (`visits`, `spread`) and 4 (`ears`, `astray`)
pub record Worked : Type 0 where
  pub pair_three : Possible (pair 3) → ⊥
  pub pair_four : Possible (pair 4)
  pub leaf_zero : (k : ℕ) → Attains (leaf 0) 1 k ↔ (k ≡ 0)
  pub leaf_one : Possible (leaf 1) → ⊥
  pub twins_empty : (g : ℕ) → Group twins g → (k : ℕ) → Attains twins g k ↔ (k ≡ 0)
  -- merely equal: any sets fit in which root and son have the same members, and no others; so any count is possible
  pub single_equal : (A : Sets ℕ) → Distinct A → Fits single A ↔ ((i : ℕ) → i < A.bound → groups_of A i 2 ≡ groups_of A i 1)
  pub single_any : (g : ℕ) → Group single g → (k : ℕ) → Attains single g k
  pub forced_inside : Holds forced (claimed names (lists inside (2 ∷ []) (3 ∷ [])))
  pub shared_five : Holds (shared 5) (claimed names (lists apart (2 ∷ []) (3 ∷ [])))
  pub shared_four : Denied (shared 4) (claimed names (lists apart (2 ∷ []) (3 ∷ [])))
  pub endless_below : Denied endless (claimed names (count 1 0 65534))
  pub endless_any : Holds endless (claimed names (count 1 0 65535))
  -- any two sons can share a member, all three can't
  pub trio_two : Holds trio (together (2 ∷ 3 ∷ [])) × Holds trio (together (2 ∷ 4 ∷ [])) × Holds trio (together (3 ∷ 4 ∷ []))
  pub trio_three : Denied trio (together (2 ∷ 3 ∷ 4 ∷ []))
  -- nobody is in the empty set, or in a group and out of it
  pub trio_empty : Denied trio (claimed names (lists place (5 ∷ []) (1 ∷ [])))
  pub trio_both : Denied trio (claimed names (lists place (2 ∷ []) (2 ∷ [])))
  -- exactly the sons, in number order, also where another group's number lies between
  pub family_sons : (son_list family 1 ≡ 2 ∷ 3 ∷ 5 ∷ []) × (son_list family 2 ≡ 4 ∷ []) × (son_list family 3 ≡ [])
  -- two rows of one member: two members in all, a group in both rows counts one, and the sons share the member
  pub visits_members : members visits ≡ ear 7 left ∷ ear 9 left ∷ []
  pub visits_counts : (sets.count (listed_sets visits) 1 ≡ 2) × (sets.count (listed_sets visits) 2 ≡ 1) × (sets.count (listed_sets visits) 3 ≡ 1)
  pub visits_shared : Broken wards (listed_sets visits) 1 rule.shared
  -- the son's bit in one row, its parent's in the other: nothing is broken
  pub spread_fits : Fits alike (listed_sets spread)
  -- two ears of one recipient: two members, both in the root, each in a son of its own, which share nobody
  pub ears_members : members ears ≡ ear 7 left ∷ ear 7 right ∷ []
  pub ears_counts : (sets.count (listed_sets ears) 1 ≡ 2) × (sets.count (listed_sets ears) 2 ≡ 1) × (sets.count (listed_sets ears) 3 ≡ 1)
  pub ears_fit : Fits wards (listed_sets ears)
  -- one ear in the root does not stand for the other
  pub astray_outside : Broken alike (listed_sets astray) 2 rule.outside

-- P of each of the n numbers from k on
abbrev From : (ℕ → Type 0) → ℕ → ℕ → Type 0
From P k zero = Unit {0}
From P k (suc n) = P k × From P (suc k) n

from : (P : ℕ → Type 0) (k n : ℕ) → From P k n → (m : ℕ) → k ≤ m → m < k + n → P m
from P k zero w m l h = absurd (omega arith)
from P k (suc n) w m l h =
    compare_eq k m (λ e. subst P e w.0) (λ d. from P (suc k) n w.1 m (omega arith) (omega arith))

-- what holds of groups 1 to the last holds of every group
each : (P : ℕ → Type 0) (s : Sheet) → From P 1 s.size → (g : ℕ) → Group s g → P g
each P s w g q = from P 1 s.size w g q.first (omega (arith, q.last))

-- what holds of groups 2 to the last and their parents holds of every son
each_son : (P : ℕ → ℕ → Type 0) (s : Sheet) → s.parent 1 ≡ 0 → From (λ g. P (s.parent g) g) 2 (s.size - 1)
    → (p g : ℕ) → Son s p g → P p g
each_son P s top w p g k =
    let later : 2 ≤ g = compare_eq 1 g (λ e. absurd (omega (arith, k.above, k.under, top, ap s.parent e)))
    (λ d. omega (arith, k.group.first)) in
    subst (λ p. P p g) k.under (from (λ g. P (s.parent g) g) 2 (s.size - 1) w g later (omega (arith, k.group.last)))

-- counts of one sum at a time: what holds of every member's bits holds of the counts
module _ {s : Sheet} {A : Sets ℕ} (w : Fits s A) where
  -- a relation of bits
  under_two : (p g h : ℕ) → ((M : ℕ → Bool) → Meets s M → bit (M g) + bit (M h) ≤ bit (M p))
      → sets.count A g + sets.count A h ≤ sets.count A p
  unfolding sets.count
  under_two p g h q =
      rw (← (sum_add (λ i. bit (groups_of A i g)) (λ i. bit (groups_of A i h)) A.bound))
      (sum_le _ _ A.bound (λ i l. q (groups_of A i) (w.rules i l)))

  nobody : (g : ℕ) → ((M : ℕ → Bool) → Meets s M → M g ≡ false) → sets.count A g ≡ 0
  unfolding sets.count
  nobody g q = sum_zero _ A.bound (λ i l. ap bit (q (groups_of A i) (w.rules i l)))

-- two different sons of a 'disjoint' group, as bits
two_apart : {s : Sheet} {M : ℕ → Bool} → Meets s M → (p g h : ℕ) → Son s p g → Son s p h → (g ≡ h → ⊥) → s.disjoint p ≡ true
    → bit (M g) + bit (M h) ≤ bit (M p)
two_apart {M = M} w p g h a b d e =
    let first : M g ≡ true → M p ≡ true = w.inside p g a in
    let second : M h ≡ true → M p ≡ true = w.inside p h b in
    split (M g)
    (λ x. split (M h) (λ y. absurd (d (w.apart p g h a b e x y))) (λ y. rw (x, y, first x) (omega arith)))
    (λ x. split (M h) (λ y. rw (x, y, second y) (omega arith)) (λ y. rw (x, y) zero-le))

-- The counts of a 'cover' group's sons exceed its own at least by what they count one member too often.
cover_room : {s : Sheet} {A : Sets ℕ} → Fits s A → (p : ℕ) → Group s p → s.cover p ≡ true → (i : ℕ) → i < A.bound
    → sets.count A p + sons s p (λ g. bit (groups_of A i g)) ≤ sons s p (sets.count A) + bit (groups_of A i p)
unfolding sets.count
cover_room {s} {A} w p q e i l =
    rw (sons_sum s p (λ j g. bit (groups_of A j g)) A.bound)
    (sum_gap_term (λ j. bit (groups_of A j p)) (λ j. sons s p (λ g. bit (groups_of A j g))) A.bound i
    (λ j k. cover_bits (w.rules j k) p q e) l)

-- two tests that imply each other
both_ways : (a b : Bool) → (a ≡ true → b ≡ true) → (b ≡ true → a ≡ true) → a ≡ b
both_ways true b f g = sym (f refl)
both_ways false true f g = g refl
both_ways false false f g = refl

-- everybody in every group, n members
everybody : ℕ → Sets ℕ
everybody n = numbered n (λ g m. true)

count_everybody : (n g : ℕ) → sets.count (everybody n) g ≡ n
unfolding everybody sets.count sum
count_everybody zero g = refl
count_everybody (suc n) g = omega (arith, count_everybody n g)

-- the root has the numbers below n, son t those from b on, the other sons those below a
overlap : ℕ → ℕ → ℕ → ℕ → Sets ℕ
overlap t n a b = numbered n (λ g m. cond (eqb g t) (leb b m) (cond (eqb g 1) true (ltb m a)))

no_pair : Possible (pair 3) → ⊥
unfolding end_of digit
no_pair w =
    omega (
      arith,
      under_two w.1 1 2 3 (λ M m. two_apart m 1 2 3 (omega arith) (omega arith) (omega arith) refl),
      w.1.most 1 (omega arith),
      w.1.least 2 (omega arith),
      w.1.least 3 (omega arith),
    )

-- a 'cover' group without sons has nobody
bare : (l : ℕ) (A : Sets ℕ) → Fits (leaf l) A → sets.count A 1 ≡ 0
unfolding digit
bare l A w =
    nobody w 1
    (λ M m. not_true_false (M 1)
    (λ x. let c = m.covered 1 (omega arith) refl x in
    each (λ g. (leaf l).parent g ≡ 1 → ⊥) (leaf l) (λ e. omega arith, tt) c.0 c.1.group c.1.under))

-- 'same' with 'disjoint' over two sons leaves nobody in any of the three
twins_nobody : (A : Sets ℕ) → Fits twins A → (g : ℕ) → Group twins g → sets.count A g ≡ 0
unfolding digit
twins_nobody A w =
    let root : (M : ℕ → Bool) → Meets twins M → M 1 ≡ false =
    λ M m. not_true_false (M 1)
    (λ x. let e : ◌≡◌ {A = ℕ} 2 3 =
    m.apart 1 2 3 (omega arith) (omega arith) refl (m.equal 1 2 (omega arith) refl x) (m.equal 1 3 (omega arith) refl x) in
    omega arith) in
    let son : (g : ℕ) → Son twins 1 g → (M : ℕ → Bool) → Meets twins M → M g ≡ false =
    λ g k M m. not_true_false (M g) (λ x. true_not_false (M 1) (m.inside 1 g k x) (root M m)) in
    each (λ g. sets.count A g ≡ 0) twins (nobody w 1 root, (nobody w 2 (son 2 (omega arith)), (nobody w 3 (son 3 (omega arith)), tt)))

-- 'same' with 'disjoint' over one son asks no more than that the two have the same members
single_fits : (A : Sets ℕ) → Distinct A → ((i : ℕ) → i < A.bound → groups_of A i 2 ≡ groups_of A i 1) → Fits single A
unfolding end_of digit
single_fits A d e = record {
  distinct = d;
  rules = λ i l. record {
    inside = each_son (λ p g. groups_of A i g ≡ true → groups_of A i p ≡ true) single refl ((λ x. sym (e i l) ∙ x), tt);
    equal = each_son (λ p g. single.same p ≡ true → groups_of A i p ≡ true → groups_of A i g ≡ true) single refl ((λ s x. e i l ∙ x), tt);
    covered = λ p q c x. absurd (each (λ p. single.cover p ≡ true → ⊥) single (false≢true, (false≢true, tt)) p q c);
    apart = λ p g h a b s x y. only_son p g a ∙ sym (only_son p h b);
  };
  least = each (λ g. single.lo g ≤ sets.count A g) single (zero-le, (zero-le, tt));
  most = each (λ g. AtMost (sets.count A g) (single.hi g)) single (tt, (tt, tt));
}
  where
    only_son : (p g : ℕ) → Son single p g → g ≡ 2
    only_son = each_son (λ p g. g ≡ 2) single refl (refl, tt)

-- B has as many as the root and is part of it, so it is the root
inside_forced : (A : Sets ℕ) → Fits forced A → (i : ℕ) → i < A.bound → groups_of A i 2 ≡ true → groups_of A i 3 ≡ true
unfolding end_of sets.count
inside_forced A w i l x =
    bit_le_true (groups_of A i 1) (groups_of A i 3)
    (le_of_eq
    (sym
    (sum_tight (λ i. bit (groups_of A i 3)) (λ i. bit (groups_of A i 1)) A.bound
    (λ j k. bit_le _ _ ((w.rules j k).inside 1 3 (omega arith))) (omega (arith, w.most 1 (omega arith), w.least 3 (omega arith))) i l)))
    ((w.rules i l).inside 1 2 (omega arith) x)

-- the counts of `shared 5` leave no room for a member in both sons
shared_nobody : (A : Sets ℕ) → Fits (shared 5) A → (i : ℕ) → i < A.bound → groups_of A i 2 ≡ true → groups_of A i 3 ≡ true → ⊥
unfolding end_of digit sons is_son sum
shared_nobody A w i l x y =
    omega (
      arith,
      cover_room w 1 (omega arith) refl i l,
      bit_most (groups_of A i 1),
      true_bit x,
      true_bit y,
      w.least 1 (omega arith),
      w.most 2 (omega arith),
      w.most 3 (omega arith),
    )

-- those of `trio` leave none for a member in all three
trio_nobody : (A : Sets ℕ) → Fits trio A → (i : ℕ) → i < A.bound → every A (2 ∷ 3 ∷ 4 ∷ []) (A.who i) ≡ true → ⊥
unfolding end_of digit sons is_son sum
trio_nobody A w i l e =
    let x = and_true (groups_of A i 2) (groups_of A i 3 && (groups_of A i 4 && true)) e in
    let y = and_true (groups_of A i 3) (groups_of A i 4 && true) x.1 in
    let z = and_true (groups_of A i 4) true y.1 in
    omega (
      arith,
      cover_room w 1 (omega arith) refl i l,
      bit_most (groups_of A i 1),
      true_bit x.0,
      true_bit y.0,
      true_bit z.0,
      w.least 1 (omega arith),
      w.most 2 (omega arith),
      w.most 3 (omega arith),
      w.most 4 (omega arith),
    )

endless_sets : (n : ℕ) → Fits endless (everybody n)
unfolding everybody end_of digit
endless_sets n = record {
  distinct = record { once = λ i j a b e. e };
  rules = λ i l. record {
    inside = λ p g a x. refl;
    equal = λ p g a e x. refl;
    covered = λ p q e x. absurd (each (λ p. endless.cover p ≡ true → ⊥) endless (false≢true, tt) p q e);
    apart = λ p g h a b e x y. omega (arith, a.group, b.group);
  };
  least = each (λ g. endless.lo g ≤ sets.count (everybody n) g) endless (zero-le, tt);
  most = each (λ g. AtMost (sets.count (everybody n) g) (endless.hi g)) endless (tt, tt);
}

-- a count of a named group is the group's count
count_named_law : {X : Type 0} (A : Sets X) (g : ℕ) → count_named A (suc g) ≡ sets.count A (suc g)
unfolding count_named sets.count
count_named_law A g = refl

-- How far a member is from meeting the rules of sons, at the son g of p, and 'cover', at p. On given sets this computes.
abbrev son_breach : Sheet → (ℕ → Bool) → ℕ → ℕ → ℕ
son_breach s M p g =
    (bit (M g) - bit (M p)) + (bit (s.same p) + bit (M p) - (1 + bit (M g)))
    + (cond (s.disjoint p) (sons s p (λ h. bit (M h))) 0 - 1)

abbrev cover_breach : Sheet → (ℕ → Bool) → ℕ → ℕ
cover_breach s M p = bit (s.cover p) + bit (M p) - (1 + sons s p (λ g. bit (M g)))

meets_by : (s : Sheet) (M : ℕ → Bool) → ((p g : ℕ) → Son s p g → son_breach s M p g ≡ 0)
    → ((p : ℕ) → Group s p → cover_breach s M p ≡ 0) → Meets s M
meets_by s M son cover = record {
  inside = λ p g k. bit_le_true (M g) (M p) (omega (arith, son p g k));
  equal = λ p g k e x. bit_true (M g) (omega (arith, son p g k, true_bit e, true_bit x));
  covered = λ p q e x.
      let w = sons_locate s p (λ g. bit (M g)) 0 (omega (arith, cover p q, true_bit e, true_bit x)) in
      (w.0, w.1, bit_true (M w.0) (omega arith));
  apart = λ p g h j k e x y.
      sons_one (λ h. bit (M h)) j k (omega (arith, rw e at (son p g j))) (omega (arith, true_bit x)) (omega (arith, true_bit y));
}

-- What computes on given sets of n members: nobody breaks a rule, and every count is within its bounds.
record Checks (s : Sheet) (n : ℕ) (h : ℕ → ℕ → Bool) : Type 0 where
  top : s.parent 1 ≡ 0
  son : From (λ g. sum (λ i. son_breach s (λ g. h g i) (s.parent g) g) n ≡ 0) 2 (s.size - 1)
  cover : From (λ p. sum (λ i. cover_breach s (λ g. h g i) p) n ≡ 0) 1 s.size
  counts : From (λ g. (s.lo g ≤ sets.count (numbered n h) g) × AtMost (sets.count (numbered n h) g) (s.hi g)) 1 s.size

fits_by : {s : Sheet} {n : ℕ} {h : ℕ → ℕ → Bool} → Checks s n h → Fits s (numbered n h)
fits_by {s} {n} {h} c = record {
  distinct = record { once = λ i j a b e. e };
  rules = λ i l.
      meets_by s (λ g. h g i)
      (λ p g k. omega (
        arith,
        sum_term (λ i. son_breach s (λ g. h g i) p g) n i l,
        each_son (λ p g. sum (λ i. son_breach s (λ g. h g i) p g) n ≡ 0) s c.top c.son p g k,
      ))
      (λ p q. omega (arith, sum_term (λ i. cover_breach s (λ g. h g i) p) n i l, each _ s c.cover p q));
  least = λ g q. (each _ s c.counts g q).0;
  most = λ g q. (each _ s c.counts g q).1;
}

trio_possible : Possible trio
unfolding overlap end_of sets.count sum digit sons is_son
trio_possible = (overlap 4 2 1 1, fits_by (omega arith))

-- one name alone
alone : (b : Bool) → (b || false) ≡ true → b ≡ true
alone b e = or_true b false e (λ x. x) (λ x. absurd (false≢true x))

-- the one member of `spread` is in both groups
spread_alike : Fits alike (listed_sets spread)
unfolding end_of digit members listed in_group side_number one_member sum sets.count
spread_alike = record {
  distinct = record { once = λ i j k l e. omega arith };
  rules = λ i l. let first : i ≡ 0 = omega arith in rw first meets;
  least = each (λ g. alike.lo g ≤ sets.count (listed_sets spread) g) alike (omega arith, (omega arith, tt));
  most = each (λ g. AtMost (sets.count (listed_sets spread) g) (alike.hi g)) alike (omega arith, (omega arith, tt));
}
  where
    both : (g : ℕ) → Group alike g → groups_of (listed_sets spread) 0 g ≡ true
    both = each (λ g. groups_of (listed_sets spread) 0 g ≡ true) alike (refl, (refl, tt))

    no_mode : (f : ℕ → Bool) → f 1 ≡ false → f 2 ≡ false → (g : ℕ) → Group alike g → f g ≡ true → ⊥
    no_mode f a b = each (λ g. f g ≡ true → ⊥) alike ((λ e. true_not_false (f 1) e a), ((λ e. true_not_false (f 2) e b), tt))

    only_son : (p g : ℕ) → Son alike p g → g ≡ 2
    only_son = each_son (λ p g. g ≡ 2) alike refl (refl, tt)

    meets : Meets alike (groups_of (listed_sets spread) 0)
    meets = record {
      inside = each_son (λ p g. groups_of (listed_sets spread) 0 g ≡ true → groups_of (listed_sets spread) 0 p ≡ true) alike refl ((λ e. refl), tt);
      equal = λ p g k e m. both g k.group;
      covered = λ p k e m. absurd (no_mode alike.cover refl refl p k e);
      apart = λ p g h k o e x y. only_son p g k ∙ sym (only_son p h o);
    }

-- of who is in the root, and not in both sons, `wards` asks no more
meets_wards : (M : ℕ → Bool) → M 1 ≡ true → (M 2 ≡ true → M 3 ≡ true → ⊥) → Meets wards M
unfolding digit
meets_wards M root two = record {
  inside = each_son (λ p g. M g ≡ true → M p ≡ true) wards refl ((λ e. root), ((λ e. root), tt));
  equal = each_son (λ p g. wards.same p ≡ true → M p ≡ true → M g ≡ true) wards refl
      ((λ e m. absurd (false≢true e)), ((λ e m. absurd (false≢true e)), tt));
  covered = λ p k e m. absurd (no_cover p k e);
  apart = λ p g h k o e x y. alone_in p g k h o x y;
}
  where
    no_cover : (p : ℕ) → Group wards p → wards.cover p ≡ true → ⊥
    no_cover = each (λ p. wards.cover p ≡ true → ⊥) wards (false≢true, (false≢true, (false≢true, tt)))

    alone_in : (p g : ℕ) → Son wards p g → (h : ℕ) → Son wards p h → M g ≡ true → M h ≡ true → g ≡ h
    alone_in = each_son (λ p g. (h : ℕ) → Son wards p h → M g ≡ true → M h ≡ true → g ≡ h) wards refl (
      (λ h o x y. each_son (λ p h. M h ≡ true → 2 ≡ h) wards refl ((λ z. refl), ((λ z. absurd (two x z)), tt)) 1 h o y),
      ((λ h o x y. each_son (λ p h. M h ≡ true → 3 ≡ h) wards refl ((λ z. absurd (two z x)), ((λ z. refl), tt)) 1 h o y), tt),
    )

-- each ear is a member by itself
ears_apart : Fits wards (listed_sets ears)
unfolding end_of digit members listed in_group side_number one_member sum sets.count
ears_apart = record {
  distinct = record {
    once = λ i j k l e.
        compare_eq i j (λ z. z)
        (λ z. absurd (compare_eq i 0
        (λ x. let y : j ≡ 1 = omega arith in omega (arith, ap (λ m. side_number m.side) (rw (x, y) at e)))
        (λ x. let w : i ≡ 1 = omega arith in let y : j ≡ 0 = omega arith in omega (arith, ap (λ m. side_number m.side) (rw (w, y) at e)))));
  };
  rules = λ i l. compare_eq i 0
      (λ e. rw e (meets_wards (groups_of (listed_sets ears) 0) refl (λ x y. false≢true y)))
      (λ e. let f : i ≡ 1 = omega arith in rw f (meets_wards (groups_of (listed_sets ears) 1) refl (λ x y. false≢true x)));
  least = each (λ g. wards.lo g ≤ sets.count (listed_sets ears) g) wards (omega arith, (omega arith, (omega arith, tt)));
  most = each (λ g. AtMost (sets.count (listed_sets ears) g) (wards.hi g)) wards (tt, (tt, (tt, tt)));
}

pub worked : Worked
unfolding claimed overlap everybody end_of digit sons is_son passing members listed in_group side_number one_member sum sets.count
worked = record {
  pair_three = no_pair;
  pair_four = (overlap 3 4 2 2, fits_by (omega arith));
  leaf_zero = λ k. (
    λ w. sym w.2 ∙ bare 0 w.0 w.1,
    λ e. (everybody 0, fits_by (omega arith), sym e),
  );
  leaf_one = λ w. omega (arith, bare 1 w.0 w.1, w.1.least 1 (omega arith));
  twins_empty = λ g q k. (
    λ w. sym w.2 ∙ twins_nobody w.0 w.1 g q,
    λ e. (everybody 0, fits_by (omega arith), sym e),
  );
  single_equal = λ A d. (
    λ w i l. both_ways _ _ ((w.rules i l).inside 1 2 (omega arith)) ((w.rules i l).equal 1 2 (omega arith) refl),
    single_fits A d,
  );
  single_any = λ g q k. (
    everybody k,
    single_fits (everybody k) (record { once = λ i j a b e. e }) (λ i l. refl),
    count_everybody k g,
  );
  forced_inside = (
    (everybody 5, fits_by (omega arith)),
    λ w. w.2 (λ i l x. or_left _ false (inside_forced w.0 w.1 i l (alone _ x))),
  );
  shared_five = (
    (overlap 3 5 3 3, fits_by (omega arith)),
    λ w. w.2 (λ i l x y. shared_nobody w.0 w.1 i l (alone _ x) (alone _ y)),
  );
  shared_four = (
    overlap 3 4 3 2,
    fits_by (omega arith),
    λ says. says 2 (omega arith) refl refl,
  );
  endless_below = (everybody 65535, endless_sets 65535, λ says. omega (arith, says.1, count_named_law (everybody 65535) 0, count_everybody 65535 1));
  endless_any = ((everybody 0, endless_sets 0), λ w. w.2 (zero-le, tt));
  trio_two = (
    (overlap 4 2 1 1, fits_by (omega arith), (0, record { listed = omega arith; left = refl; right = refl })),
    (overlap 3 2 1 1, fits_by (omega arith), (0, record { listed = omega arith; left = refl; right = refl })),
    (overlap 2 2 1 1, fits_by (omega arith), (0, record { listed = omega arith; left = refl; right = refl })),
  );
  trio_three = (trio_possible, λ w. trio_nobody w.0 w.1 w.2.0 w.2.1.listed w.2.1.left);
  trio_empty = (trio_possible, λ w. false≢true w.2.1.left);
  trio_both = (
    trio_possible,
    λ w. let b = groups_of w.0 w.2.0 2 in
        true_not_false b (and_true b true w.2.1.left).0 (or_false b false w.2.1.right).0,
  );
  family_sons = (refl, refl, refl);
  visits_members = refl;
  visits_counts = (refl, refl, refl);
  visits_shared = (2, 3, 0, refl, omega arith, omega arith, omega arith, omega arith, refl, refl);
  spread_fits = spread_alike;
  ears_members = refl;
  ears_counts = (refl, refl, refl);
  ears_fit = ears_apart;
  astray_outside = (1, 1, omega arith, omega arith, refl, refl);
}
