-- Laws of flags: what barring one group and a whole list leaves.
use Prim.Native.Nat.{ℕ, ◌-◌, ◌≤◌, ◌+◌, ◌<◌}
use mathlib.Core.Path.{◌≡◌, refl, sym, ap, ◌∙◌}
use mathlib.Core.Bool.{Bool, true, false, not, ◌&&◌, ◌||◌}
use mathlib.Core.List.{List, [], ◌∷◌, ◌++◌}
use native.Mathlib.Omega.{arith}
use native.Mathlib.Numerals.{add-one}
use borrow.Author.Tests.{eq-eqb, ne_eqb}
use lib.ListN.{length, set, get_or, take}
use lib.Seq.{take-suc, get_or-set_same, get_or-set_other}
use lib.Dec.{eqb}
use Rattle.laws.proofs.Cases.{compare_eq}
use Rattle.wire.specs.Capacity.{group_capacity}
use Rattle.sizes.specs.ClaimsPlace.{is_in}
use Rattle.sizes.proofs.ClaimsPlaceLaws.{place_in}
use Rattle.spans.specs.declared.may.May.{May}
use Rattle.spans.specs.Held.{may_flag}
use Rattle.measuring.specs.Tables.{may_in, nowhere}
use Rattle.measuring.proofs.TablesLaws.{free_table, free_flag}
use Rattle.tables.specs.declared.groups.GroupNo.{GroupNo}
use Rattle.questions.specs.Groups.{numbers_of}
use Rattle.questions.proofs.GroupsLaws.{number_at, length_numbers}

-- the flag without one of its two: to be in the group (true) or out of it (false)
abbrev pub without : Bool → May → May
without true f = record { out = f.out; inn = false }
without false f = record { out = false; inn = f.inn }

-- u is the table t without that in the flags of the groups on the list
pub record Barred (t : List May) (d : Bool) (l : List ℕ) (u : List May) : Type 0 where
  pub own : (g : ℕ) → 1 ≤ g → may_in u g d ≡ may_in t g d && not (is_in g l)
  pub other : (g : ℕ) → 1 ≤ g → may_in u g (not d) ≡ may_in t g (not d)

without_own : (d : Bool) (f : May) → may_flag (without d f) d ≡ false
without_own true f = refl
without_own false f = refl

without_other : (d : Bool) (f : May) → may_flag (without d f) (not d) ≡ may_flag f (not d)
without_other true f = refl
without_other false f = refl

and_yes : (a : Bool) → a && true ≡ a
and_yes true = refl
and_yes false = refl

and_no : (a : Bool) → a && false ≡ false
and_no true = refl
and_no false = refl

-- a flag of one group
barred_one : (t : List May) (d : Bool) (g : ℕ) → 1 ≤ g → g ≤ length t
    → Barred t d (g ∷ []) (set t (g - 1) (without d (get_or t (g - 1) nowhere)))
unfolding is_in may_in
barred_one t d g a l =
    let f = get_or t (g - 1) nowhere in
    let x = without d f in
    let same = get_or-set_same t (g - 1) x nowhere (omega arith) in
    let other = λ (h : ℕ) (b : 1 ≤ h) (n : h ≡ g → ⊥). get_or-set_other t (g - 1) (h - 1) x nowhere (λ e. n (omega arith)) in
    record {
      own = λ h b. compare_eq h g
          (λ e. rw (e, eq-eqb g g refl) (ap (λ y. may_flag y d) same ∙ without_own d f ∙ sym (and_no (may_flag f d))))
          (λ n. rw (ne_eqb h g n) (ap (λ y. may_flag y d) (other h b n) ∙ sym (and_yes (may_flag (get_or t (h - 1) nowhere) d))));
      other = λ h b. compare_eq h g
          (λ e. rw e (ap (λ y. may_flag y (not d)) same ∙ without_other d f))
          (λ n. ap (λ y. may_flag y (not d)) (other h b n));
    }

-- no group
pub barred_none : (t : List May) (d : Bool) → Barred t d [] t
unfolding is_in
barred_none t d = record { own = λ g a. sym (and_yes (may_in t g d)); other = λ g a. refl }

in_append : (g : ℕ) (l r : List ℕ) → is_in g (l ++ r) ≡ is_in g l || is_in g r
unfolding is_in
in_append g [] r = refl
in_append g (h ∷ l) r = rw (in_append g l r) (or_assoc (eqb g h) (is_in g l) (is_in g r))
  where
    or_assoc : (a b c : Bool) → (a || (b || c)) ≡ ((a || b) || c)
    or_assoc true b c = refl
    or_assoc false b c = refl

-- one list after another
barred_more : {t u v : List May} {d : Bool} (l r : List ℕ) → Barred t d l u → Barred u d r v → Barred t d (l ++ r) v
barred_more {t} {d = d} l r x y = record {
  own = λ g a. y.own g a ∙ ap (λ b. b && not (is_in g r)) (x.own g a) ∙ neither (may_in t g d) (is_in g l) (is_in g r)
      ∙ ap (λ b. may_in t g d && not b) (sym (in_append g l r));
  other = λ g a. y.other g a ∙ x.other g a;
}
  where
    neither : (a b c : Bool) → ((a && not b) && not c) ≡ (a && not (b || c))
    neither true true c = refl
    neither true false c = refl
    neither false b c = refl

-- one more group of a list
pub barred_next : {t u : List May} {d : Bool} (l : List GroupNo) (i k : ℕ) → i < length l → k ≡ (get_or l i (record { 0 = 0 })).0 - 1
    → 1 ≤ (get_or l i (record { 0 = 0 })).0 → k < length u → Barred t d (take i (numbers_of l)) u
    → Barred t d (take (i + 1) (numbers_of l)) (set u k (without d (get_or u k nowhere)))
barred_next {u = u} {d = d} l i k h e a b x =
    let g = get_or (numbers_of l) i 0 in
    let same = number_at l i in
    let at : k ≡ g - 1 = omega arith in
    rw (add-one, take-suc (numbers_of l) i 0 (omega (arith, length_numbers l)), at)
    (barred_more (take i (numbers_of l)) (g ∷ []) x (barred_one u d g (omega arith) (omega arith)))

-- The flags of a place: not out of the groups of one list, not in those of another.
pub place_flags : {t u : List May} (ins outs : List ℕ) → Barred free_table false ins t → Barred t true outs u → (g : ℕ) → 1 ≤ g
    → g ≤ group_capacity
    → (c : Bool) → may_in u g c ≡ place_in ins outs g c
unfolding place_in
place_flags ins outs x y g a l true =
    y.own g a ∙ ap (λ b. b && not (is_in g outs)) (x.other g a ∙ free_flag g a l true)
place_flags ins outs x y g a l false =
    y.other g a ∙ x.own g a ∙ ap (λ b. b && not (is_in g ins)) (free_flag g a l false)
