-- What the scan has passed: groups, rules and members of which nothing is broken; and what its end says.
use Prim.Native.Nat.{ℕ, ◌<◌, ◌+◌, ◌≤◌, ◌*◌}
use mathlib.Core.Path.{◌≡◌, refl, sym, ◌∙◌}
use mathlib.Core.Bool.{false, Bool, true}
use mathlib.Core.List.{List}
use native.Mathlib.Omega.{arith}
use native.Mathlib.Numerals.{add-one}
use lib.ListN.{get_or}
use Rattle.tables.specs.declared.groups.Group.{Group as TableGroup}
use Rattle.laws.proofs.Cases.{compare_le, true_not_false, below_suc}
use Rattle.meaning.specs.Sheet.{Sheet, Group}
use Rattle.meaning.specs.SonList.{son_list}
use Rattle.meaning.specs.Sets.{Sets}
use Rattle.meaning.specs.Rule.{Rule, Broken, rule_number}
use Rattle.tables.specs.Groups.{parent_in, mode_in}
use Rattle.tables.specs.SheetIn.{sheet_in, Tabled}
use Rattle.tables.proofs.SheetInLaws.{size_in, group_in_law, parent_in_law}
use Rattle.rows.specs.RowsRead.{word_bits}
use Rattle.columns.specs.Columns.{column_sets, WordsFor}
use Rattle.columns.proofs.ColumnLaws.{columns_distinct}
use Rattle.sons.specs.SonLists.{kept_sons}
use Rattle.sons.specs.SonSteps.{several_sons}
use Rattle.rules.specs.Joins.{Joined, JoinedFor}
use Rattle.rules.specs.RuleTests.{member_breaks, SomeMember, may_break, count_breaks}
use Rattle.rules.proofs.JoinLaws.{two_sons}
use Rattle.rules.proofs.RuleLaws.{rule_last, may, by_member, member_of, may_is, may_asked, by_count, count_of}
use Rattle.registers.specs.Tallies.{Gathered}
use Rattle.registers.specs.Checked.{AnswerTo, broken_names}
use Rattle.registers.proofs.Unbroken.{unbroken_fits, fits_answered, broken_answered}
use Rattle.registers.specs.declared.check.Broken.{Broken as BrokenRule}
use Rattle.rules.specs.Meant.{rule_meant}
use Rattle.std.proofs.Common.{Ok, Option, Some, None, [], ◌∷◌, unwrap_or, zero, suc}
use Rattle.tables.specs.declared.groups.GroupNo.{GroupNo}
use Rattle.tables.specs.Names.{meant_number}
use Rattle.rules.specs.declared.rule.Rule.{Rule as CodeRule}
use Rattle.rules.specs.declared.rule.Rule.TheVariants as rule

-- the rules in the order of the scan: each has the number of its place, counted from 1
pub number_at : (d : CodeRule) (i : ℕ) → i < 6
    → rule_number (rule_meant (get_or (rule.Outside ∷ rule.Lacking ∷ rule.Uncovered ∷ rule.Shared ∷ rule.Below ∷ rule.Above ∷ []) i d)) ≡ i + 1
number_at d zero l = refl
number_at d (suc zero) l = refl
number_at d (suc (suc zero)) l = refl
number_at d (suc (suc (suc zero))) l = refl
number_at d (suc (suc (suc (suc zero)))) l = refl
number_at d (suc (suc (suc (suc (suc zero))))) l = refl
number_at d (suc (suc (suc (suc (suc (suc i)))))) l = absurd (omega arith)

-- the number of a parent, 0 where there is none
pub parent_number : (p : Option GroupNo) → (unwrap_or p (record { 0 = 0 })).0 ≡ meant_number p
parent_number None = refl
parent_number (Some g) = refl

-- nothing is broken at a group before g
pub record ClearGroups {X : Type 0} (s : Sheet) (A : Sets X) (g : ℕ) : Type 0 where
  pub clear : (h : ℕ) → Group s h → h < g → (q : Rule) → Broken s A h q → ⊥

-- no rule before number k is broken at group g
pub record ClearRules {X : Type 0} (s : Sheet) (A : Sets X) (g k : ℕ) : Type 0 where
  pub clear : (q : Rule) → rule_number q < k → Broken s A g q → ⊥

-- no member before `to` breaks rule k at group g
pub record ClearMembers (k : ℕ) (c some two : List ℕ) (g p to : ℕ) : Type 0 where
  pub clear : (i : ℕ) → i < to → member_breaks k c some two g p i ≡ false

pub members_none : (k : ℕ) (c some two : List ℕ) (g p : ℕ) → ClearMembers k c some two g p 0
members_none k c some two g p = record { clear = λ i l. absurd (omega arith) }

pub members_more : {k : ℕ} {c some two : List ℕ} {g p from to : ℕ} {r : Bool} → ClearMembers k c some two g p from
    → SomeMember (member_breaks k c some two g p) from to r → r ≡ false
    → ClearMembers k c some two g p to
members_more {from = from} d b e = record { clear = λ i l. compare_le from i (λ o. b.none e i o l) (λ o. d.clear i o) }

members_clash : {j k : ℕ} {c some two : List ℕ} {g o p to : ℕ} → j ≡ k → o ≡ p → ClearMembers k c some two g p to
    → (i : ℕ) → i < to → member_breaks j c some two g o i ≡ true → ⊥
members_clash d e f i l x = true_not_false _ (rw (d, e) at x) (f.clear i l)

pub groups_more : {X : Type 0} (s : Sheet) (A : Sets X) (g k : ℕ) → ClearGroups s A g → 7 ≤ k → ClearRules s A g k
    → ClearGroups s A (g + 1)
groups_more s A g k c l r =
    record {
      clear = λ h y m q b.
          below_suc h g (rw add-one at m)
          (λ (x : h ≡ g). r.clear q (omega (arith, rule_last q)) (rw x at b))
          (λ x. c.clear h y x q b);
    }

rules_more : {X : Type 0} (s : Sheet) (A : Sets X) (g k : ℕ) → ClearRules s A g k
    → ((q : Rule) → rule_number q ≡ k → Broken s A g q → ⊥)
    → ClearRules s A g (k + 1)
rules_more s A g k c f =
    record { clear = λ q l b. below_suc (rule_number q) k (rw add-one at l) (λ x. f q x b) (λ x. c.clear q x b) }

module _ {t : List TableGroup} {n : ℕ} {c : List ℕ} {members : ℕ} {starts : List ℕ} {order : List GroupNo}
    {counts : List ℕ} (T : Tabled t n) (G : Gathered t n c members starts order counts) where
  -- nothing is broken at any group
  pub scan_fits : (g : ℕ) → n < g → ClearGroups (sheet_in t n) (column_sets c members) g
      → AnswerTo (sheet_in t n) (column_sets c members) (Ok None)
  scan_fits g l d =
      record {
        names = record { group = 0; rule = 0 };
        gives = refl;
        answered = fits_answered (unbroken_fits (sheet_in t n) (column_sets c members) T.tree (columns_distinct c members)
            (λ h y q b. d.clear h y (omega (arith, y.last, size_in t n)) q b));
      }

  module _ {words : ℕ} {some two : List ℕ} (g k : ℕ) (a : 1 ≤ g) (b : g ≤ n) (f : WordsFor members words)
      (sons : JoinedFor (mode_in t g) (several_sons starts g) (kept_sons starts order g) c words some two)
      (r : ClearRules (sheet_in t n) (column_sets c members) g k) where
    group : Group (sheet_in t n) g
    group = group_in_law t n a b

    joined : (q : Rule) → 3 ≤ rule_number q → may (sheet_in t n) (several_sons starts g) g q ≡ true
        → Joined (son_list (sheet_in t n) g) c words some two
    joined q l m = rw (← G.sons.listed g group) (sons.joined (may_asked T g a b _ q l m))

    -- no member breaks the rule
    pub rules_member : k < 5 → (to : ℕ) → word_bits * words ≤ to → ClearMembers k c some two g (parent_in t g) to
        → ClearRules (sheet_in t n) (column_sets c members) g (k + 1)
    rules_member l to m d =
        rules_more (sheet_in t n) (column_sets c members) g k r
        (λ q e v.
        let x = (member_of (sheet_in t n) T.tree c members words some two g f G.others group (several_sons starts g)
        (two_sons G.sons group) joined q (omega arith) v).1 in
        members_clash e (parent_in_law t n g group) d x.0 (omega arith) x.2)

    -- the rule cannot be broken at the group
    pub rules_not : k < 5 → may_break t (several_sons starts g) g k ≡ false → ClearRules (sheet_in t n) (column_sets c members) g (k + 1)
    rules_not l d =
        rules_more (sheet_in t n) (column_sets c members) g k r
        (λ q e v.
        let x = (member_of (sheet_in t n) T.tree c members words some two g f G.others group (several_sons starts g)
        (two_sons G.sons group) joined q (omega arith) v).0 in
        true_not_false _ x (sym (may_is T g a b (several_sons starts g) q (omega arith)) ∙ (rw e d)))

    -- the count does not break the rule
    pub rules_count : 5 ≤ k → count_breaks t (get_or counts g 0) g k ≡ false
        → ClearRules (sheet_in t n) (column_sets c members) g (k + 1)
    rules_count l d =
        rules_more (sheet_in t n) (column_sets c members) g k r
        (λ q e v. count_of T g a b (column_sets c members) q (get_or counts g 0) (omega arith) (G.counts.each g group) (rw e d) v)

    module _ (d : ClearGroups (sheet_in t n) (column_sets c members) g) (p : BrokenRule) (e : p.group.0 ≡ g)
        (i : k ≡ rule_number (rule_meant p.rule)) where
      -- the rule is broken
      scan_broken : Broken (sheet_in t n) (column_sets c members) g (rule_meant p.rule)
          → AnswerTo (sheet_in t n) (column_sets c members) (Ok (Some p))
      scan_broken v =
          record {
            names = broken_names (Some p);
            gives = refl;
            answered = rw e (broken_answered (rule_meant p.rule) (record {
              group = group;
              broken = v;
              lowest = d.clear;
              first = λ q l. r.clear q (omega arith);
            }));
          }

      -- some member breaks it
      pub scan_member : k < 5 → (from to : ℕ) → to ≤ word_bits * words → may_break t (several_sons starts g) g k ≡ true
          → (x : Bool) → SomeMember (member_breaks k c some two g (parent_in t g)) from to x → x ≡ true
          → AnswerTo (sheet_in t n) (column_sets c members) (Ok (Some p))
      scan_member l from to m y x z h =
          let q = rule_meant p.rule in
          let j = z.some h in
          scan_broken
          (by_member (sheet_in t n) T.tree c members words some two g f G.others group (several_sons starts g) (two_sons G.sons group) joined
          q j.0 (omega arith) (omega arith)
          (sym (may_is T g a b (several_sons starts g) q (omega arith)) ∙ (rw (← i) y))
          (rw (← i, parent_in_law t n g group) j.3))

      -- the count breaks it
      pub scan_count : 5 ≤ k → count_breaks t (get_or counts g 0) g k ≡ true
          → AnswerTo (sheet_in t n) (column_sets c members) (Ok (Some p))
      scan_count l x =
          scan_broken
          (by_count T g a b (column_sets c members) (rule_meant p.rule) (get_or counts g 0) (omega arith) (G.counts.each g group) (rw (← i) x))
