-- The tests of the scan say when a rule is broken at a group.
use Prim.Native.Nat.{ℕ, ◌*◌, ◌<◌, ◌≤◌}
use mathlib.Core.Path.{◌≡◌, refl, sym, ◌∙◌}
use mathlib.Core.Bool.{false, true, Bool, ◌&&◌, not, false≢true}
use mathlib.Core.List.{List}
use native.Mathlib.Omega.{arith}
use borrow.Author.Tests.{ne_eqb, lt-ltb, ltb-true, not-true, le-ltb, ltb-false}
use lib.Dec.{ltb, eqb}
use Rattle.laws.proofs.Cases.{and_true, compare_le, or_left, or_right, split}
use Rattle.wire.specs.Limits.{row_limit, no_end}
use Rattle.meaning.specs.Sheet.{Sheet, Group, Son, AtMost, end_of}
use Rattle.meaning.specs.Tree.{Tree}
use Rattle.meaning.specs.SonList.{son_list}
use Rattle.meaning.specs.Sets.{Sets, count}
use Rattle.meaning.specs.Rule.{Rule, outside, lacking, uncovered, shared, below, above, rule_number, Broken}
use Rattle.meaning.proofs.SonLaws.{son_parent}
use Rattle.tables.specs.declared.groups.Group.{Group as TableGroup}
use Rattle.tables.specs.Groups.{parent_in, lo_in, hi_in, mode_in}
use Rattle.tables.specs.Modes.{disjoint_mode, cover_mode, same_mode}
use Rattle.tables.specs.SheetIn.{sheet_in, Tabled}
use Rattle.tables.proofs.SheetInLaws.{group_in_law, parent_in_law, lo_in_law, hi_in_law, disjoint_in, cover_in, same_in, parent_below}
use Rattle.rows.specs.RowsRead.{word_bits}
use Rattle.columns.specs.Columns.{column_digit, in_column, column_sets, WordsFor}
use Rattle.columns.proofs.ColumnLaws.{bit_column, column_one, one_column}
use Rattle.rules.specs.Joins.{held_by, Joined, asks_sons}
use Rattle.rules.specs.RuleTests.{member_breaks, may_break, count_breaks}
use Rattle.rules.proofs.JoinLaws.{none_held, held_none, two_held, held_two}

zero_column : (t : List ℕ) (g i : ℕ) → column_digit t g i ≡ 0 → in_column t g i ≡ false
unfolding in_column
zero_column t g i e = ne_eqb (column_digit t g i) 1 (λ x. omega arith)

-- column 0 of `some` and of `two` tells in how many of the listed groups a member is
module _ {l c : List ℕ} {words : ℕ} {some two : List ℕ} (k : Joined l c words some two) (i : ℕ) (o : i < word_bits * words) where
  some_false : in_column some 0 i ≡ false → held_by c l i ≡ 0
  some_false e = let z = rw e at (bit_column some 0 i) in omega (arith, k.in_some i o)

  false_some : held_by c l i ≡ 0 → in_column some 0 i ≡ false
  false_some e = zero_column some 0 i (omega (arith, k.in_some i o))

  two_true : in_column two 0 i ≡ true → 1 < held_by c l i
  two_true e = omega (arith, column_one two 0 i e, k.in_two i o)

  true_two : 1 < held_by c l i → in_column two 0 i ≡ true
  true_two h = one_column two 0 i (omega (arith, k.in_two i o))

-- whether rule q, one of the first four, can be broken at a group of any sheet, with several sons or not
abbrev pub may : Sheet → Bool → ℕ → Rule → Bool
may s several g outside = ltb 0 (s.parent g)
may s several g lacking = ltb 0 (s.parent g) && s.same (s.parent g)
may s several g uncovered = s.cover g
may s several g shared = s.disjoint g && several
may s several g below = false
may s several g above = false

-- A rule of one member is broken exactly by a member that breaks it, where it can be broken. Columns have no digits from member n on.
module _ (s : Sheet) (T : Tree s) (c : List ℕ) (n words : ℕ) (some two : List ℕ) (g : ℕ) (f : WordsFor n words)
    (others : (h i : ℕ) → Group s h → n ≤ i → i < row_limit → column_digit c h i ≡ 0) (y : Group s g)
    (several : Bool) (two_sons : (h j : ℕ) → Son s g h → Son s g j → h < j → several ≡ true)
    (k : (q : Rule) → 3 ≤ rule_number q → may s several g q ≡ true → Joined (son_list s g) c words some two) where
  in_members : (h i : ℕ) → Group s h → i < word_bits * words → in_column c h i ≡ true → i < n
  in_members h i z o e =
      compare_le n i
      (λ m. absurd (omega (arith, column_one c h i e, others h i z m (omega (arith, f.most)))))
      (λ m. m)

  pub by_member : (q : Rule) (i : ℕ) → rule_number q < 5 → i < word_bits * words → may s several g q ≡ true
      → member_breaks (rule_number q) c some two g (s.parent g) i ≡ true
      → Broken s (column_sets c n) g q
  unfolding member_breaks
  by_member outside i l o m e =
      let x = and_true (in_column c g i) (not (in_column c (s.parent g) i)) e in (
        s.parent g,
        i,
        record { above = ltb-true 0 (s.parent g) m; group = y; under = refl },
        in_members g i y o x.0,
        x.0,
        not-true _ x.1,
      )
  by_member lacking i l o m e =
      let x = and_true (in_column c (s.parent g) i) (not (in_column c g i)) e in
      let v = and_true (ltb 0 (s.parent g)) (s.same (s.parent g)) m in
      let z : Son s (s.parent g) g = record { above = ltb-true 0 (s.parent g) v.0; group = y; under = refl } in
      (s.parent g, i, z, v.1, in_members (s.parent g) i (son_parent T z) o x.0, x.0, not-true _ x.1)
  by_member uncovered i l o m e =
      let x = and_true (in_column c g i) (not (in_column some 0 i)) e in (
        i,
        m,
        in_members g i y o x.0,
        x.0,
        none_held s c g i (some_false (k uncovered (omega arith) m) i o (not-true _ x.1)),
      )
  by_member shared i l o m e =
      let x = two_held s c g i (two_true (k shared (omega arith) m) i o e) in
      (x.0, x.1, i, (and_true (s.disjoint g) several m).0, x.2, x.3, x.4, in_members x.0 i x.2.group o x.5, x.5, x.6)
  by_member below i l o m e = absurd (omega arith)
  by_member above i l o m e = absurd (omega arith)

  pub member_of : (q : Rule) → rule_number q < 5 → Broken s (column_sets c n) g q
      → (may s several g q ≡ true) × ((i : ℕ) × (i < word_bits * words) × (member_breaks (rule_number q) c some two g (s.parent g) i ≡ true))
  unfolding member_breaks
  member_of outside l (p, i, z, o, a, b) =
      (lt-ltb 0 (s.parent g) (omega arith), (i, omega (arith, f.enough), rw (z.under, a, b)))
  member_of lacking l (p, i, z, m, o, a, b) =
      (rw (lt-ltb 0 (s.parent g) (omega arith), z.under) m, (i, omega (arith, f.enough), rw (z.under, a, b)))
  member_of uncovered l (i, m, o, a, h) =
      let w : i < word_bits * words = omega (arith, f.enough) in
      (m, (i, w, rw (a, false_some (k uncovered (omega arith) m) i w (held_none s c g i h))))
  member_of shared l (h, j, i, m, z, d, x, o, a, b) =
      let w : i < word_bits * words = omega (arith, f.enough) in
      let v : may s several g shared ≡ true = rw (m, two_sons h j z d x) in
      (v, (i, w, true_two (k shared (omega arith) v) i w (held_two s c g i h j z d x a b)))
  member_of below l v = absurd (omega arith)
  member_of above l v = absurd (omega arith)

pub rule_first : (q : Rule) → 1 ≤ rule_number q
rule_first outside = omega arith
rule_first lacking = omega arith
rule_first uncovered = omega arith
rule_first shared = omega arith
rule_first below = omega arith
rule_first above = omega arith

pub rule_last : (q : Rule) → rule_number q < 7
rule_last outside = omega arith
rule_last lacking = omega arith
rule_last uncovered = omega arith
rule_last shared = omega arith
rule_last below = omega arith
rule_last above = omega arith

-- the tests of a table of groups
module _ {t : List TableGroup} {n : ℕ} (k : Tabled t n) (g : ℕ) (a : 1 ≤ g) (b : g ≤ n) where
  group : Group (sheet_in t n) g
  group = group_in_law t n a b

  same_parent : (ltb 0 (parent_in t g) && same_mode (mode_in t (parent_in t g)))
      ≡ (ltb 0 (parent_in t g) && (sheet_in t n).same (parent_in t g))
  same_parent =
      compare_le 1 (parent_in t g)
      (λ o. rw (same_in t n (parent_in t g) (group_in_law t n o (omega (arith, parent_below k g (parent_in t g) b refl a)))))
      (λ o. rw (le-ltb 0 (parent_in t g) (omega arith)))

  module _ (several : Bool) where
    pub may_is : (q : Rule) → rule_number q < 5 → may_break t several g (rule_number q) ≡ may (sheet_in t n) several g q
    unfolding may_break
    may_is outside l = rw (parent_in_law t n g group)
    may_is lacking l = rw (parent_in_law t n g group) same_parent
    may_is uncovered l = rw (cover_in t n g group)
    may_is shared l = rw (disjoint_in t n g group)
    may_is below l = absurd (omega arith)
    may_is above l = absurd (omega arith)

    -- where rule 3 or rule 4 can be broken, the sons are asked for
    pub may_asked : (q : Rule) → 3 ≤ rule_number q → may (sheet_in t n) several g q ≡ true → asks_sons (mode_in t g) several ≡ true
    may_asked outside l m = absurd (omega arith)
    may_asked lacking l m = absurd (omega arith)
    may_asked uncovered l m = or_left (cover_mode (mode_in t g)) _ (sym (cover_in t n g group) ∙ m)
    may_asked shared l m =
        or_right (cover_mode (mode_in t g)) (disjoint_mode (mode_in t g) && several) (rw (← disjoint_in t n g group) m)
    may_asked below l m = absurd (false≢true m)
    may_asked above l m = absurd (false≢true m)

  -- a count that breaks a rule, and a rule that a count breaks
  over : (c h : ℕ) → (not (eqb h no_end) && ltb h c) ≡ true → AtMost c (end_of no_end h) → ⊥
  unfolding end_of
  over c h e m =
      let x = and_true (not (eqb h no_end)) (ltb h c) e in
      let y : c ≤ h = rw (not-true (eqb h no_end) x.0) at m in omega (arith, ltb-true h c x.1)

  not_over : (c h : ℕ) → (not (eqb h no_end) && ltb h c) ≡ false → AtMost c (end_of no_end h)
  unfolding end_of
  not_over c h e =
      split (eqb h no_end)
      (λ x. rw x tt)
      (λ x. rw x (ltb-false h c (let z = rw x at e in z)))

  pub by_count : {X : Type 0} (A : Sets X) (q : Rule) (c : ℕ) → 5 ≤ rule_number q → c ≡ count A g
      → count_breaks t c g (rule_number q) ≡ true
      → Broken (sheet_in t n) A g q
  unfolding count_breaks
  by_count A outside c l e x = absurd (omega arith)
  by_count A lacking c l e x = absurd (omega arith)
  by_count A uncovered c l e x = absurd (omega arith)
  by_count A shared c l e x = absurd (omega arith)
  by_count A below c l e x = rw (lo_in_law t n g group, ← e) (ltb-true c (lo_in t g) x)
  by_count A above c l e x = rw (hi_in_law t n g group, ← e) (over c (hi_in t g) x)

  pub count_of : {X : Type 0} (A : Sets X) (q : Rule) (c : ℕ) → 5 ≤ rule_number q → c ≡ count A g
      → count_breaks t c g (rule_number q) ≡ false
      → Broken (sheet_in t n) A g q → ⊥
  unfolding count_breaks
  count_of A outside c l e x v = absurd (omega arith)
  count_of A lacking c l e x v = absurd (omega arith)
  count_of A uncovered c l e x v = absurd (omega arith)
  count_of A shared c l e x v = absurd (omega arith)
  count_of A below c l e x v = let z : c < lo_in t g = rw (lo_in_law t n g group, ← e) at v in omega (arith, ltb-false c (lo_in t g) x)
  count_of A above c l e x v = (rw (hi_in_law t n g group, ← e) at v) (not_over c (hi_in t g) x)
