-- The tests that the scan makes: whether a rule of one member can be broken at a group, whether a member breaks it, whether some
-- member of several words does, whether a count does. Rules go by document 01's numbers.
use Rattle.std.specs.Prelude.{ℕ, ◌*◌, ◌+◌, ◌<◌, ◌≤◌, ◌≡◌, Bool, cond, ◌&&◌, not, true, false, List, eqb, ltb}
use Rattle.laws.specs.Sum.{bit}
use Rattle.laws.specs.Digit.{digit}
use Rattle.wire.specs.Limits.{no_end}
use Rattle.tables.specs.declared.groups.Group.{Group}
use Rattle.tables.specs.Groups.{parent_in, mode_in, lo_in, hi_in}
use Rattle.tables.specs.Modes.{disjoint_mode, cover_mode, same_mode}
use Rattle.rows.specs.RowsRead.{word_bits}
use Rattle.columns.specs.Columns.{in_column}

-- by a rule's number, 1 to 4
abbrev pub by_rule : ℕ → Bool → Bool → Bool → Bool → Bool
by_rule k a b c d = cond (eqb k 1) a (cond (eqb k 2) b (cond (eqb k 3) c d))

-- rules 1 and 2 need a parent, 2 one that is 'same', 3 needs 'cover' and 4 'disjoint' over several sons
unfoldable pub may_break : List Group → Bool → ℕ → ℕ → Bool
may_break t several g k =
    by_rule
    k
    (ltb 0 (parent_in t g))
    (ltb 0 (parent_in t g) && same_mode (mode_in t (parent_in t g)))
    (cover_mode (mode_in t g))
    (disjoint_mode (mode_in t g) && several)

-- whether member i of the columns c breaks rule k at group g, whose parent is p; column 0 of `some` and of `two` tells who is in
-- some son and who is in two
unfoldable pub member_breaks : ℕ → List ℕ → List ℕ → List ℕ → ℕ → ℕ → ℕ → Bool
member_breaks k c some two g p i =
    by_rule
    k
    (in_column c g i && not (in_column c p i))
    (in_column c p i && not (in_column c g i))
    (in_column c g i && not (in_column some 0 i))
    (in_column two 0 i)

-- the digits of a word tell which of its members pass a test
pub record MembersPassing (f : ℕ → Bool) (w word : ℕ) : Type 0 where
  pub each : (j : ℕ) → j < word_bits → digit word j ≡ bit (f (word_bits * w + j))

-- whether some member before `to`, and not before `from`, passes a test
pub record SomeMember (f : ℕ → Bool) (from to : ℕ) (r : Bool) : Type 0 where
  pub some : r ≡ true → (i : ℕ) × (from ≤ i) × (i < to) × (f i ≡ true)
  pub none : r ≡ false → (i : ℕ) → from ≤ i → i < to → f i ≡ false

-- whether a count c of group g breaks rule 5 or rule 6
unfoldable pub count_breaks : List Group → ℕ → ℕ → ℕ → Bool
count_breaks t c g k = cond (eqb k 5) (ltb c (lo_in t g)) (not (eqb (hi_in t g) no_end) && ltb (hi_in t g) c)
