-- The interval of a group from the intervals of its sons, taken from the last son to the first. Each group has two
-- intervals, for one member out of it (false) and in it (true); the number does not count that member.
use Rattle.std.specs.Prelude.{ℕ, zero, suc, ◌-◌, ◌≡◌, cond, Bool, false, true, ltb}
use Rattle.meaning.specs.Sheet.{Sheet, fin, inf, Top, Group}
use Rattle.meaning.specs.Sons.{is_son}
use Rattle.meaning.specs.SonList.{son_count}
use Rattle.sizes.specs.Span.{Kind, lap, add, eq, Span, none, span, hull, join, make, meet}

-- how the sons of p are joined
unfoldable pub join_kind : Sheet → ℕ → Kind
join_kind s p = cond (s.same p) eq (cond (s.disjoint p) add lap)

-- whether the sons alone must make up p: 'cover'; under 'same' that is so by itself with one son, and with two or more
-- sons under 'same' and 'disjoint' nobody is left
unfoldable pub shut : Sheet → ℕ → Bool
shut s p = cond (s.same p) (cond (ltb 1 (son_count s p)) (s.disjoint p) (cond (ltb 0 (son_count s p)) false (s.cover p))) (s.cover p)

-- the intervals before any son is joined
unfoldable pub start : Bool → Bool → Span
start true true = none
start true false = span 0 (fin 0)
start false c = span 0 inf

-- one more son, with intervals z, joined to those joined so far, a
unfoldable pub joined : Kind → (Bool → Span) → (Bool → Span) → Bool → Span
joined q a z false = join q (a false) (z false)
joined lap a z true = hull (hull (join lap (a true) (z false)) (join lap (a false) (z true))) (join lap (a true) (z true))
joined add a z true = hull (join add (a true) (z false)) (join add (a false) (z true))
joined eq a z true = join eq (a true) (z true)

-- the sons of p among the last k groups, joined from the last one on
unfoldable pub later : Sheet → (ℕ → Bool → Span) → ℕ → ℕ → Bool → Span
later s z p zero c = start (shut s p) c
later s z p (suc k) c = cond (is_son s p (s.size - k)) (joined (join_kind s p) (later s z p k) (z (s.size - k)) c) (later s z p k c)

-- upper end less 1 for the member in the group, none where there is no room for it
abbrev pub own_to : ℕ → Top → Bool → Span
own_to l u false = make l u
own_to l inf true = span (l - 1) inf
own_to l (fin u) true = cond (ltb 0 u) (make (l - 1) (fin (u - 1))) none

-- the numbers r with lo ≤ r + c ≤ hi, where the member may be out of (in) the group
unfoldable pub own : Sheet → (ℕ → Bool → Bool) → ℕ → Bool → Span
own s may p c = cond (may p c) (own_to (s.lo p) (s.hi p) c) none

-- z gives every group its intervals
pub record Measured (s : Sheet) (may : ℕ → Bool → Bool) (z : ℕ → Bool → Span) : Type 0 where
  pub at : (p : ℕ) → Group s p → (c : Bool) → z p c ≡ meet (later s z p s.size c) (own s may p c)

-- existence: the fold done d times over
unfoldable pub spans_by : Sheet → (ℕ → Bool → Bool) → ℕ → ℕ → Bool → Span
spans_by s may zero g c = none
spans_by s may (suc d) g c = meet (later s (spans_by s may d) g s.size c) (own s may g c)

-- the spans of all groups
unfoldable pub spans_of : Sheet → (ℕ → Bool → Bool) → ℕ → Bool → Span
spans_of s may = spans_by s may s.size
