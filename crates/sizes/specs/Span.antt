-- Intervals of numbers, and how the interval of a group's sons so far is joined with that of one more son.
use Rattle.std.specs.Prelude.{ℕ, ◌≤◌, ◌+◌, min, max, ◌-◌, ◌≡◌, cond, Bool, true, leb}
use Rattle.meaning.specs.Sheet.{Top, AtMost, fin, inf}
use Rattle.meaning.specs.Arranged.{cap}

-- no number at all, or the numbers from a lower end to an upper end
pub data Span : Type 0 where
  none : Span
  span : ℕ → Top → Span

abbrev pub In : ℕ → Span → Type 0
In n none = ⊥
In n (span l u) = (l ≤ n) × AtMost n u

-- upper ends: sum, smaller, larger, and less a number (cut at 0)
abbrev pub plus : Top → Top → Top
plus (fin a) (fin b) = fin (a + b)
plus (fin a) inf = inf
plus inf (fin b) = inf
plus inf inf = inf

abbrev pub smaller : Top → Top → Top
smaller (fin a) (fin b) = fin (min a b)
smaller (fin a) inf = fin a
smaller inf (fin b) = fin b
smaller inf inf = inf

abbrev pub larger : Top → Top → Top
larger (fin a) (fin b) = fin (max a b)
larger (fin a) inf = inf
larger inf (fin b) = inf
larger inf inf = inf

-- the numbers from l to u, none where l is above u
abbrev pub make : ℕ → Top → Span
make l (fin u) = cond (leb l u) (span l (fin u)) none
make l inf = span l inf

-- what two spans share
unfoldable pub meet : Span → Span → Span
meet none b = none
meet (span l u) none = none
meet (span l u) (span m v) = make (max l m) (smaller u v)

-- the least span that holds both
unfoldable pub hull : Span → Span → Span
hull none b = b
hull (span l u) none = span l u
hull (span l u) (span m v) = span (min l m) (larger u v)

-- How the members of the sons so far (x) and of one more son (y) make up those of all of them (z):
-- lap, they may share members; add, they share none; eq, they are the same.
pub data Kind : Type 0 where
  lap : Kind
  add : Kind
  eq : Kind

abbrev pub Makes : Kind → ℕ → ℕ → ℕ → Type 0
Makes lap x y z = (x ≤ z) × (y ≤ z) × (z ≤ x + y)
Makes add x y z = x + y ≡ z
Makes eq x y z = (x ≡ z) × (y ≡ z)

-- the z made of an x in the first span and a y in the second
unfoldable pub join : Kind → Span → Span → Span
join q none b = none
join q (span l u) none = none
join lap (span l u) (span m v) = span (max l m) (plus u v)
join add (span l u) (span m v) = span (l + m) (plus u v)
join eq (span l u) (span m v) = make (max l m) (smaller u v)

-- The x for which some y in the second span and some z in the first are joined by the kind.
-- `less n t` is n less the upper end t, 0 where t is endless.
abbrev pub less : ℕ → Top → ℕ
less n (fin a) = n - a
less n inf = 0

-- the upper end u less a
abbrev pub shorter : Top → ℕ → Top
shorter (fin u) a = fin (u - a)
shorter inf a = inf

-- a lower end that does not pass an upper end
abbrev pub reaches : ℕ → Top → Bool
reaches l (fin u) = leb l u
reaches l inf = true

unfoldable pub pull : Kind → Span → Span → Span
pull q none b = none
pull q (span l u) none = none
pull lap (span l u) (span m v) = cond (reaches m u) (make (less l v) u) none
pull add (span l u) (span m v) = cond (reaches m u) (make (less l v) (shorter u m)) none
pull eq (span l u) (span m v) = make (max l m) (smaller u v)

unfoldable pub son_of : Kind → Span → Span → ℕ → ℕ
son_of q none b r = r
son_of q (span l u) none r = r
son_of lap (span l u) (span m v) r = cap v r
son_of add (span l u) (span m v) r = max m (less r u)
son_of eq (span l u) (span m v) r = r
