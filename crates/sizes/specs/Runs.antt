-- The sizes theorem with marks: balanced numbers are the counts of sets that meet the rules. Each group is a run of
-- numbers; one more member, number 0, is in the groups that are marked.
use Rattle.std.specs.Prelude.{ℕ, ◌+◌, ◌-◌, min, ◌≤◌, ◌≡◌, Bool, true, false}
use Rattle.laws.specs.Sum.{sum}
use Rattle.meaning.specs.Sheet.{Sheet, Group, Son}
use Rattle.meaning.specs.Sons.{only}

-- Where a son with y members starts: the modes of its parent ('same', 'disjoint', 'cover'), the parent's start a and
-- count z, and b members in the sons before it.
unfoldable pub start_under : Bool → Bool → Bool → ℕ → ℕ → ℕ → ℕ → ℕ
start_under true d c a z b y = a
start_under false true c a z b y = a + b
start_under false false true a z b y = min (a + b) (a + z - y)
start_under false false false a z b y = a

-- where the son g of p starts, st and f being the starts and counts of all groups
abbrev pub start_at : Sheet → (ℕ → ℕ) → (ℕ → ℕ) → ℕ → ℕ → ℕ
start_at s f st p g = start_under (s.same p) (s.disjoint p) (s.cover p) (st p) (f p) (sum (only s p f) g) (f g)

-- st gives every group its start
pub record Starts (s : Sheet) (f st : ℕ → ℕ) : Type 0 where
  pub top : (g : ℕ) → Group s g → s.parent g ≡ 0 → 1 ≤ st g
  pub under : (p g : ℕ) → Son s p g → st g ≡ start_at s f st p g
