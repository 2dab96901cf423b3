-- What measuring leaves in the tables.
use Rattle.std.specs.Prelude.{ℕ, ◌<◌, ◌≤◌, ◌-◌, Bool, List, length}
use Rattle.meaning.specs.Sheet.{Sheet, Son, Group}
use Rattle.sizes.specs.Span.{Span}
use Rattle.sizes.specs.Fold.{later}
use Rattle.spans.specs.Held.{AlikeBoth}
use Rattle.spans.specs.declared.pair.Pair.{Pair}
use Rattle.measuring.specs.Pairs.{pair_in}

-- h is g or a group below it
pub data Within (s : Sheet) : ℕ → ℕ → Type 0 where
  here : {g : ℕ} → Within s g g
  below : {g i h : ℕ} → Son s g i → Within s i h → Within s g h

-- h is at or below a son of g that comes after i
pub record UnderLater (s : Sheet) (g i h : ℕ) : Type 0 where
  pub son : ℕ
  pub is : Son s g son
  pub after : i < son
  pub at : Within s son h

-- the table has the spans of group h; the joined spans of the brothers after h
abbrev pub Spanned : (ℕ → Bool → Span) → List Pair → ℕ → Type 0
Spanned z t h = AlikeBoth (pair_in t h) (z h)

abbrev pub Followed : Sheet → (ℕ → Bool → Span) → List Pair → ℕ → Type 0
Followed s z t h = AlikeBoth (pair_in t h) (later s z (s.parent h) (s.size - h))

-- what is right in the tables stays right
pub record Stays (s : Sheet) (z : ℕ → Bool → Span) (spans after spans' after' : List Pair) : Type 0 where
  pub spanned : (h : ℕ) → Group s h → Spanned z spans h → Spanned z spans' h
  pub followed : (h : ℕ) → Group s h → Followed s z after h → Followed s z after' h

-- the groups at and below the sons of g after i are measured
pub record Done (s : Sheet) (z : ℕ → Bool → Span) (g i : ℕ) (spans after spans' after' : List Pair) : Type 0 where
  pub spanned : (h : ℕ) → UnderLater s g i h → Spanned z spans' h
  pub followed : (h : ℕ) → UnderLater s g i h → Followed s z after' h
  pub stays : Stays s z spans after spans' after'

-- the tables of spans are long enough for n groups
pub record Lent (n : ℕ) (spans after : List Pair) : Type 0 where
  pub spans_long : n ≤ length spans
  pub after_long : n ≤ length after

-- all groups are measured
pub record AllDone (s : Sheet) (z : ℕ → Bool → Span) (spans after : List Pair) : Type 0 where
  pub spanned : (h : ℕ) → Group s h → Spanned z spans h
  pub followed : (p h : ℕ) → Son s p h → Followed s z after h
