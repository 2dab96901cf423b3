-- No end is large: where every lo and every finite hi is at most B, every lower end and every finite upper end that the
-- fold gives is at most B times a number of groups.
use Rattle.std.specs.Prelude.{ℕ, max}
use Rattle.meaning.specs.Sheet.{Top, fin, inf}
use Rattle.sizes.specs.Span.{Span, none, span}

-- the largest finite end of a span, 0 where it has none
abbrev pub top_weight : Top → ℕ
top_weight (fin u) = u
top_weight inf = 0

unfoldable pub weight : Span → ℕ
weight none = 0
weight (span l u) = max l (top_weight u)
