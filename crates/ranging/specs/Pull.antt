-- What a son may have where its parent's total and the other sons are known, by the ends of the spans.
use Rattle.std.specs.Prelude.{ℕ, cond}
use Rattle.meaning.specs.Sheet.{Top}
use Rattle.sizes.specs.Span.{Span, none, make, less, shorter, reaches}

-- The numbers x that a y from m to v and a total from l to u leave, x being at most u less c.
unfoldable pub pull_by : ℕ → ℕ → Top → ℕ → Top → Span
pull_by c l u m v = cond (reaches m u) (make (less l v) (shorter u c)) none
