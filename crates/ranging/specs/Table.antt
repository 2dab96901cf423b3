-- A table of spans, one for each group.
use Rattle.std.specs.Prelude.{ℕ, ◌-◌, List, get_or}
use Rattle.spans.specs.declared.span.Span.{Span as SpanCode}
use Rattle.sizes.specs.Span.{Span}
use Rattle.spans.specs.Held.{span_held}

-- what stands behind a table's end
abbrev pub no_span : SpanCode
no_span = record { least = 0; most = 0 }

-- the span of group g
unfoldable pub span_in : List SpanCode → ℕ → Span
span_in t g = span_held (get_or t (g - 1) no_span)
