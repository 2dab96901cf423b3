-- A number of two joined spans, divided between them, by the numbers that stand for the spans.
use Rattle.std.specs.Prelude.{ℕ, ◌-◌, min, Bool, true, false, cond}
use Rattle.sizes.specs.Span.{Kind, lap, add, eq}

-- The states of the later sons and of the one son, for a state c of all: `first`, the later sons in and the one out can be
-- joined; `second`, the other way round. The first pair that can be joined is taken.
unfoldable pub rest_state : Kind → Bool → Bool → Bool → Bool
rest_state q false first second = false
rest_state lap true first second = cond first true (cond second false true)
rest_state add true first second = cond first true (cond second false true)
rest_state eq true first second = true

unfoldable pub son_state : Kind → Bool → Bool → Bool → Bool
son_state q false first second = false
son_state lap true first second = cond first false true
son_state add true first second = cond first false true
son_state eq true first second = true

unfoldable pub rest_by : Kind → ℕ → ℕ → ℕ → ℕ
rest_by lap u r y = min u r
rest_by add u r y = r - y
rest_by eq u r y = r
