-- How the code's values are read: two numbers as a span, two spans as those of a group, a flag, a mode.
use Rattle.std.specs.Prelude.{ℕ, ◌≤◌, ◌≡◌, cond, Bool, true, false, leb}
use Rattle.spans.specs.declared.span.Span.{Span as SpanCode}
use Rattle.spans.specs.declared.pair.Pair.{Pair as PairCode}
use Rattle.spans.specs.declared.kind.Kind.{Kind as KindCode}
use Rattle.spans.specs.declared.kind.Kind.TheVariants.{Lap, Add, Eq}
use Rattle.spans.specs.declared.may.May.{May}
use Rattle.wire.specs.Limits.{no_greatest}
use Rattle.meaning.specs.Sheet.{Top, end_of}
use Rattle.sizes.specs.Span.{Span, none, span, Kind, lap, add, eq}
use Rattle.sizes.specs.Bounds.{weight}
use Rattle.tables.specs.Modes.{disjoint_mode, same_mode}
use Rattle.tables.specs.SheetIn.{size_limit}

-- an upper end as tables and replies have it
abbrev pub top_of : ℕ → Top
top_of m = end_of no_greatest m

-- the numbers from l to m, none where l is above m
unfoldable pub span_of : ℕ → ℕ → Span
span_of l m = cond (leb l m) (span l (top_of m)) none

abbrev pub span_held : SpanCode → Span
span_held r = span_of r.least r.most

-- for the member out of the group (false) and in it (true)
abbrev pub pair_of : PairCode → Bool → Span
pair_of p false = span_held p.out
pair_of p true = span_held p.inn

-- equal in both states
abbrev pub AlikeBoth : (Bool → Span) → (Bool → Span) → Type 0
AlikeBoth f h = (c : Bool) → f c ≡ h c

abbrev pub kind_held : KindCode → Kind
kind_held Lap = lap
kind_held Add = add
kind_held Eq = eq

-- a span whose ends leave room for one sum
abbrev pub Room : Span → Type 0
Room s = weight s ≤ size_limit

abbrev pub RoomBoth : (Bool → Span) → Type 0
RoomBoth f = (c : Bool) → Room (f c)

-- whether the member may be out of the group (false), and in it (true)
abbrev pub may_flag : May → Bool → Bool
may_flag f false = f.out
may_flag f true = f.inn

-- how the sons of a group of this mode are joined
unfoldable pub mode_kind : ℕ → Kind
mode_kind m = cond (same_mode m) eq (cond (disjoint_mode m) add lap)
