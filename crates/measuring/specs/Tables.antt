-- The flags of the groups of a sheet in a table, and the spans that they have under them.
use Rattle.std.specs.Prelude.{ℕ, ◌-◌, Bool, false, List, get_or}
use Rattle.sizes.specs.Span.{Span}
use Rattle.sizes.specs.Fold.{spans_of}
use Rattle.tables.specs.declared.groups.Group.{Group}
use Rattle.tables.specs.SheetIn.{sheet_in}
use Rattle.spans.specs.declared.may.May.{May}
use Rattle.spans.specs.Held.{may_flag}

-- what stands for a flag past the end of a table: the member may be neither out of the group nor in it
abbrev pub nowhere : May
nowhere = record { out = false; inn = false }

-- whether one member may be out of group g, and in it; one flag for each group
unfoldable pub may_in : List May → ℕ → Bool → Bool
may_in f g c = may_flag (get_or f (g - 1) nowhere) c

-- the intervals of every group
abbrev pub spans_in : List Group → ℕ → List May → ℕ → Bool → Span
spans_in t n f = spans_of (sheet_in t n) (may_in f)
