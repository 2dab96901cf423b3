-- What the tables say in the words of the meaning: which counts a group can have, the bottom-up bounds, sets that fit.
use Prim.Native.Nat.{ℕ, ◌-◌, ◌≤◌}
use mathlib.Core.Bool.{Bool}
use mathlib.Core.List.{List}
use mathlib.Core.Logic.{◌↔◌}
use lib.ListN.{get_or}
use Rattle.meaning.specs.Sheet.{Sheet, Group, AtMost}
use Rattle.meaning.specs.Tree.{Tree, Rooted}
use Rattle.meaning.specs.Fits.{Possible, Attains, Fits}
use Rattle.meaning.specs.Shown.{shown, above}
use Rattle.meaning.specs.Part.{BottomUp}
use Rattle.meaning.specs.Arranged.{Arranged}
use Rattle.sizes.specs.Span.{Span}
use Rattle.sizes.specs.Fold.{Measured}
use Rattle.sizes.specs.Ranged.{free, Ranged}
use Rattle.sizes.proofs.Possible.{possible, nowhere}
use Rattle.sizes.proofs.RangeExact.{range_attains, range_ends}
use Rattle.sizes.proofs.ArrangedFits.{arranged_fits}
use Rattle.sizes.proofs.Part.{bottom_up}
use Rattle.tables.specs.declared.groups.Group.{Group as TableGroup}
use Rattle.tables.specs.SheetIn.{sheet_in}
use Rattle.tables.proofs.SheetInLaws.{none_above}
use Rattle.spans.specs.declared.span.Span.{Span as SpanCode}
use Rattle.spans.specs.declared.pair.Pair.{Pair as PairCode}
use Rattle.spans.specs.Held.{top_of}
use Rattle.measuring.specs.Pairs.{least_in, greatest_in}
use Rattle.measuring.specs.Fitting.{Arrangeable}
use Rattle.ranging.specs.Table.{no_span, span_in}
use Rattle.ranging.proofs.SizedLaws.{span_of_ends, span_told}

-- the span of group g in the table of ranges: k is from its least number to its greatest exactly when some sets fit and give
-- group g k members
pub range_said : {s : Sheet} {z : ℕ → Bool → Span} (ranges : List SpanCode) → Tree s → Rooted s → Measured s free z → Possible s
    → Ranged s z (span_in ranges) → (g : ℕ) → Group s g → (k : ℕ)
    → (((get_or ranges (g - 1) no_span).least ≤ k) × AtMost k (top_of (get_or ranges (g - 1) no_span).most)) ↔ Attains s g k
unfolding span_in
range_said ranges t r m p h g q k =
    let w = (possible t).0 p in
    let e = range_ends t r m h w.0 w.1 g q in
    rw (span_of_ends _ _ e.0 e.1 e.2) at (range_attains t r m h g k q)

-- the bounds from which the arrangement is made
pub bounds_said : {groups : List TableGroup} {spans after : List PairCode} {n : ℕ} → Arrangeable groups n spans after
    → BottomUp (sheet_in groups n) (least_in spans) (greatest_in spans)
bounds_said {groups} {spans} {after} {n} k =
    bottom_up (sheet_in groups n) k.z (least_in spans) (greatest_in spans) k.tabled.tree (none_above k.tabled)
    k.measured (span_told k)

-- the arrangement's sets fit
pub arrangement_fits : {groups : List TableGroup} {spans after : List PairCode} {n : ℕ} {first size : ℕ → ℕ} → Arrangeable groups n spans after
    → Arranged (sheet_in groups n) (least_in spans) (greatest_in spans) first size
    → Fits (sheet_in groups n) (shown first size nowhere (above (sheet_in groups n).size first size))
arrangement_fits k a = arranged_fits k.tabled.tree k.tabled.rooted k.measured (span_told k) a
