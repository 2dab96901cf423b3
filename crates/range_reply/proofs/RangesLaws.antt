-- The ranges, put together: from the tables of a measured sheet to the records in the buffer.
use Prim.Native.Nat.{ℕ, ◌-◌, ◌*◌, ◌<◌}
use mathlib.Core.Path.{sym}
use mathlib.Core.Bool.{Bool}
use mathlib.Core.List.{List}
use native.Mathlib.Omega.{arith}
use lib.ListN.{get_or, take}
use lib.Seq.{get_or-take}
use Rattle.wire.specs.Limits.{range_bytes}
use Rattle.meaning.specs.Sheet.{Group}
use Rattle.meaning.specs.Arranged.{Arranged}
use Rattle.sizes.specs.Span.{Span}
use Rattle.sizes.specs.Ranged.{Ranged}
use Rattle.sizes.proofs.ArrangedAlike.{arranged_eq}
use Rattle.tables.specs.declared.groups.Group.{Group as TableGroup}
use Rattle.tables.specs.SheetIn.{sheet_in}
use Rattle.tables.specs.Numbers.{number_in}
use Rattle.tables.proofs.SheetInLaws.{size_in}
use Rattle.spans.specs.declared.pair.Pair.{Pair}
use Rattle.spans.specs.declared.span.Span.{Span as SpanCode}
use Rattle.measuring.specs.Pairs.{least_in, greatest_in}
use Rattle.measuring.specs.Fitting.{Measures}
use Rattle.ranging.specs.Table.{span_in}
use Rattle.ranging.proofs.Said.{range_said, bounds_said, arrangement_fits}
use Rattle.replies.specs.Wrote.{Wrote}
use Rattle.replies.specs.Written.{RangeAt, no_range, RangesPut}
use Rattle.range_reply.specs.RangesReply.{range_at, run_first, run_count}
use Rattle.range_reply.specs.RangesGiven.{RangesReady, RangesWritten}

-- the records in the buffer
pub ranges_placed : {t : List TableGroup} {spans after : List Pair} {before out : List ℕ} {n : ℕ} (ranges : List SpanCode) (firsts sizes : List ℕ)
    → RangesReady t n spans after before
    → ((z : ℕ → Bool → Span) → Measures (sheet_in t n) z spans after → Ranged (sheet_in t n) z (span_in ranges))
    → Arranged (sheet_in t n) (least_in spans) (greatest_in spans) (number_in firsts) (number_in sizes)
    → Wrote before 0 (range_bytes * n) out → RangesPut out n (take n ranges) firsts sizes → RangesWritten t n before out
ranges_placed {t} {spans} {after} {before} {out} {n} ranges firsts sizes p h a w put =
    let k = p.measured in
    let T = p.measured.tabled in
    let at : (g : ℕ) → Group (sheet_in t n) g → RangeAt out (range_at g) (get_or ranges (g - 1) no_range).least (get_or ranges (g - 1) no_range).most
    (number_in firsts g) (number_in sizes g) =
    λ g q. let l : g - 1 < n = omega (arith, q.first, q.last, size_in t n) in rw (get_or-take n ranges (g - 1) no_range l) at (put (g - 1) l) in
    let b = arranged_eq T.tree {first' = run_first out} {size' = run_count out} (λ g q. sym (at g q).first) (λ g q. sym (at g q).count) T.rooted a in
    record {
      wrote = w;
      ranges = record {
        frame = λ g q. ((at g q).sized, (at g q).kind);
        range = λ g q i.
            rw ((at g q).least, (at g q).greatest) (range_said ranges T.tree T.rooted k.measured k.fit (h k.z k.measures) g q i);
        arranged = (least_in spans, greatest_in spans, bounds_said k, b);
        fits = arrangement_fits k b;
      };
    }
