-- The cycle of calls of `measure_group` and `measure_sons` meets its contracts.
use Prim.Native.Nat.{◌≤◌, ◌-◌}
use lib.ListN.{length, get_or}
use mathlib.Core.Path.{sym, ap, ◌∙◌}
use native.Mathlib.Omega.{arith}
use Rattle.sizes.specs.Fold as fold
use Rattle.sizes.specs.Fold.{spans_of}
use Rattle.sizes.proofs.MeasuredLaws.{spans_measured}
use Rattle.spans.specs.Held.{pair_of, mode_kind}
use Rattle.tables.specs.SheetIn.{sheet_in}
use Rattle.tables.proofs.SheetInLaws.{size_in}
use Rattle.measuring.specs.Pairs.{no_pair}
use Rattle.measuring.specs.Tables.{may_in}
use Rattle.measuring.proofs.TablesLaws.{kind_in_law}
use Rattle.measuring.proofs.PairsLaws.{pair_put, pair_read}
use Rattle.measuring.proofs.DoneLaws.{put_alike, done_put, finished, at_last, at_next, next_less, all_joined, room_span, room_later}
use Rattle.measuring.proofs.measure.+measure_group_measure_sons.Goals as goal

pub measure_group-bounds-spans-index : goal.measure_group-bounds-spans-index
measure_group-bounds-spans-index t c =
    let g = c.args.reading.now.groups.now in
    omega (arith, size_in g.table.now g.size, g.tabled.small)

pub measure_group-returns : goal.measure_group-returns
measure_group-returns t c =
    let r = c.args.reading.now in
    let g = r.groups.now in
    let d = c.measure_sons-below.ensures in
    let n : c.args.g.0 ≤ length c.measure_sons-below.new.spans = omega (arith, size_in g.table.now g.size, g.tabled.small) in
    let z = finished (spans_measured (sheet_in g.table.now g.size) (may_in r.flags.now) g.tabled.tree) c.requires.group
    (pair_of c.measure_sons-below.result) (pair_of c.own_of.result) (pair_of c.meet.result) d.joined c.own_of.ensures c.meet.ensures in
    let p = put_alike z (pair_put c.measure_sons-below.new.spans c.args.g.0 c.meet.result c.requires.group.first n) in
    rw c.index.ensures (record { done = done_put d.done p; spanned = p.put })

pub measure_sons-get-requires : goal.measure_sons-get-requires
measure_sons-get-requires t c = let g = c.args.reading.now.groups.now in omega (arith, size_in g.table.now g.size)

pub measure_sons-last-next-requires : goal.measure_sons-last-next-requires
measure_sons-last-next-requires t c =
    let g = c.args.reading.now.groups.now in
    omega (arith, size_in g.table.now g.size, g.tabled.small)

pub measure_sons-loop-next-init : goal.measure_sons-loop-next-init
measure_sons-loop-next-init t c =
    let r = c.args.reading.now in
    rw c.last-next.ensures
    (at_last r.chained c.requires.group _ _ _ (λ b. c.start-sum.ensures b ∙ ap (λ h. fold.start h b) c.is_shut.ensures))

pub measure_sons-measure_group-requires : goal.measure_sons-measure_group-requires
measure_sons-measure_group-requires t c =
    let g = c.args.reading.now.groups.now in
    let k = c.loop-next.invariant.son c.in-Some.is in (
      omega (arith, size_in g.table.now g.size, g.tabled.tree.before _ k.group, k.under),
      (record { spans_long = omega arith; after_long = omega arith }, k.group),
    )

pub measure_sons-index-requires : goal.measure_sons-index-requires
measure_sons-index-requires t c = (c.loop-next.invariant.son c.in-Some.is).group.first

pub measure_sons-bounds-after-index : goal.measure_sons-bounds-after-index
measure_sons-bounds-after-index t c =
    let g = c.args.reading.now.groups.now in
    let k = c.loop-next.invariant.son c.in-Some.is in
    omega (arith, size_in g.table.now g.size, g.tabled.small, k.group.last)

pub measure_sons-index-requires-in-Some : goal.measure_sons-index-requires-in-Some
measure_sons-index-requires-in-Some t c = (c.loop-next.invariant.son c.in-Some.is).group.first

pub measure_sons-slice_copy_out-join : goal.measure_sons-slice_copy_out-join
measure_sons-slice_copy_out-join t c =
    let g = c.args.reading.now.groups.now in
    let k = c.loop-next.invariant.son c.in-Some.is in
    omega (arith, size_in g.table.now g.size, g.tabled.small, k.group.last)

pub measure_sons-join-sum-requires : goal.measure_sons-join-sum-requires
measure_sons-join-sum-requires t c =
    let r = c.args.reading.now in
    let g = r.groups.now in
    let s = sheet_in g.table.now g.size in
    let i = c.loop-next.invariant in
    let k = i.son c.in-Some.is in
    let m = spans_measured s (may_in r.flags.now) g.tabled.tree in (
      λ b. rw (i.joins b) (room_later g.tabled m c.args.g.0 _ b (omega arith)),
      λ b. rw (c.index-in-Some.ensures, pair_read, c.measure_group.ensures.spanned b) (room_span g.tabled m _ k.group b),
    )

pub measure_sons-before-next-requires : goal.measure_sons-before-next-requires
measure_sons-before-next-requires t c =
    let g = c.args.reading.now.groups.now in
    let k = c.loop-next.invariant.son c.in-Some.is in
    omega (arith, size_in g.table.now g.size, g.tabled.small, k.group.first, k.group.last)

pub measure_sons-loop-next-smaller : goal.measure_sons-loop-next-smaller
measure_sons-loop-next-smaller t c =
    let r = c.args.reading.now in
    rw c.before-next.ensures (next_less r.chained c.requires.group c.loop-next.invariant c.in-Some.is)

pub measure_sons-loop-next-preserved : goal.measure_sons-loop-next-preserved
measure_sons-loop-next-preserved t c =
    let r = c.args.reading.now in
    let g = r.groups.now in
    let m = c.measure_group.ensures in
    let e = c.in-Some.is in
    let k = c.loop-next.invariant.son e in
    let n : c.in-Some.son.0 ≤ length c.measure_group.new.after = omega (arith, size_in g.table.now g.size, g.tabled.small, k.group.last) in
    let kind = c.of-kind.ensures ∙ ap (λ x. mode_kind x.mode.0) c.get.ensures ∙ sym (kind_in_law g.table.now g.size c.args.g.0 c.requires.group) in
    rw (c.before-next.ensures, c.index.ensures)
    (at_next r.chained c.requires.group (pair_of c.join-sum.result) (pair_of (get_or c.measure_group.new.spans (c.in-Some.son.0 - 1) no_pair))
    c.loop-next.invariant e m.done m.spanned
    (pair_put c.measure_group.new.after c.in-Some.son.0 c.loop-next.sum k.group.first n)
    (λ b. ap (λ f. f b) (pair_read c.measure_group.new.spans c.in-Some.son.0))
    (λ b. rw (← kind, ← c.index-in-Some.ensures) (c.join-sum.ensures b)))

pub measure_sons-returns : goal.measure_sons-returns
measure_sons-returns t c =
    let r = c.args.reading.now in
    let d = all_joined r.chained c.requires.group c.loop-next.invariant c.in_default.is in
    record { done = d.0; joined = d.1 }
