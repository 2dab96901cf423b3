-- `rows::read::read_rows` meets its contract. Invariant: the reading that is left after `row` rows is the whole reading, and the
-- reader stands behind these rows.
use mathlib.Core.Path.{◌≡◌, sym, ◌∙◌}
use Prim.Native.Nat.{◌*◌}
use native.Mathlib.Omega.{arith}
use Rattle.std.specs.Prelude.{Ok, Some}
use Rattle.wire.specs.Limits.{row_limit}
use Rattle.wire.specs.Edition.{edition_of, row_bytes}
use Rattle.wire.specs.RegisterFormat.{last_member}
use Rattle.rows.specs.RowsRead.{row_gives, front_at, rows_before}
use Rattle.rows.proofs.read.read_rows.Goals.{In-Ok-Some}
use Rattle.rows.proofs.RowLaws.{held_frame, held_within, going_start, last_start, going_end, going_refused}
use Rattle.rows.proofs.RowLaws.{going_bits, going_on, last_row, going_full, going_over}
use Rattle.rows.proofs.read.read_rows.Goals as goal

pub loop-row-init : goal.loop-row-init
loop-row-init c =
    let r = c.new-reader.ensures in
    record {
      within = omega arith;
      bytes = r.0;
      edition = r.1;
      reached = omega (arith, r.2);
      last = rw r.3 (last_start _ _);
      left = going_start _ _ _;
    }

pub returns-in-Ok-None : goal.returns-in-Ok-None
returns-in-Ok-None c =
    let l = c.loop-row.invariant in
    sym (l.left ∙ going_end _ _ _ _ c.loop-row-test.true (rw (c.in-Ok-None.is, c.in-Ok-None.field-0-is, l.bytes, l.edition, l.reached, l.last) at c.next.ensures.row))

pub returns-in-Err : goal.returns-in-Err
returns-in-Err c =
    let l = c.loop-row.invariant in
    rw c.at-in-Err.ensures
    (sym (l.left ∙ going_refused _ _ _ _ c.loop-row-test.true _ (rw (c.in-Err.is, l.bytes, l.edition, l.reached, l.last) at c.next.ensures.row)))

-- what was read is the row there
found : (c : In-Ok-Some) → row_gives (Ok (Some c.in-Ok-Some.found))
    ≡ front_at (edition_of c.args.edition) c.args.register.now (row_bytes (edition_of c.args.edition) * c.loop-row.row) (last_member (rows_before (edition_of c.args.edition) c.args.register.now c.loop-row.row))
found c =
    let l = c.loop-row.invariant in
    rw (c.in-Ok-Some.is, c.in-Ok-Some.field-0-is, l.bytes, l.edition, l.reached, l.last) at c.next.ensures.row

pub bit_above-requires : goal.bit_above-requires
bit_above-requires c = held_within _ _ _ _ _ (found (goal.at.bit_above-requires c).In-Ok-Some)

pub returns-then-bit_above : goal.returns-then-bit_above
returns-then-bit_above c =
    rw c.at.ensures
    (sym (c.loop-row.invariant.left
    ∙ going_bits _ _ _ _ c.loop-row-test.true _ (found (goal.at.returns-then-bit_above c).In-Ok-Some) (rw c.if-bit_above.true at c.bit_above.ensures)))

pub loop-row-preserved : goal.loop-row-preserved
loop-row-preserved c =
    let l = c.loop-row.invariant in
    let whole = found (goal.at.loop-row-preserved c).In-Ok-Some in
    let held = held_frame _ _ _ _ _ whole in
    let moved = rw (c.in-Ok-Some.is, c.in-Ok-Some.field-0-is) at c.next.ensures.moved in
    record {
      within = omega arith;
      bytes = c.next.ensures.over.0 ∙ l.bytes;
      edition = c.next.ensures.over.1 ∙ l.edition;
      reached = moved.0 ∙ held.next ∙ omega arith;
      last = rw moved.1 (held.member ∙ sym (last_row _ _ _));
      left = l.left ∙ going_on _ _ _ _ c.loop-row-test.true _ whole (rw c.if-bit_above.false at c.bit_above.ensures);
    }

pub returns-then-reader-register : goal.returns-then-reader-register
returns-then-reader-register c =
    let l = c.loop-row in
    let full : l.row ≡ row_limit = omega arith in
    rw c.at-then-reader-register.ensures (sym (l.invariant.left ∙ (rw full (going_over _ _ _ (omega (arith, rw full at l.invariant.reached))))))

pub returns : goal.returns
returns c =
    let l = c.loop-row in
    let full : l.row ≡ row_limit = omega arith in
    sym (l.invariant.left ∙ (rw full (going_full _ _ _ (omega (arith, rw full at l.invariant.reached)))))
