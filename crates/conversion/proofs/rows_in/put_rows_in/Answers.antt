-- `put_rows_in` meets its contract. The invariant: the rows so far stand at the front, and nothing else was stored.
use Prim.Native.Nat.{◌+◌, ◌*◌, ◌≤◌}
use mathlib.Core.Path.{◌≡◌, refl, ap, ◌∙◌}
use mathlib.Core.List.{flat_map}
use native.Mathlib.Omega.{arith}
use native.Mathlib.Numerals.{add-one}
use lib.ListN.{length}
use Rattle.wire.specs.Edition.{edition_of, row_bytes}
use Rattle.wire.specs.Encoding.{encode_register}
use Rattle.rows.specs.RowsRead.{rows_before}
use Rattle.conversion.proofs.RowsLaws.{rows_more, room_for}
use Rattle.conversion.proofs.rows_in.put_rows_in.Goals.{In-loop-i}
use Rattle.conversion.proofs.rows_in.put_rows_in.Goals as goal

-- the row to be written has room, and the one to be read stands there
room : (c : In-loop-i) → let a = c.args in
    row_bytes (edition_of a.edition) * c.loop-i.i + row_bytes (edition_of a.edition) ≤ length c.loop-i.out
room c =
    let l = c.loop-i in
    omega (arith, l.invariant.long, c.requires.1, room_for (row_bytes (edition_of c.args.edition)) l.i c.args.n c.loop-i-test.true)

there : (c : In-loop-i) → let a = c.args in
    row_bytes (edition_of a.from) * c.loop-i.i + row_bytes (edition_of a.from) ≤ length a.register.now
there c = (c.requires.0.each c.loop-i.i c.loop-i-test.true).whole

pub loop-i-init : goal.loop-i-init
unfolding rows_before encode_register flat_map
loop-i-init c = record { within = omega arith; long = refl; written = refl }

pub overflow_mul-step : goal.overflow_mul-step
overflow_mul-step c = rw c.row_bytes-step.ensures (let r = room (goal.at.overflow_mul-step c).In-loop-i in omega arith)

pub overflow_mul-stride : goal.overflow_mul-stride
overflow_mul-stride c = rw c.row_bytes-stride.ensures (let r = there (goal.at.overflow_mul-stride c).In-loop-i in omega arith)

pub put_row_in-requires : goal.put_row_in-requires
put_row_in-requires c =
    rw (c.row_bytes-step.ensures, c.row_bytes-stride.ensures)
    (c.requires.0.each c.loop-i.i c.loop-i-test.true, room (goal.at.put_row_in-requires c).In-loop-i)

pub loop-i-preserved : goal.loop-i-preserved
unfolding rows_before
loop-i-preserved c =
    let a = c.args in
    let l = c.loop-i in
    let e = edition_of a.edition in
    let f = edition_of a.from in
    record {
      within = omega arith;
      long = c.put_row_in.auto.out ∙ l.invariant.long;
      written = rw (add-one l.i)
          (rows_more e f a.register.now a.out.now l.i (ap (λ w. w * l.i) c.row_bytes-step.ensures) (ap (λ w. w * l.i) c.row_bytes-stride.ensures)
          l.invariant.written c.put_row_in.ensures);
    }

pub returns : goal.returns
returns c =
    let e : c.loop-i.i ≡ c.args.n = omega arith in
    rw e at c.loop-i.invariant.written
