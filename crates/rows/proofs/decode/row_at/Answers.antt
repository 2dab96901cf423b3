-- `rows::decode::row_at` meets its contract.
use Prim.Native.Nat.{◌<◌, ◌+◌}
use lib.ListN.{length}
use mathlib.Core.Path.{◌≡◌, sym, ◌∙◌}
use mathlib.Core.Bool.{true}
use native.Mathlib.Omega.{arith}
use Rattle.wire.specs.Edition.{edition_of, row_bytes}
use Rattle.wire.specs.Member.{is_side}
use Rattle.wire.proofs.EditionFacts.{row_parts}
use Rattle.rows.proofs.RowLaws.{met_is, RowFields, front_none, front_short, front_frame, front_no_side, front_nobody, front_row, front_falls}
use Rattle.rows.proofs.decode.row_at.Goals.{After-u16_at-side, Else-is_none}
use Rattle.rows.proofs.decode.row_at.Goals.{then-register-whole-via-then-register-whole, then-register-whole-via-else-register-whole+then-register-whole-2}
use Rattle.rows.proofs.decode.row_at.Goals.{then-number-eq0-via-then-number-eq0, then-number-eq0-via-else-number-eq0+then-key-last}
use Rattle.rows.proofs.decode.row_at.Goals as goal

pub u32_at-requires : goal.u32_at-requires
u32_at-requires c = omega (arith, c.row_bytes-whole.ensures, row_parts (edition_of c.args.edition))

pub u32_at-number-requires : goal.u32_at-number-requires
u32_at-number-requires c = omega (arith, c.row_bytes-whole.ensures, row_parts (edition_of c.args.edition))

pub u16_at-side-requires : goal.u16_at-side-requires
u16_at-side-requires c = omega (arith, c.row_bytes-whole.ensures, row_parts (edition_of c.args.edition))

pub returns-then-register-at : goal.returns-then-register-at
returns-then-register-at c = sym (front_none _ _ _ _ c.if-register-at.true)

pub returns-else-register-at : goal.returns-else-register-at
returns-else-register-at c =
    let e = edition_of c.args.edition in
    let short : length c.args.register.now < c.args.at + row_bytes e =
    elim c.then-register-whole.branch [
      | then-register-whole-via-then-register-whole w ↦ omega (arith, w.if-register-whole.true, c.row_bytes-whole.ensures)
      | then-register-whole-via-else-register-whole+then-register-whole-2 w ↦ omega (arith, w.if-register-whole-2.true, c.row_bytes-whole.ensures)
    ] in
    sym (front_short _ _ _ _ c.if-register-at.false short)

pub returns-then-u32_at-row_frame : goal.returns-then-u32_at-row_frame
returns-then-u32_at-row_frame c =
    sym (front_frame _ _ _ _ (omega (arith, c.if-register-whole-2.false, c.row_bytes-whole.ensures))
    (λ e. omega (arith, c.if-u32_at-row_frame.true, c.u32_at.ensures, c.row_frame.ensures, e)))

-- the row's fields; its side is one of the two
fields : (c : After-u16_at-side) → RowFields (edition_of c.args.edition) c.args.register.now c.args.at c.u32_at-number.result c.u16_at-side.result
fields c =
    record {
      whole = omega (arith, c.row_bytes-whole.ensures);
      bytes = λ i. (c.type_inv.register i).fits;
      frame = omega (arith, c.if-u32_at-row_frame.false, c.u32_at.ensures, c.row_frame.ensures);
      numbered = c.u32_at-number.ensures;
      sided = c.u16_at-side.ensures;
    }

sided : (c : Else-is_none) → is_side c.u16_at-side.result ≡ true
sided c = met_is _ _ c.from_number.ensures ∙ c.is_none.ensures ∙ (rw c.if-is_none.false)

pub returns-then-is_none : goal.returns-then-is_none
returns-then-is_none c =
    front_no_side _ (fields (goal.at.returns-then-is_none c).After-u16_at-side) _
    (met_is _ _ c.from_number.ensures ∙ c.is_none.ensures ∙ (rw c.if-is_none.true))

pub key_of-key-requires : goal.key_of-key-requires
key_of-key-requires c = sided (goal.at.key_of-key-requires c).Else-is_none

pub returns-then-number-eq0 : goal.returns-then-number-eq0
returns-then-number-eq0 c =
    let f = fields (goal.at.returns-then-number-eq0 c).After-u16_at-side in
    let s = sided (goal.at.returns-then-number-eq0 c).Else-is_none in
    elim c.then-number-eq0.branch [
      | then-number-eq0-via-then-number-eq0 w ↦ front_nobody _ f s _ w.if-number-eq0.true
      | then-number-eq0-via-else-number-eq0+then-key-last w ↦
          front_falls _ f s (omega (arith, w.if-number-eq0.false)) _ _ c.key_of-key.ensures w.if-key-last.true
    ]

pub returns : goal.returns
returns c =
    rw c.row_bytes-whole.ensures
    (sym (front_row _ (fields (goal.at.returns c).After-u16_at-side) (sided (goal.at.returns c).Else-is_none) (omega (arith, c.if-number-eq0.false)) _ _
    c.key_of-key.ensures c.if-key-last.false))
