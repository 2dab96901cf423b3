-- `check_count` meets its contract: the tests in the code's order are those of a count.
use Prim.Native.Nat.{ℕ, ◌+◌}
use mathlib.Core.Path.{◌≡◌, sym, ◌∙◌}
use mathlib.Core.Bool.{cond}
use mathlib.Core.List.{List}
use borrow.Author.Tests.{le-leb, lt-leb, eq-eqb, ne_eqb}
use lib.ListN.{drop}
use Rattle.wire.specs.Bytes.{u16_at}
use Rattle.wire.specs.Record.{refusal}
use Rattle.wire.specs.SheetFormat.{claim_length, claim_fields, claim_names, u16s}
use Rattle.claim_records.specs.Body.{Whole, claim_body}
use Rattle.wire.proofs.Fields.{field_at, read_at}
use Rattle.claim_records.proofs.BodyLaws.{whole_length}
use Rattle.claim_records.proofs.body.check_count.Goals.{After-names_allowed}
use Rattle.claim_records.proofs.body.check_count.Goals as goal

-- kind and length
lead : (s : List ℕ) (at len : ℕ) → Whole s at len × (u16_at s (at + 2) ≡ 4) → let r = drop at s in (u16_at r 2 ≡ 4) × (u16_at r 0 ≡ len)
lead s at len w = (field_at s at 2 ∙ w.1, whole_length _ _ _ w.0)

pub returns-then-len-ne8 : goal.returns-then-len-ne8
unfolding refusal claim_body claim_length
returns-then-len-ne8 c = let l = lead _ _ _ c.requires in simp (l.0, l.1, ne_eqb _ _ c.if-len-ne8.true)

pub returns-then-u16_at-gt-BOUND : goal.returns-then-u16_at-gt-BOUND
unfolding refusal claim_body claim_length claim_fields
returns-then-u16_at-gt-BOUND c =
    let l = lead _ _ _ c.requires in
    let a = c.args in
    simp (
      l.0,
      l.1,
      eq-eqb _ _ c.if-len-ne8.false,
      read_at a.s.now a.at 6 _ c.u16_at.ensures,
      lt-leb _ _ c.if-u16_at-gt-BOUND.true,
    )

-- length and fields passed
past : (c : After-names_allowed) → let a = c.args in
    refusal (claim_body a.names (drop a.at a.s.now)) ≡ cond c.names_allowed.result 0 5
unfolding refusal claim_body claim_length claim_fields claim_names u16s
past c =
    let l = lead _ _ _ c.requires in
    let a = c.args in
    simp (
      l.0,
      l.1,
      eq-eqb _ _ c.if-len-ne8.false,
      read_at a.s.now a.at 6 _ c.u16_at.ensures,
      le-leb _ _ c.if-u16_at-gt-BOUND.false,
      field_at a.s.now a.at 4,
      sym c.names_allowed.ensures,
    )

pub returns-then-not-names_allowed : goal.returns-then-not-names_allowed
returns-then-not-names_allowed c = simp (past (goal.at.returns-then-not-names_allowed c).After-names_allowed, c.if-not-names_allowed.true)

pub returns : goal.returns
returns c = simp (past (goal.at.returns c).After-names_allowed, c.if-not-names_allowed.false)
