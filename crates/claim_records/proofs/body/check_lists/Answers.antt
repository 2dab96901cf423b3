-- `check_lists` meets its contract: the tests in the code's order are those of an inside or an apart.
use Prim.Native.Nat.{ℕ, ◌+◌, ◌*◌, ◌≤◌, ◌%◌}
use mathlib.Core.Path.{◌≡◌, sym, ◌∙◌}
use mathlib.Core.Bool.{true, false, cond, ◌&&◌}
use mathlib.Core.List.{List}
use native.Mathlib.Omega.{arith}
use native.Mathlib.Nat.{add_assoc}
use borrow.Author.Tests.{le-leb, lt-leb, eq-eqb, ne_eqb}
use lib.Dec.{eqb, leb}
use lib.ListN.{drop}
use Rattle.wire.specs.Bytes.{u16_at}
use Rattle.wire.specs.Record.{refusal}
use Rattle.wire.specs.SheetFormat.{claim_length, claim_fields, claim_names, left_of, right_of, all_within, u16s}
use Rattle.claim_records.specs.Body.{Whole, claim_body}
use Rattle.wire.proofs.Fields.{field_at, read_at, fields_at}
use Rattle.claim_records.proofs.BodyLaws.{whole_length, lists_end}
use Rattle.claim_records.proofs.body.check_lists.Goals.{After-lists_allowed}
use Rattle.claim_records.proofs.body.check_lists.Goals.{Else-not-lists_allowed}
use Rattle.claim_records.proofs.body.check_lists.Goals.{then-len-ne0-via-then-len-ne0}
use Rattle.claim_records.proofs.body.check_lists.Goals.{then-len-ne0-via-else-len-ne0+then-len-lt10}
use Rattle.claim_records.proofs.body.check_lists.Goals.{then-len-ne0-via-else-len-ne0+else-len-lt10+then-len}
use Rattle.claim_records.proofs.body.check_lists.Goals.{then-not-names_allowed-via-then-not-names_allowed}
use Rattle.claim_records.proofs.body.check_lists.Goals.{then-not-names_allowed-via-else-not-names_allowed+then-not-names_allowed-2}
use Rattle.claim_records.proofs.body.check_lists.Goals as goal

-- kind and length
lead : (s : List ℕ) (at len : ℕ) → Whole s at len × (5 ≤ u16_at s (at + 2)) →
    let r = drop at s in (eqb (u16_at r 2) 4 ≡ false) × (u16_at r 0 ≡ len)
lead s at len w = (
  ne_eqb _ _ (λ e. let z : u16_at s (at + 2) ≡ 4 = sym (field_at s at 2) ∙ e in let l = w.1 in omega arith),
  whole_length _ _ _ w.0,
)

-- the fields passed
allowed : (c : Else-not-lists_allowed) → c.lists_allowed.result ≡ true
allowed c = c.if-not-lists_allowed.false

-- m and n give the length
ends : (c : Else-not-lists_allowed) → 6 + 2 * (c.u16_at-m.result + c.u16_at-n.result)
    ≡ c.args.len
ends c = lists_end _ _ _ (sym c.lists_allowed.ensures ∙ allowed c)

-- the length passed
past : (c : After-lists_allowed) → let a = c.args in let s = a.s.now in
    refusal (claim_body a.names (drop a.at s))
    ≡ cond c.lists_allowed.result
    (cond (all_within a.names (u16s s (a.at + 8) c.u16_at-m.result)
    && all_within a.names (u16s s (a.at + 8 + 2 * c.u16_at-m.result) c.u16_at-n.result)) 0 5) 4
unfolding refusal claim_body claim_length claim_fields claim_names left_of right_of
past c =
    let l = lead _ _ _ c.requires in
    let a = c.args in
    let s = a.s.now in
    simp (
      l.0,
      l.1,
      eq-eqb _ _ c.if-len-ne0.false,
      le-leb _ _ c.if-len-lt10.false,
      le-leb _ _ c.if-len.false,
      read_at s a.at 4 _ c.u16_at-m.ensures,
      read_at s a.at 6 _ c.u16_at-n.ensures,
      sym c.lists_allowed.ensures,
      fields_at,
      sym (add_assoc a.at 8 (2 * c.u16_at-m.result)),
    )

-- a length that is refused
long : (s : List ℕ) (at len names : ℕ) → Whole s at len × (5 ≤ u16_at s (at + 2)) → (eqb (len % 2) 0 && leb 10 len && leb len 38) ≡ false →
    3 ≡ refusal (claim_body names (drop at s))
unfolding refusal claim_body claim_length
long s at len names w e = let l = lead s at len w in simp (l.0, l.1, e)

pub returns-then-len-ne0 : goal.returns-then-len-ne0
returns-then-len-ne0 c =
    long _ _ _ _ c.requires
    (elim c.then-len-ne0.branch [
      | then-len-ne0-via-then-len-ne0 w ↦ simp (ne_eqb _ _ w.if-len-ne0.true)
      | then-len-ne0-via-else-len-ne0+then-len-lt10 w ↦ simp (eq-eqb _ _ w.if-len-ne0.false, lt-leb _ _ w.if-len-lt10.true)
      | then-len-ne0-via-else-len-ne0+else-len-lt10+then-len w ↦
          simp (eq-eqb _ _ w.if-len-ne0.false, le-leb _ _ w.if-len-lt10.false, lt-leb _ _ w.if-len.true)
    ])

pub returns-then-not-lists_allowed : goal.returns-then-not-lists_allowed
returns-then-not-lists_allowed c = simp (past (goal.at.returns-then-not-lists_allowed c).After-lists_allowed, c.if-not-lists_allowed.true)

pub names_allowed-requires : goal.names_allowed-requires
names_allowed-requires c = let e = ends c in omega arith

pub returns-then-not-names_allowed : goal.returns-then-not-names_allowed
returns-then-not-names_allowed c =
    let d = goal.at.returns-then-not-names_allowed c in
    rw (past d.After-lists_allowed, allowed d.Else-not-lists_allowed)
    (elim c.then-not-names_allowed.branch [
      | then-not-names_allowed-via-then-not-names_allowed w ↦ simp (sym c.names_allowed.ensures ∙ w.if-not-names_allowed.true)
      | then-not-names_allowed-via-else-not-names_allowed+then-not-names_allowed-2 w ↦
          simp (
            sym c.names_allowed.ensures
                ∙ w.if-not-names_allowed.false,
            sym w.names_allowed-else-not-names_allowed.ensures ∙ w.if-not-names_allowed-2.true,
          )
    ])

pub names_allowed-requires-else-not-names_allowed : goal.names_allowed-requires-else-not-names_allowed
names_allowed-requires-else-not-names_allowed c =
    let e = ends (goal.at.names_allowed-requires-else-not-names_allowed c).Else-not-lists_allowed in omega arith

pub returns : goal.returns
returns c =
    simp (
      past (goal.at.returns c).After-lists_allowed,
      allowed (goal.at.returns c).Else-not-lists_allowed,
      sym c.names_allowed.ensures
          ∙ c.if-not-names_allowed.false,
      sym c.names_allowed-else-not-names_allowed.ensures ∙ c.if-not-names_allowed-2.false,
    )
