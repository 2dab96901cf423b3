-- The tests in the code's order are those of the format.
use Rattle.std.proofs.Common.{◌≡◌, ℕ, List, true, cond, drop, sym, ◌∙◌}
use Rattle.std.proofs.lemmas.Result.{err_from_is_err_and}
use borrow.Author.Tests.{ne_eqb}
use Rattle.wire.specs.Bytes.{u16_at}
use Rattle.wire.specs.Record.{framed, refusal, kind_of}
use Rattle.wire.specs.SheetFormat.{head_tests, head_of}
use Rattle.records.specs.Answers.{record_as}
use Rattle.records.proofs.Fields.{Led, frame_led, frame_refused, one_kind, led_kind}
use Rattle.wire.proofs.Fields.{read_at}
use Rattle.claim_records.proofs.BodyLaws.{whole_length}
use Rattle.records.proofs.Carried.{answer_refused, answer_record}
use Rattle.records.proofs.read.read_head.Goals.{After-head_allowed}
use Rattle.records.proofs.read.read_head.Goals as goal

-- kind and length, where they are the record's
lead : (s : List ℕ) (at len : ℕ) → Led s at 1 1 len → len ≡ 10 →
    let r = drop at s in (framed r ≡ true) × ((u16_at r 2 ≡ 1) × (u16_at r 0 ≡ 10))
lead s at len w e = (w.frame, (led_kind w, whole_length _ _ _ w.whole ∙ e))

pub returns-in_err-len : goal.returns-in_err-len
unfolding head_tests
returns-in_err-len c =
    let p = err_from_is_err_and c.from_residual.result c.from_residual.ensures.1 in
    rw (p.1, p.2) (answer_refused (rw (one_kind 1 (kind_of (drop c.args.at c.args.s.now))) (frame_refused c.in_err-len.ensures _)))

pub returns-then-len-ne10 : goal.returns-then-len-ne10
unfolding refusal head_tests
returns-then-len-ne10 c =
    let w = frame_led c.in_ok-len.ensures in
    answer_refused (simp (w.frame, led_kind w, whole_length _ _ _ w.whole, ne_eqb _ _ c.if-len-ne10.true))

-- the last test is the one that is left
past : (c : After-head_allowed) → let a = c.args in
    refusal (head_tests (drop a.at a.s.now)) ≡ cond c.head_allowed.result 0 4
unfolding refusal head_tests
past c =
    let l = lead _ _ _ (frame_led c.in_ok-len.ensures) c.if-len-ne10.false in
    let a = c.args in
    let s = a.s.now in
    simp (
      l.0,
      l.1.0,
      l.1.1,
      read_at s a.at 4 _ c.u16_at.ensures,
      read_at s a.at 6 _ c.u16_at-2.ensures,
      read_at s a.at 8 _ c.u16_at-3.ensures,
      read_at s a.at 10 _ c.u16_at-4.ensures,
      sym c.head_allowed.ensures,
    )

pub returns-then-not-head_allowed : goal.returns-then-not-head_allowed
returns-then-not-head_allowed c =
    answer_refused (simp (past (goal.at.returns-then-not-head_allowed c).After-head_allowed, c.if-not-head_allowed.true))

pub returns : goal.returns
unfolding record_as head_of
returns c =
    let a = c.args in
    let s = a.s.now in
    answer_record (simp (past (goal.at.returns c).After-head_allowed, c.if-not-head_allowed.false)) (simp (
      (lead _ _ _ (frame_led c.in_ok-len.ensures) c.if-len-ne10.false).1.0,
      read_at s a.at 4 _ c.u16_at.ensures,
      read_at s a.at 6 _ c.u16_at-2.ensures,
      read_at s a.at 8 _ c.u16_at-3.ensures,
      read_at s a.at 10 _ c.u16_at-4.ensures,
    ))
