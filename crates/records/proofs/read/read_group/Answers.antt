-- The tests in the code's order are those of the format.
use Rattle.std.proofs.Common.{◌≡◌, ◌+◌, ℕ, List, true, false, ◌&&◌, cond, drop, length, sym, ◌∙◌}
use lib.Dec.{leb}
use Rattle.wire.specs.Limits.{bound_limit, mode_limit}
use Rattle.std.proofs.lemmas.Result.{err_from_is_err_and}
use borrow.Author.Tests.{le-leb, lt-leb, ne_eqb}
use Rattle.wire.specs.Bytes.{u16_at}
use Rattle.wire.specs.Record.{framed, refusal, kind_of}
use Rattle.wire.specs.SheetFormat.{GroupRecord, group_tests, group_of}
use Rattle.wire.proofs.Fields.{read_at}
use Rattle.claim_records.proofs.BodyLaws.{whole_length}
use Rattle.records.specs.Answers.{record_as}
use Rattle.records.proofs.Fields.{Led, frame_led, frame_refused, one_kind, led_kind}
use Rattle.records.proofs.Carried.{answer_refused, answer_record}
use Rattle.records.proofs.read.read_group.Goals.{After-parent_allowed}
use Rattle.records.proofs.read.read_group.Goals.{then-lo-gt-BOUND-via-then-lo-gt-BOUND, then-lo-gt-BOUND-via-else-lo-gt-BOUND+then-mode-gt-MODE}
use Rattle.records.proofs.read.read_group.Goals as goal

-- kind and length, where they are the record's
lead : (s : List ℕ) (at len : ℕ) → Led s at 2 2 len → len ≡ 10 →
    let r = drop at s in (framed r ≡ true) × ((u16_at r 2 ≡ 2) × (u16_at r 0 ≡ 10))
lead s at len w e = (w.frame, (led_kind w, whole_length _ _ _ w.whole ∙ e))

pub returns-in_err-len : goal.returns-in_err-len
unfolding group_tests
returns-in_err-len c =
    λ gs e. let p = err_from_is_err_and c.from_residual.result c.from_residual.ensures.1 in
    rw (p.1, p.2) (answer_refused (rw (one_kind 2 (kind_of (drop c.args.at c.args.s.now))) (frame_refused c.in_err-len.ensures _)))

pub returns-then-len-ne10 : goal.returns-then-len-ne10
unfolding refusal group_tests
returns-then-len-ne10 c =
    λ gs e. let w = frame_led c.in_ok-len.ensures in
    answer_refused (simp (w.frame, led_kind w, whole_length _ _ _ w.whole, ne_eqb _ _ c.if-len-ne10.true))

pub returns-then-lo-gt-BOUND : goal.returns-then-lo-gt-BOUND
unfolding refusal group_tests
returns-then-lo-gt-BOUND c =
    λ gs e.
    let l = lead _ _ _ (frame_led c.in_ok-len.ensures) c.if-len-ne10.false in
    let a = c.args in
    let s = a.s.now in
    let f : (leb c.u16_at-lo.result bound_limit && leb c.u16_at-mode.result mode_limit) ≡ false =
    elim c.then-lo-gt-BOUND.branch [
      | then-lo-gt-BOUND-via-then-lo-gt-BOUND w ↦ simp (lt-leb _ _ w.if-lo-gt-BOUND.true)
      | then-lo-gt-BOUND-via-else-lo-gt-BOUND+then-mode-gt-MODE w ↦
          simp (le-leb _ _ w.if-lo-gt-BOUND.false, lt-leb _ _ w.if-mode-gt-MODE.true)
    ] in
    answer_refused (simp (
      l.0,
      l.1.0,
      l.1.1,
      read_at s a.at 6 _ c.u16_at-lo.ensures,
      read_at s a.at 10 _ c.u16_at-mode.ensures,
      f,
    ))

-- the last test is the one that is left
past : (c : After-parent_allowed) → let a = c.args in
    (gs : List GroupRecord) → length gs + 1 ≡ a.number.0 →
    refusal (group_tests gs (drop a.at a.s.now)) ≡ cond c.parent_allowed.result 0 5
unfolding refusal group_tests
past c gs e =
    let l = lead _ _ _ (frame_led c.in_ok-len.ensures) c.if-len-ne10.false in
    let a = c.args in
    let s = a.s.now in
    simp (
      l.0,
      l.1.0,
      l.1.1,
      sym (c.group_meant-parent.ensures.number ∙ sym (read_at s a.at 4 _ c.u16_at.ensures)),
      read_at s a.at 6 _ c.u16_at-lo.ensures,
      read_at s a.at 10 _ c.u16_at-mode.ensures,
      le-leb _ _ c.if-lo-gt-BOUND.false,
      le-leb _ _ c.if-mode-gt-MODE.false,
      e,
      sym c.parent_allowed.ensures,
    )

pub returns-then-not-parent_allowed : goal.returns-then-not-parent_allowed
returns-then-not-parent_allowed c =
    λ gs e. answer_refused (simp (past (goal.at.returns-then-not-parent_allowed c).After-parent_allowed gs e, c.if-not-parent_allowed.true))

pub returns : goal.returns
unfolding record_as group_of
returns c =
    λ gs e.
    let a = c.args in
    let s = a.s.now in
    answer_record (simp (past (goal.at.returns c).After-parent_allowed gs e, c.if-not-parent_allowed.false)) (simp (
      (lead _ _ _ (frame_led c.in_ok-len.ensures) c.if-len-ne10.false).1.0,
      sym (c.group_meant-parent.ensures.number ∙ sym (read_at s a.at 4 _ c.u16_at.ensures)),
      read_at s a.at 6 _ c.u16_at-lo.ensures,
      read_at s a.at 8 _ c.u16_at-hi.ensures,
      read_at s a.at 10 _ c.u16_at-mode.ensures,
    ))
