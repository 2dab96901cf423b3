-- The tests in the code's order are those of the format, and no label was used before.
use Rattle.std.proofs.Common.{◌≡◌, ◌+◌, ◌-◌, ◌≤◌, ◌<◌, ◌&&◌, false, cond, [], drop, sym, ap, ◌∙◌, arith}
use lib.Dec.{leb}
use Rattle.wire.specs.Bytes.{u16_at}
use Rattle.std.proofs.lemmas.Result.{err_from_is_err_and}
use borrow.Author.Tests.{le-leb, lt-leb}
use Rattle.wire.specs.Record.{refusal, kind_of}
use Rattle.wire.specs.Edition.{edition_of, label_limit}
use Rattle.wire.specs.SheetFormat.{name_tests, name_of, label_bytes, used}
use Rattle.wire.proofs.Fields.{read_at}
use Rattle.claim_records.proofs.BodyLaws.{whole_length}
use Rattle.records.proofs.Fields.{frame_led, frame_refused, one_kind, led_kind}
use Rattle.records.proofs.Carried.{name_made}
use Rattle.records.proofs.NameAnswers.{name_refused, name_answered}
use Rattle.records.proofs.read.read_name.Goals.{After-label_allowed}
use Rattle.records.proofs.read.read_name.Goals.{then-len-lt5-via-then-len-lt5, then-len-lt5-via-else-len-lt5+then-label_limit-len}
use Rattle.records.proofs.read.read_name.Goals as goal

pub returns-in_err-len : goal.returns-in_err-len
unfolding name_tests
returns-in_err-len c =
    let p = err_from_is_err_and c.from_residual.result c.from_residual.ensures.1 in
    rw (p.1, p.2) (name_refused (rw (one_kind 3 (kind_of (drop c.args.at c.args.s.now))) (frame_refused c.in_err-len.ensures _)))

pub label_of-requires : goal.label_of-requires
label_of-requires c =
    let w = (frame_led c.in_ok-len.ensures).whole in record { least = omega arith; room = omega arith }

pub returns-then-len-lt5 : goal.returns-then-len-lt5
unfolding refusal name_tests
returns-then-len-lt5 c =
    let w = frame_led c.in_ok-len.ensures in
    let len = c.in_ok-len.len in
    let f : (leb 5 len && leb len (label_limit (edition_of c.args.edition) + 4)) ≡ false = elim c.then-len-lt5.branch [
      | then-len-lt5-via-then-len-lt5 x ↦ simp (lt-leb 5 len x.if-len-lt5.true)
      | then-len-lt5-via-else-len-lt5+then-label_limit-len x ↦
          let k : label_limit (edition_of c.args.edition) + 4 < len = omega (arith, x.label_limit.ensures) in
          simp (le-leb 5 len x.if-len-lt5.false, lt-leb _ _ k)
    ] in
    name_refused (simp (w.frame, led_kind w, whole_length _ _ _ w.whole, f))

-- the tests before that of the label
past : (c : After-label_allowed) → let a = c.args in
    refusal (name_tests (edition_of a.edition) a.groups [] (drop a.at a.s.now))
    ≡ cond c.label_allowed.result (cond (leb (u16_at (drop a.at a.s.now) 4) a.groups) 0 5) 4
unfolding refusal name_tests used
past c =
    let w = frame_led c.in_ok-len.ensures in
    let k : c.in_ok-len.len ≤ label_limit (edition_of c.args.edition) + 4 = omega (arith, c.label_limit.ensures) in
    let e : c.label_allowed.result ≡ label_bytes (name_of (drop c.args.at c.args.s.now)).label = rw c.label_of.ensures at c.label_allowed.ensures in
    simp (w.frame, led_kind w, whole_length _ _ _ w.whole, le-leb _ _ c.if-len-lt5.false, le-leb _ _ k, sym e)

pub returns-then-not-label_allowed : goal.returns-then-not-label_allowed
returns-then-not-label_allowed c =
    name_refused (simp (past (goal.at.returns-then-not-label_allowed c).After-label_allowed, c.if-not-label_allowed.true))

pub returns-then-groups-group : goal.returns-then-groups-group
returns-then-groups-group c =
    let a = c.args in
    name_refused (simp (
      past (goal.at.returns-then-groups-group c).After-label_allowed,
      c.if-not-label_allowed.false,
      read_at a.s.now a.at 4 _ c.u16_at-group.ensures,
      lt-leb _ _ c.if-groups-group.true,
    ))

pub returns : goal.returns
returns c =
    let w = frame_led c.in_ok-len.ensures in
    let a = c.args in
    let s = a.s.now in
    let group = read_at s a.at 4 _ c.u16_at-group.ensures in
    name_answered
    (simp (past (goal.at.returns c).After-label_allowed, c.if-not-label_allowed.false, group, le-leb _ _ c.if-groups-group.false))
    (name_made s a.at _ _ (led_kind w) (c.group_meant.ensures.number ∙ sym group) (ap (λ n. n - 4) (sym w.whole.says)) (omega (arith, w.whole.room)))
    c.group_meant.ensures.numbered
