use Rattle.std.proofs.Common.{◌≡◌, length-set, ◌+◌, ◌≤◌, length, ap, arith}
use Rattle.std.proofs.lemmas.Result.{err_from_is_err_and}
use Rattle.wire.specs.SheetFormat.{group_tests, group_of}
use Rattle.tables.specs.Groups.{groups_in}
use Rattle.tables.proofs.GroupsLaws.{length_groups_in}
use Rattle.records.specs.Answers.{group, AnswerOf}
use Rattle.records.proofs.Fields.{group_whole}
use Rattle.records.proofs.Carried.{Handed, answered_record, answered_refusal, group_handed}
use Rattle.reading.proofs.LoadedLaws.{numbered_refused, numbered_read}
use Rattle.reading.proofs.Many.{left_start, left_stop, left_done, group_again}
use Rattle.reading.proofs.load.load_groups.Goals.{After-read_group, In_ok-record}
use Rattle.reading.proofs.load.load_groups.Goals as goal

-- what the reader answers
asked : (c : After-read_group) → let l = c.loop-i in
    AnswerOf (group_tests (groups_in l.groups l.i)) (λ b. group (group_of b)) c.args.s.now l.at c.read_group.result
asked c = c.read_group.ensures _ (ap (λ n. n + 1) (length_groups_in _ _))

-- a record was handed up
taken : (c : In_ok-record) → let l = c.loop-i in
    Handed (group_tests (groups_in l.groups l.i)) (λ b. group (group_of b)) c.args.s.now l.at c.in_ok-record.record
taken c =
    answered_record (c.read_group.ensures _ (ap (λ n. n + 1) (length_groups_in _ _))) (numbered_read c.in_ok-record.ensures)

room : (c : In_ok-record) → c.loop-i.at + 12 ≤ length c.args.s.now
room c = (group_whole _ _ _ (taken c).pass).1

pub loop-i-init : goal.loop-i-init
unfolding groups_in
loop-i-init c = record { room = c.requires.0; long = omega arith; left = left_start _ _ _ _ _ _ }

pub returns-in_err-record : goal.returns-in_err-record
returns-in_err-record c =
    let p = err_from_is_err_and c.from_residual.result c.from_residual.ensures.1 in
    let w = numbered_refused c.in_err-record.ensures in
    rw (p.1, p.2) (left_stop _ _ _ _ _ _ _ _ _ c.loop-i.invariant.left c.loop-i-test.true _ _ _
    (answered_refusal (asked (goal.at.returns-in_err-record c).After-read_group) w.0) w.1)

pub unreachable-requires : goal.unreachable-requires
unreachable-requires c = group_handed (taken (goal.at.unreachable-requires c).In_ok-record) c.in_default.not-Group

pub overflow_add-at : goal.overflow_add-at
overflow_add-at c = let w = room (goal.at.overflow_add-at c).In_ok-record in omega arith

pub loop-i-preserved : goal.loop-i-preserved
loop-i-preserved c =
    let d = (goal.at.loop-i-preserved c).In_ok-record in
    record {
      room = room d;
      long = simp length-set (omega arith);
      left = group_again c.loop-i.groups c.loop-i.invariant.left c.loop-i-test.true (omega arith) (taken d) c.in-Group.is;
    }

pub returns : goal.returns
returns c =
    let e : c.loop-i.i ≡ c.args.count = omega arith in
    rw e at (left_done _ _ _ _ _ _ _ _ _ c.loop-i.invariant.left e c.loop-i.invariant.room)
