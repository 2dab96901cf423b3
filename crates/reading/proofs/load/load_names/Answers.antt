use Rattle.std.proofs.Common.{◌≡◌, length-set, ◌+◌, ◌-◌, ◌≤◌, ◌<◌, ℕ, List, [], drop, length, Ok, refl, sym, ap, ◌∙◌, arith}
use Rattle.std.proofs.lemmas.Result.{err_from_is_err_and}
use Rattle.records.specs.declared.record.Name.{Name}
use Rattle.records.specs.declared.record.Record.{Record}
use Rattle.wire.specs.Edition.{Edition, edition_of, label_limit}
use Rattle.wire.specs.Bytes.{u16_at}
use Rattle.wire.specs.SheetFormat.{name_tests, name_of}
use Rattle.wire.proofs.Passing.{never_read}
use Rattle.tables.specs.Names.{meant_number}
use Rattle.tables.specs.RecordsIn.{records_in}
use Rattle.labels.specs.WholeName.{WholeName}
use Rattle.records.specs.Answers.{name}
use Rattle.records.proofs.Fields.{name_whole}
use Rattle.records.proofs.Carried.{Handed, answered_record, answered_refusal, name_handed, name_same}
use Rattle.reading.specs.Loaded.{passed_as}
use Rattle.reading.proofs.LoadedLaws.{numbered_refused, numbered_read}
use Rattle.reading.proofs.Many.{left_start, left_stop, left_done, whole_more, grouped_more, seen_more, first_whole, first_seen, seen_first, first_records}
use Rattle.reading.proofs.Many.{name_alone, name_used, name_again}
use Rattle.reading.proofs.load.load_names.Goals.{In_ok-record}
use Rattle.records.specs.declared.record.Record.TheVariants as record_of
use Rattle.reading.proofs.load.load_names.Goals as goal

-- a record was handed up
taken : (c : In_ok-record) →
    Handed (name_tests (edition_of c.args.head.edition) c.args.head.groups []) (λ b. name (name_of b)) c.args.s.now c.loop-i.at c.in_ok-record.record
taken c = answered_record c.read_name.ensures.answers (numbered_read c.in_ok-record.ensures)

module _ (v : Edition) (groups : ℕ) {s : List ℕ} {at : ℕ} {x : Record}
    (t : Handed (name_tests v groups []) (λ b. name (name_of b)) s at x) where
  room : WholeName s at × (u16_at s at ≤ label_limit v + 4)
  room = name_whole v s at groups [] t.pass

  -- what the record carries
  same : {n : Name} → x ≡ record_of.Name n → (meant_number n.means ≡ (name_of (drop at s)).group) × (n.bytes ≡ u16_at s at - 4)
  same e = name_same t e room.0

pub loop-i-init : goal.loop-i-init
unfolding records_in
loop-i-init c = record {
  room = c.requires.0;
  long = (omega arith, omega arith);
  left = left_start _ _ _ _ _ _;
  grouped = λ i l. absurd (omega arith);
  whole = λ i l. absurd (omega arith);
  seen = λ i l. absurd (omega arith);
}

pub returns-in_err-record : goal.returns-in_err-record
unfolding passed_as
returns-in_err-record c =
    let p = err_from_is_err_and c.from_residual.result c.from_residual.ensures.1 in
    let w = numbered_refused c.in_err-record.ensures in
    rw (p.1, p.2) (record {
      reads = left_stop _ _ _ _ _ _ _ _ _ c.loop-i.invariant.left c.loop-i-test.true _ _ _
          (name_alone _ _ _ _ _ (answered_refusal c.read_name.ensures.answers w.0)) w.1;
      grouped = λ at e. never_read e;
      whole = λ at e. never_read e;
    })

pub unreachable-requires : goal.unreachable-requires
unreachable-requires c = name_handed (taken (goal.at.unreachable-requires c).In_ok-record) c.in_default.not-Name

pub label_of-requires : goal.label_of-requires
label_of-requires c =
    (room (edition_of c.args.head.edition) c.args.head.groups (taken (goal.at.label_of-requires c).In_ok-record)).0

pub used_label-requires : goal.used_label-requires
used_label-requires c =
    let l = c.loop-i in
    let n : l.i ≤ length l.labels = omega (arith, l.invariant.long) in
    (first_whole c.args.s.now l.labels l.i n l.invariant.whole, (omega arith, first_seen c.args.s.now l.labels l.i n l.seen l.invariant.seen))

pub returns-then-used_label : goal.returns-then-used_label
unfolding passed_as
returns-then-used_label c =
    let l = c.loop-i in
    let n : l.i ≤ length l.labels = omega (arith, l.invariant.long) in
    let u = rw (first_records c.args.s.now l.labels l.i n name_of, c.label_of.ensures) at c.used_label.ensures.0 in
    rw c.at.ensures (record {
      reads = left_stop _ _ _ _ _ _ _ _ _ l.invariant.left c.loop-i-test.true _ _ _
          (name_used _ _ _ _ (taken (goal.at.returns-then-used_label c).In_ok-record).pass (sym u ∙ c.if-used_label.true)) refl;
      grouped = λ at e. never_read e;
      whole = λ at e. never_read e;
    })

pub loop-i-preserved : goal.loop-i-preserved
loop-i-preserved c =
    let v = edition_of c.args.head.edition in
    let t = taken (goal.at.loop-i-preserved c).In_ok-record in
    let e = same v c.args.head.groups t c.in-Name.is in
    let w = room v c.args.head.groups t in
    let l = c.loop-i in
    let s = c.args.s.now in
    let k : l.i < length l.labels = omega (arith, l.invariant.long) in
    let n : l.i ≤ length l.labels = omega arith in
    let u = rw (first_records s l.labels l.i n name_of, c.label_of.ensures) at c.used_label.ensures.0 in
    record {
      room = omega arith;
      long = simp length-set l.invariant.long;
      left = name_again l.labels _ _ l.invariant.left c.loop-i-test.true k t c.in-Name.is w.0 (sym u ∙ c.if-used_label.false);
      grouped = grouped_more s l.labels l.i l.at k l.names _ (omega (arith, l.invariant.long)) l.invariant.grouped
          (record { number = e.0; numbered = c.read_name.ensures.numbered _ (numbered_read c.in_ok-record.ensures ∙ ap Ok c.in-Name.is) });
      whole = whole_more s l.labels l.i l.at k l.invariant.whole w.0;
      seen = seen_more s l.labels l.i l.at k c.used_label.new.seen
          (seen_first s l.labels l.i n c.used_label.new.seen c.used_label.ensures.1.0) (rw c.label_of.ensures at c.used_label.ensures.1.1);
    }

pub returns : goal.returns
returns c =
    let e : c.loop-i.i ≡ c.args.head.names = omega arith in
    record {
      reads = rw e at (left_done _ _ _ _ _ _ _ _ _ c.loop-i.invariant.left e c.loop-i.invariant.room);
      grouped = λ at f. rw e at c.loop-i.invariant.grouped;
      whole = λ at f. rw e at c.loop-i.invariant.whole;
    }
