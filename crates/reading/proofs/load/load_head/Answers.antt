-- The head, from which reading goes on after it.
use Rattle.std.proofs.Common.{◌≡◌}
use Rattle.std.proofs.lemmas.Result.{err_from_is_err_and}
use Rattle.wire.proofs.Passing.{never_read}
use Rattle.records.specs.Answers.{head_record}
use Rattle.records.proofs.Carried.{answered_record, answered_refusal, head_handed}
use Rattle.reading.specs.Loaded.{goes_on, loaded_as}
use Rattle.reading.proofs.LoadedLaws.{numbered_refused, numbered_read}
use Rattle.reading.proofs.Stages.{head_refused, head_limits, head_goes}
use Rattle.reading.proofs.load.load_head.Goals.{After-numbered}
use Rattle.reading.proofs.load.load_head.Goals as goal

pub returns-in_err-record : goal.returns-in_err-record
unfolding goes_on loaded_as
returns-in_err-record c =
    let p = err_from_is_err_and c.from_residual.result c.from_residual.ensures.1 in
    let w = numbered_refused c.in_err-record.ensures in
    rw (p.1, p.2) (record { reads = rw w.1 (head_refused _ _ (answered_refusal c.read_head.ensures w.0)); limits = λ h e. never_read e })

pub unreachable-requires : goal.unreachable-requires
unreachable-requires c =
    head_handed (answered_record c.read_head.ensures (numbered_read c.in_ok-record.ensures)) c.in_default.not-Head

pub returns : goal.returns
unfolding goes_on loaded_as
returns c =
    let w = answered_record c.read_head.ensures (numbered_read c.in_ok-record.ensures) in
    record {
      reads = head_goes w c.in-Head.is;
      limits = λ h e. let z : head_record c.in-Head.head ≡ h = cc in rw (← z) (head_limits w c.in-Head.is);
    }
