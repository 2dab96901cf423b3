-- `ranges` meets its contract: the sheet's refusal, or the answer under it.
use Rattle.meaning.specs.OfRecords.{sheet_of}
use Rattle.tables.specs.SheetIn.{sheet_in}
use Rattle.reading.proofs.LoadedLaws.{loaded_sheet, loaded_refused}
use Rattle.reading.proofs.TabledLaws.{loaded_tabled}
use Rattle.range_reply.specs.RangesReply.{Ranges}
use Rattle.replies.proofs.ReplyLaws.{once_turned, once_passed, turned}
use Rattle.group_sheet.proofs.ranges.ranges.Goals as goal

pub returns-in_err-head : goal.returns-in_err-head
returns-in_err-head c =
    once_turned (loaded_refused c.load_tree.ensures.loads _ c.in_err-head.was) (turned _ _ c.from_residual.ensures.1)

pub invariant_of-groups : goal.invariant_of-groups
invariant_of-groups c = record { tabled = loaded_tabled c.load_tree.ensures.loads _ c.in_ok-head.was }

pub returns : goal.returns
unfolding sheet_in
returns c =
    once_passed (λ d. Ranges (sheet_of d.groups) _) (loaded_sheet c.load_tree.ensures.loads _ c.in_ok-head.was) c.give_ranges.ensures
