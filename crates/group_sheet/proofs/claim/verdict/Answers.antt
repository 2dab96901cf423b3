-- `verdict` meets its contract: the sheet's refusal, or the answer under it.
use native.Mathlib.Omega.{arith}
use Rattle.reading.proofs.LoadedLaws.{loaded_sheet, loaded_held, loaded_refused}
use Rattle.replies.proofs.ReplyLaws.{read_not_refused, once_turned, turned}
use Rattle.group_sheet.proofs.claim.verdict.Goals as goal

pub load_sheet-requires : goal.load_sheet-requires
load_sheet-requires c = record { group_room = omega arith; name_room = omega arith; label_room = omega arith; claim_room = omega arith }

pub returns-in_err-head : goal.returns-in_err-head
returns-in_err-head c = once_turned (loaded_refused c.load_sheet.ensures _ c.in_err-head.was) (turned _ _ c.from_residual.ensures.1)

pub give_claim-requires : goal.give_claim-requires
give_claim-requires c =
    let load = c.load_sheet.ensures in
    let told = c.in_ok-head.was in
    (c.load_sheet.new.labels, record { reads = loaded_sheet load _ told; held = loaded_held load _ told; room = omega arith })

pub returns : goal.returns
returns c =
    let e = loaded_sheet c.load_sheet.ensures _ c.in_ok-head.was in
    record { turned = λ n k f. absurd (read_not_refused e f); passed = c.give_claim.ensures.verdict }
