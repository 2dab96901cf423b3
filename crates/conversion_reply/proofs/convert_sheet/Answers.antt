-- `convert_sheet` meets its contract: the refusal of the sheet or of its way, or the sheet with another edition in its head.
use Rattle.wire.specs.Edition.{edition_of}
use Rattle.wire.specs.Encoding.{encode_sheet}
use Rattle.replies.specs.Reply.{OnceBytes}
use Rattle.conversion_reply.proofs.GivenLaws.{sheet_length, sheet_in_law, once_there}
use Rattle.conversion_reply.proofs.convert_sheet.Goals as goal

pub give_edition-requires : goal.give_edition-requires
give_edition-requires c = sheet_length _ _ c.in_ok-load_towards.ensures.reads

pub returns : goal.returns
returns c =
    let a = c.args in
    let w = c.in_ok-load_towards.ensures in
    once_there (λ d converted. OnceBytes (encode_sheet converted) _) w
    (sheet_in_law (edition_of a.edition) a.sheet.now (λ i. (c.type_inv.sheet i).fits) _ w.reads a.edition c.requires c.give_edition.ensures)
