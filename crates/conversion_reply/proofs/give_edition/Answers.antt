-- `give_edition` meets its contract: refusal 14, or the sheet's bytes with the edition stored over them.
use mathlib.Core.Path.{sym, ap}
use lib.Seq.{sets, length-sets}
use borrow.Author.Rules.{rules}
use Rattle.wire.specs.Bytes.{le16}
use Rattle.replies.specs.Reply.{packed}
use Rattle.replies.proofs.ReplyLaws.{once_short, once_stored, too_short}
use Rattle.conversion_reply.proofs.GivenLaws.{sheet_fits, edition_over}
use Rattle.conversion_reply.proofs.give_edition.Goals as goal

pub returns-in_err-room : goal.returns-in_err-room
returns-in_err-room c =
    let w = c.in_err-room.ensures in
    once_short (rw (length-sets c.args.sheet.now 4 (le16 c.args.edition)) w.0) (too_short _ _ c.from_residual.ensures.1 w.1)

pub overflow_cast-result : goal.overflow_cast-result
overflow_cast-result c = let l = sheet_fits _ c.requires.1 in search rules

pub returns : goal.returns
returns c =
    let a = c.args in
    let sheet = a.sheet.now in
    let l = c.in_ok-room.ensures in
    let size = length-sets sheet 4 (le16 a.edition) in
    once_stored (sets sheet 4 (le16 a.edition)) (rw size l)
    (edition_over a.edition sheet a.reply.now c.requires.0 l c.put_bytes.ensures c.put_u16.ensures) (ap (packed 0) (sym size))
