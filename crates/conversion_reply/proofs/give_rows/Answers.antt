-- `give_rows` meets its contract: the register's refusal, refusal 14, or the rows.
use Prim.Native.Nat.{◌*◌, ◌<◌}
use mathlib.Core.Path.{sym, ap}
use borrow.Author.Rules.{rules}
use Rattle.wire.specs.Edition.{edition_of}
use Rattle.wire.specs.Encoding.{encode_register}
use Rattle.wire.specs.Conversion.{rows_in}
use Rattle.replies.specs.Reply.{OnceBytes, packed}
use Rattle.replies.proofs.ReplyLaws.{once_passed, once_short, once_stored, too_short}
use Rattle.conversion_reply.proofs.GivenLaws.{bytes_fit, bytes_said}
use Rattle.conversion_reply.proofs.give_rows.Goals.{After-row_bytes}
use Rattle.conversion_reply.proofs.give_rows.Goals as goal

fit : (c : After-row_bytes) → c.row_bytes.result * c.in_ok-count.count < 4294967296
fit c = bytes_fit (edition_of c.args.edition) (edition_of c.args.from) c.args.groups c.args.register.now _ c.row_bytes.ensures c.in_ok-count.ensures

pub overflow_mul-bytes : goal.overflow_mul-bytes
overflow_mul-bytes c = let l = fit c in search rules

pub returns-in_err-room : goal.returns-in_err-room
returns-in_err-room c =
    let to = edition_of c.args.edition in
    let w = c.in_err-room.ensures in
    let bytes = bytes_said to (edition_of c.args.from) c.args.register.now c.in_ok-count.count c.row_bytes.ensures in
    once_passed (λ rows. OnceBytes (encode_register to (rows_in to rows)) _) (sym c.in_ok-count.ensures)
    (once_short (rw bytes w.0) (too_short _ _ c.from_residual-in_err-room.ensures.1 w.1))

pub overflow_cast-result : goal.overflow_cast-result
overflow_cast-result c = let l = fit (goal.at.overflow_cast-result c).After-row_bytes in search rules

pub returns : goal.returns
returns c =
    let a = c.args in
    let e = edition_of a.edition in
    let size = bytes_said e (edition_of a.from) a.register.now c.in_ok-count.count c.row_bytes.ensures in
    once_passed (λ rows. OnceBytes (encode_register e (rows_in e rows)) _) (sym c.in_ok-count.ensures)
    (once_stored _ (rw size c.in_ok-room.ensures) c.put_rows_in.ensures (ap (packed 0) (sym size)))
