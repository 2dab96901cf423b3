-- `give_ranges` meets its contract: refusal 8, refusal 14, or the records.
use Prim.Native.Nat.{◌*◌}
use mathlib.Core.Path.{sym, ap, ◌∙◌}
use mathlib.Core.Bool.{false≢true}
use native.Mathlib.Omega.{arith}
use borrow.Author.Rules.{rules}
use Rattle.tables.proofs.SheetInLaws.{size_in}
use Rattle.wire.specs.Limits.{range_bytes}
use Rattle.replies.proofs.ReplyLaws.{once_none_fit, once_some_fit, once_short, once_written, room_said, too_short}
use Rattle.range_reply.proofs.give_ranges.Goals as goal

pub returns-then-not-measure : goal.returns-then-not-measure
returns-then-not-measure c =
    once_none_fit (λ p. false≢true (sym c.if-not-measure.true ∙ c.measure.ensures.told.1 p)) (search rules)

pub returns-in_err-room : goal.returns-in_err-room
returns-in_err-room c =
    let t = c.args.groups.now in
    once_some_fit (c.measure.ensures.told.0 c.if-not-measure.false)
    (once_short (omega (arith, size_in t.table.now t.size, c.in_err-room.ensures.0)) (too_short _ _ c.from_residual.ensures.1 c.in_err-room.ensures.1))

pub returns : goal.returns
returns c =
    let a = c.args.groups.now in
    let put = c.put.ensures in
    once_some_fit (c.measure.ensures.told.0 c.if-not-measure.false)
    (room_said (ap (λ m. range_bytes * m) (sym (size_in a.table.now a.size))) (λ out p. p)
    (once_written _ c.in_ok-room.ensures put.wrote put.ranges))
