-- The contract of `sheet_register` settles every exit (document 01, "We agree on this").
use Prim.Native.Nat.{ℕ}
use mathlib.Core.Path.{refl, ◌≡◌}
use mathlib.Core.List.{List}
use lib.ListN.{length}
use Rattle.wire.specs.Limits.{answer_bytes}
use Rattle.wire.specs.SheetFormat.{read_sheet}
use Rattle.wire.specs.RegisterFormat.{Row, read_register}
use Rattle.wire.specs.Encoding.{Bytes}
use Rattle.meaning.specs.Sheet.{Sheet}
use Rattle.meaning.specs.OfRecords.{listed_sets}
use Rattle.registers.proofs.Settled.{answered_once}
use Rattle.replies.specs.Reply.{call}
use Rattle.replies.specs.Alike.{Alike}
use Rattle.replies.proofs.Alike.{alike_then, u16_alike}
use Rattle.replies.proofs.Exits.{once_read, once_room, replied_alike}
use Rattle.register_reply.specs.RegisterReply.{AnswerIn, RegisterCall}

-- Registers.
answer_alike : {s : Sheet} {rows : List Row} {out out' : List ℕ} → Bytes out → Bytes out' → AnswerIn s rows out → AnswerIn s rows out'
    → Alike out out' 0 answer_bytes
answer_alike {s} {rows} x y v w =
    let e = answered_once s (listed_sets rows) _ _ _ _ v.answer w.answer in
    alike_then (alike_then (alike_then
    (u16_alike x y 0 v.sized w.sized)
    (u16_alike x y 2 v.kind w.kind))
    (u16_alike x y 4 e.0 refl))
    (u16_alike x y 6 e.1 refl)

-- Two exits of `sheet_register` that meet its contract for the same sheet, register and buffer at entry are the same: the
-- number returned and every byte.
pub register_settled : (sheet register : List ℕ) {before after after' : List ℕ} {r r' : ℕ}
    → RegisterCall sheet register (call before r after) → RegisterCall sheet register (call before r' after')
    → Bytes after → Bytes after' → (r ≡ r') × (after ≡ after')
register_settled sheet register v w x y =
    once_read (λ z. z) (read_sheet sheet) v w
    (λ d e v w. once_read (λ z. z) (read_register d.edition (length d.groups) register) v w
    (λ rows f v w. once_room (λ z. z) v w
    (λ a b m n. replied_alike a b (answer_alike x y m n))))
