-- The operation `sheet_register`, written down: document 01, "Registers", "Replies", refusals 1 to 7 and 10 to 14;
-- document 02, cards 2 and 4 (what a member is, 15) and 5 (the edition's rows).
-- It asks nothing of the sheet but that it is readable: 8 is never met.
use Rattle.std.specs.Prelude.{ℕ, ◌-◌, ◌≡◌, List}
use Rattle.wire.specs.Limits.{answer_bytes}
use Rattle.wire.specs.Bytes.{u16_at}
use Rattle.wire.specs.Edition.{Edition}
use Rattle.wire.specs.RegisterFormat.{Row, read_register}
use Rattle.meaning.specs.Sheet.{Sheet}
use Rattle.meaning.specs.Rule.{Answered}
use Rattle.meaning.specs.OfRecords.{sheet_of, listed_sets}
use Rattle.replies.specs.Reply.{Call, OnceSheet, OnceRead, OnceRoom}

-- the reply, read off the buffer at exit
pub record AnswerIn (s : Sheet) (rows : List Row) (out : List ℕ) : Type 0 where
  pub sized : u16_at out 0 ≡ answer_bytes - 2
  pub kind : u16_at out 2 ≡ 20
  pub answer : Answered s (listed_sets rows) (u16_at out 4) (u16_at out 6)

-- what the operation promises on a register under a sheet of edition e
abbrev pub Register : List ℕ → Edition → Sheet → Call → Type 0
Register register e s c =
    OnceRead (read_register e s.size register) c (λ rows.
    OnceRoom answer_bytes c (AnswerIn s rows))

-- what it promises of a call with these bytes
abbrev pub RegisterCall : List ℕ → List ℕ → Call → Type 0
RegisterCall sheet register = OnceSheet sheet (λ d. Register register d.edition (sheet_of d.groups))
