-- The number of each refusal: document 01, "Turned back, in checking order"; document 02, cards 4 (15) and 6 (16, 17). And what an answer
-- that may be a refusal stands for.
use Rattle.std.specs.Prelude.{ℕ, Result, Ok, Err}
use Rattle.wire.specs.declared.refusals.Refusal.{Refusal}
use Rattle.wire.specs.declared.refusals.Fault.{Fault}
use Rattle.wire.specs.Record.{Reading, read, refused}
use Rattle.wire.specs.declared.refusals.Refusal.TheVariants as refusal

abbrev pub refusal_number : Refusal → ℕ
refusal_number refusal.Cut = 1
refusal_number refusal.WrongKind = 2
refusal_number refusal.WrongLength = 3
refusal_number refusal.FieldRange = 4
refusal_number refusal.BadReference = 5
refusal_number refusal.LabelTwice = 6
refusal_number refusal.Trailing = 7
refusal_number refusal.ManyGroups = 16
refusal_number refusal.LongLabel = 17
refusal_number refusal.Impossible = 8
refusal_number refusal.NoSuchClaim = 9
refusal_number refusal.TooManyRows = 10
refusal_number refusal.BadRow = 11
refusal_number refusal.BadSide = 15
refusal_number refusal.MemberOrder = 12
refusal_number refusal.BitAbove = 13
refusal_number refusal.ReplyShort = 14

-- a value, or a refusal's number with the number of its record or row
abbrev pub reading_of : {A B : Type 0} → (A → B) → Result A Fault → Reading B
reading_of f (Ok a) = read (f a)
reading_of f (Err e) = refused (refusal_number e.refusal) e.place

-- the number of a refusal, 0 where there is none
abbrev pub number_met : {A : Type 0} → Result A Refusal → ℕ
number_met (Ok a) = 0
number_met (Err e) = refusal_number e
