-- The way of a sheet to an edition: the sheet is read and goes there, or is turned back.
use Rattle.std.specs.Prelude.{ℕ, ◌≡◌, List, length, Result, Ok, Err}
use Rattle.wire.specs.declared.refusals.Fault.{Fault}
use Rattle.records.specs.declared.record.Head.{Head}
use Rattle.wire.specs.Edition.{Edition}
use Rattle.wire.specs.Record.{read, refused}
use Rattle.wire.specs.Refusals.{refusal_number}
use Rattle.wire.specs.SheetFormat.{HeadRecord, Records, read_sheet}
use Rattle.wire.specs.Conversion.{in_edition, towards}
use Rattle.records.specs.Answers.{head_record}

-- the bytes s are a sheet with this head, which goes to edition e
pub record Goes (e : Edition) (s : List ℕ) (h : HeadRecord) : Type 0 where
  pub records : Records
  pub reads : read_sheet s ≡ read records
  pub edition : records.edition ≡ h.edition
  pub groups : length records.groups ≡ h.groups
  pub there : towards e records ≡ read (in_edition e records)

-- the bytes s are no sheet, or one that does not go to edition e, with the refusal's number and its record's
pub data TurnedBack (e : Edition) (s : List ℕ) (n k : ℕ) : Type 0 where
  unreadable : read_sheet s ≡ refused n k → TurnedBack e s n k
  not_there : (d : Records) → read_sheet s ≡ read d → towards e d ≡ refused n k → TurnedBack e s n k

abbrev pub Way : Edition → List ℕ → Result Head Fault → Type 0
Way e s (Ok h) = Goes e s (head_record h)
Way e s (Err f) = TurnedBack e s (refusal_number f.refusal) f.place
