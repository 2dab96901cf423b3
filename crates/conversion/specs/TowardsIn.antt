-- What the tables of a sheet that was read say of it, and what the answer on its way to an edition gives.
use Rattle.std.specs.Prelude.{ℕ, ◌≤◌, ◌≡◌, List, length, Result}
use Rattle.wire.specs.declared.refusals.Fault.{Fault}
use Rattle.reading.specs.declared.sheet_tables.Tables.{Tables}
use Rattle.wire.specs.Edition.{Edition}
use Rattle.wire.specs.Limits.{name_limit}
use Rattle.wire.specs.Record.{Reading, read}
use Rattle.wire.specs.Refusals.{reading_of}
use Rattle.wire.specs.SheetFormat.{HeadRecord, Records, name_of, read_sheet}
use Rattle.wire.specs.Conversion.{in_edition, towards}
use Rattle.tables.specs.RecordsIn.{records_in}
use Rattle.labels.specs.WholeName.{AllWhole}
use Rattle.reading.specs.Loaded.{HeadLimits, records_of}

-- document 02's number and values of the answer: the records under edition e, or the refusal with its record
abbrev pub towards_gives : Edition → Records → Result (Unit {0}) Fault → Reading Records
towards_gives e d r = reading_of (λ u. in_edition e d) r

-- records with as many groups as the head h says, and with the names whose records stand at the offsets of a table
pub record RecordsAt (h : HeadRecord) (s labels : List ℕ) (d : Records) : Type 0 where
  pub groups : length d.groups ≡ h.groups
  pub names : d.names ≡ records_in name_of s labels h.names

-- r is the answer on the way of such records to edition e
pub record TowardsAs (e : Edition) (h : HeadRecord) (s labels : List ℕ) (r : Result (Unit {0}) Fault) : Type 0 where
  pub gives : (d : Records) → RecordsAt h s labels d → towards_gives e d r ≡ towards e d

-- the records of the names of the sheet s, whose head is h, stand whole at the offsets of a table
pub record Labelled (h : HeadRecord) (s labels : List ℕ) : Type 0 where
  pub tables : Tables
  pub same : tables.labels ≡ labels
  pub reads : read_sheet s ≡ read (records_of h s tables)
  pub limits : HeadLimits h
  pub whole : AllWhole s labels h.names
  pub room : name_limit ≤ length labels
