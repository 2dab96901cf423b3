-- What the answer on a claim asks of the tables: they hold the records of the sheet.
use Rattle.std.specs.Prelude.{ℕ, ◌≡◌, ◌≤◌, List, length}
use Rattle.reading.specs.declared.sheet_tables.Tables.{Tables}
use Rattle.wire.specs.Limits.{name_limit}
use Rattle.wire.specs.Record.{read}
use Rattle.wire.specs.SheetFormat.{HeadRecord, read_sheet}
use Rattle.reading.specs.Loaded.{records_of, Held}

pub record Asked (h : HeadRecord) (s : List ℕ) (tables : Tables) : Type 0 where
  pub reads : read_sheet s ≡ read (records_of h s tables)
  pub held : Held h s tables
  pub room : name_limit ≤ length tables.names
