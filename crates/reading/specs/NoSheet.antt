-- The tables where no sheet was read.
use Rattle.std.specs.Prelude.{None, replicate}
use Rattle.reading.specs.declared.sheet_tables.Tables.{Tables}
use Rattle.wire.specs.Capacity.{group_capacity}
use Rattle.wire.specs.Limits.{name_limit, claim_limit}
use Rattle.tables.specs.Entry.{no_group}
use Rattle.claim_records.specs.ClaimTable.{no_claim}

abbrev pub no_tables : Tables
no_tables = record {
  groups = replicate group_capacity no_group;
  names = replicate name_limit None;
  labels = replicate name_limit 0;
  claims = replicate claim_limit no_claim;
}
