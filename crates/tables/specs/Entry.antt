-- What a table of groups has where no group was read.
use Rattle.std.specs.Prelude.{None}
use Rattle.std.proofs.Common.{zero-le}
use Rattle.tables.specs.declared.groups.Group.{Group}

abbrev pub no_group : Group
no_group = record { parent = None; lo = 0; hi = 0; mode = record { 0 = 0 }; bounded = (zero-le, zero-le) }
