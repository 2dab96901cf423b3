-- A row from the words of its membership: document 01, "Registers"; document 02, cards 4 and 5.
use Rattle.std.specs.Prelude.{ℕ, take, drop}
use mathlib.Core.List.{List, flat_map}
use Rattle.wire.specs.U64.{le64}
use Rattle.wire.specs.Edition.{Edition}
use Rattle.wire.specs.Member.{Member}
use Rattle.wire.specs.RegisterFormat.{Row}
use Rattle.rows.specs.RowsRead.{row_words}

-- the row of edition e with this member whose membership bytes are those of as many words as the edition's rows have, from index i on
abbrev pub words_row : Edition → Member → List ℕ → ℕ → Row
words_row e m words i = record { member = m; bits = flat_map le64 (take (row_words e) (drop i words)) }
