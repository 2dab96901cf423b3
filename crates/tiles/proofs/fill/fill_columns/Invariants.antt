-- `tiles::fill::fill_columns` meets its contract. Invariant: the reader has read as many rows as are counted, and these are
-- put. Each row stands at its offset, so that the reader finds it there.
use Prim.Native.Nat.{◌*◌, ◌≤◌}
use mathlib.Core.Path.{◌≡◌}
use Rattle.wire.specs.Edition.{edition_of, row_bytes}
use Rattle.wire.specs.MemberKey.{key_member}
use Rattle.wire.specs.RegisterFormat.{last_member}
use Rattle.rows.specs.RowsRead.{rows_before}
use Rattle.tiles.proofs.FillLaws.{RowsPut}
use Rattle.tiles.proofs.fill.fill_columns.Given as goal

abbrev pub invariant-loop : goal.invariant-loop
invariant-loop l =
    record {
      within : l.counter ≤ l.rows;
      bytes : l.reader.bytes.now ≡ l.register;
      edition : l.reader.edition ≡ l.edition;
      reached : l.reader.at ≡ row_bytes (edition_of l.edition) * l.counter;
      last : key_member l.reader.last ≡ last_member (rows_before (edition_of l.edition) l.register l.counter);
      put : RowsPut (edition_of l.edition) l.register l.words l.counter l.members l.columns l.tile l.tiles;
    }
