-- `rows::read::read_rows` meets its contract. Invariant: the reading that is left after `row` rows is the whole reading, and the
-- reader stands behind these rows.
use Prim.Native.Nat.{◌-◌, ◌*◌, ◌≤◌}
use mathlib.Core.Path.{◌≡◌}
use Rattle.wire.specs.Edition.{edition_of, row_bytes}
use Rattle.wire.specs.Limits.{row_limit}
use Rattle.wire.specs.MemberKey.{key_member}
use Rattle.wire.specs.RegisterFormat.{last_member, read_register}
use Rattle.rows.specs.RowsRead.{rows_before}
use Rattle.rows.proofs.RowLaws.{going}
use Rattle.rows.proofs.read.read_rows.Given as goal

abbrev pub invariant-loop-row : goal.invariant-loop-row
invariant-loop-row l =
    record {
      within : l.row ≤ row_limit;
      bytes : l.reader.bytes.now ≡ l.register;
      edition : l.reader.edition ≡ l.edition;
      reached : l.reader.at ≡ row_bytes (edition_of l.edition) * l.row;
      last : key_member l.reader.last ≡ last_member (rows_before (edition_of l.edition) l.register l.row);
      left : read_register (edition_of l.edition) l.groups l.register ≡ going (edition_of l.edition) l.groups l.register l.row;
    }

abbrev pub decreases-loop-row : goal.decreases-loop-row
decreases-loop-row l = row_limit - l.row
