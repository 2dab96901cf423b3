-- `put_rows_in` meets its contract. The invariant: the rows so far stand at the front, and nothing else was stored.
use Prim.Native.Nat.{◌≤◌}
use mathlib.Core.Path.{◌≡◌}
use lib.ListN.{length}
use lib.Seq.{sets}
use Rattle.wire.specs.Edition.{edition_of}
use Rattle.wire.specs.Encoding.{encode_register}
use Rattle.wire.specs.Conversion.{rows_in}
use Rattle.rows.specs.RowsRead.{rows_before}
use Rattle.conversion.proofs.rows_in.put_rows_in.Given as goal

abbrev pub invariant-loop-i : goal.invariant-loop-i
invariant-loop-i l =
    record {
      within : l.i ≤ l.n;
      long : length l.out ≡ length l.initial.out;
      written : l.out ≡ sets l.initial.out 0
          (encode_register (edition_of l.edition) (rows_in (edition_of l.edition) (rows_before (edition_of l.from) l.register l.i)));
    }
