-- `put_front` meets its contract: fields of four, four and two bytes are a run of ten.
use mathlib.Core.List.{◌++◌}
use Rattle.laws.proofs.SetsLaws.{sets_then}
use Rattle.wire.specs.Bytes.{le16, le32}
use Rattle.wire.specs.Edition.{edition_of}
use Rattle.wire.specs.Member.{side_number}
use Rattle.rows.specs.Sides.{side_meant}
use Rattle.rows.specs.RowsRead.{row_frame}
use Rattle.row_writing.proofs.put_front.Goals as goal

pub returns : goal.returns
unfolding le16 le32
returns c =
    let a = c.args in
    let f = le32 (row_frame (edition_of a.edition)) in
    let m = le32 a.number in
    sets_then (f ++ m) (le16 (side_number (side_meant a.side))) a.out.now a.at
    (sets_then f m a.out.now a.at (rw c.row_frame.ensures at c.put_u32.ensures) c.put_u32-2.ensures)
    (rw c.number.ensures at c.put_u16.ensures)
