-- What the writing of ranges asks and leaves: the tables measured, and the records in the buffer.
use Rattle.std.specs.Prelude.{ℕ, ◌*◌, ◌≤◌, List, length}
use Rattle.wire.specs.Limits.{range_bytes}
use Rattle.tables.specs.declared.groups.Group.{Group}
use Rattle.tables.specs.SheetIn.{sheet_in}
use Rattle.spans.specs.declared.pair.Pair.{Pair}
use Rattle.measuring.specs.Fitting.{Arrangeable}
use Rattle.replies.specs.Wrote.{Wrote}
use Rattle.range_reply.specs.RangesReply.{RangesIn}

-- the tables are measured, and the buffer has room for the records
pub record RangesReady (groups : List Group) (n : ℕ) (spans after : List Pair) (before : List ℕ) : Type 0 where
  pub measured : Arrangeable groups n spans after
  pub room : range_bytes * n ≤ length before

-- the records are in the buffer, and nothing else changed
pub record RangesWritten (groups : List Group) (n : ℕ) (before after : List ℕ) : Type 0 where
  pub wrote : Wrote before 0 (range_bytes * n) after
  pub ranges : RangesIn (sheet_in groups n) after
