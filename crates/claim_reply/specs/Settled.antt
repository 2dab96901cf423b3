-- What the contract of `sheet_claim` settles where sets are shown: all but these (document 01, "We agree on this"; document 02, card 1).
use Rattle.std.specs.Prelude.{ℕ, ◌≡◌, List, length}
use Rattle.wire.specs.Record.{read}
use Rattle.wire.specs.SheetFormat.{read_sheet, Records}
use Rattle.meaning.specs.OfRecords.{sheet_of, claim_at}
use Rattle.sizes.specs.Witness.{HasWitness}
use Rattle.replies.specs.Reply.{packed}
use Rattle.replies.specs.Alike.{shown_reply_bytes, SameButSets}

-- Some sets that fit answer claim k of the sheet (they break it, or have the member of kind 7), the number r returned is that of
-- a verdict with sets, and the buffers are the same but for the sets.
pub record SettledButSets (sheet : List ℕ) (k r : ℕ) (out out' : List ℕ) : Type 0 where
  pub records : Records
  pub readable : read_sheet sheet ≡ read records
  pub witness : HasWitness (sheet_of records.groups) (claim_at records k)
  pub returned : r ≡ packed 0 (shown_reply_bytes (length records.groups))
  pub same : SameButSets (sheet_of records.groups) out out'
