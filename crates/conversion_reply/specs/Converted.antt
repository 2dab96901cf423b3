-- What a converted sheet and a converted register have in common with the first: document 02, card 6. Over the direction, and over all
-- calls that meet the contracts; `proofs/Converted` proves each statement.
use Rattle.std.specs.Prelude.{ℕ, ◌≤◌, ◌<◌, ◌≡◌, List, map, ◌⊎◌, length, take, get_or}
use Rattle.wire.specs.Edition.{Edition, edition_number}
use Rattle.wire.specs.Bytes.{u16_at}
use Rattle.wire.specs.Record.{read}
use Rattle.wire.specs.SheetFormat.{Records, read_sheet}
use Rattle.wire.specs.RegisterFormat.{Row, in_group, read_register}
use Rattle.wire.specs.Encoding.{Bytes}
use Rattle.wire.specs.Conversion.{in_edition}
use Rattle.replies.specs.Reply.{Call, call}
use Rattle.range_reply.specs.RangesReply.{RangesCall}
use Rattle.claim_reply.specs.ClaimReply.{ClaimCall}
use Rattle.claim_reply.specs.Settled.{SettledButSets}
use Rattle.register_reply.specs.RegisterReply.{RegisterCall}
use Rattle.conversion_reply.specs.ConversionReply.{SheetConversion, RegisterConversion}

-- a call that was not refused, and its reply
abbrev pub Succeeds : Call → Type 0
Succeeds c = c.returned < 4294967296

abbrev pub reply_of : Call → List ℕ
reply_of c = take c.returned c.after

-- "Only the edition in its head changes": it stands in bytes 4 and 5
pub record OnlyEdition (e : Edition) (sheet out : List ℕ) : Type 0 where
  pub sized : length out ≡ length sheet
  pub edition : u16_at out 4 ≡ edition_number e
  pub others : (i : ℕ) → (i < 4) ⊎ (6 ≤ i) → get_or out i 0 ≡ get_or sheet i 0

-- "row for row, with member, side and groups kept"
pub record RowsKept (rs rs' : List Row) : Type 0 where
  pub members : map (λ r. r.member) rs' ≡ map (λ r. r.member) rs
  pub groups : (g : ℕ) → map (λ r. in_group r g) rs' ≡ map (λ r. in_group r g) rs

-- "already in the wanted edition is copied": the conversion y of x, a sheet or a register under it
abbrev pub Copied : Edition → List ℕ → List ℕ → List ℕ → Type 0
Copied e sheet x y = u16_at sheet 4 ≡ edition_number e → y ≡ x

-- "and back has its first bytes again": every conversion of what was made of x, towards the sheet's own edition and with room, gives x
abbrev pub Back : List ℕ → List ℕ → (Edition → Call → Type 0) → Type 0
Back sheet x Converts =
    (f : Edition) → u16_at sheet 4 ≡ edition_number f → (c : Call) → Converts f c → length x ≤ length c.before → Succeeds c × (reply_of c ≡ x)

-- What holds of a sheet and of its conversion `out` towards edition e.
pub record SheetConverted (e : Edition) (sheet out : List ℕ) : Type 0 where
  pub only : OnlyEdition e sheet out
  -- both are readable, and have the same groups, names and claims
  pub readable : (d : Records) × (read_sheet sheet ≡ read d) × (read_sheet out ≡ read (in_edition e d))
  pub copied : Copied e sheet sheet out
  pub back : Back sheet sheet (λ f. SheetConversion f out)
  -- "each verdict over the converted sheet equals the verdict over the original": of two calls with one buffer at entry, the numbers
  -- returned are equal and so is every byte, but for the sets that a verdict shows
  pub ranges : {before after after' : List ℕ} {r r' : ℕ} → RangesCall sheet (call before r after) → RangesCall out (call before r' after')
      → Bytes after → Bytes after' → (r ≡ r') × (after ≡ after')
  pub claims : (k : ℕ) {before after after' : List ℕ} {r r' : ℕ} → ClaimCall sheet k (call before r after)
      → ClaimCall out k (call before r' after') → Bytes after → Bytes after'
      → (r ≡ r') × ((after ≡ after') ⊎ SettledButSets sheet k r after after')

-- What holds of a register and of its conversion `out` towards edition e, under a sheet and the sheet's conversion.
pub record RegisterConverted (e : Edition) (sheet sheet' register out : List ℕ) : Type 0 where
  -- the register is read under its sheet, the conversion under as many groups in edition e, and the rows are kept
  pub rows : (d : Records) × (rs rs' : List Row) × (read_sheet sheet ≡ read d) × (read_register d.edition (length d.groups) register ≡ read rs)
      × (read_register e (length d.groups) out ≡ read rs') × RowsKept rs rs'
  pub copied : Copied e sheet register out
  pub back : Back sheet register (λ f. RegisterConversion f sheet' out)
  -- the check of a register replies the same
  pub checked : {before after after' : List ℕ} {r r' : ℕ} → RegisterCall sheet register (call before r after)
      → RegisterCall sheet' out (call before r' after') → Bytes after → Bytes after' → (r ≡ r') × (after ≡ after')
