-- The operations `sheet_to_edition1`, `sheet_to_edition2`, `sheet_register_to_edition1` and `sheet_register_to_edition2`, written down:
-- document 02, card 6; refusals 1 to 7, 16, 17, for a register 10, 11, 15, 12 and 13, and 14. They ask nothing of the sheet but
-- that it is readable: 8 is never met. `Converted` says what a conversion keeps.
use Rattle.std.specs.Prelude.{ℕ, List, length}
use Rattle.wire.specs.Edition.{Edition}
use Rattle.wire.specs.SheetFormat.{Records}
use Rattle.wire.specs.RegisterFormat.{read_register}
use Rattle.wire.specs.Encoding.{encode_sheet, encode_register}
use Rattle.wire.specs.Conversion.{towards, rows_in}
use Rattle.replies.specs.Reply.{Call, OnceSheet, OnceRead, OnceBytes}

-- what the operations promise towards edition e on the records of a sheet, and on a register under it
abbrev pub SheetTowards : Edition → Records → Call → Type 0
SheetTowards e d c =
    OnceRead (towards e d) c (λ converted.
    OnceBytes (encode_sheet converted) c)

abbrev pub RegisterTowards : Edition → List ℕ → Records → Call → Type 0
RegisterTowards e register d c =
    OnceRead (towards e d) c (λ there.
    OnceRead (read_register d.edition (length d.groups) register) c (λ rows.
    OnceBytes (encode_register e (rows_in e rows)) c))

-- what they promise of a call with these bytes
abbrev pub SheetConversion : Edition → List ℕ → Call → Type 0
SheetConversion e sheet = OnceSheet sheet (SheetTowards e)

abbrev pub RegisterConversion : Edition → List ℕ → List ℕ → Call → Type 0
RegisterConversion e sheet register = OnceSheet sheet (RegisterTowards e register)
