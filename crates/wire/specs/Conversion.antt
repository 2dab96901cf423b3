-- A sheet and its registers in the other edition: document 02, card 6. Definitions only.
use Rattle.std.specs.Prelude.{ℕ, ◌+◌, List, [], ◌∷◌, map, length, get_or, leb}
use Rattle.laws.specs.Tabulate.{tabulate}
use Rattle.wire.specs.Edition.{Edition, group_limit, label_limit, membership_bytes}
use Rattle.wire.specs.Record.{test, refusal, Reading, read, onward}
use Rattle.wire.specs.SheetFormat.{NameRecord, Records}
use Rattle.wire.specs.RegisterFormat.{Row}

-- "Only the edition in its head changes"
abbrev pub in_edition : Edition → Records → Records
in_edition e d = record { edition = e; groups = d.groups; names = d.names; claims = d.claims }

-- "17: a label above 16 bytes, with the first such name's record": above what edition e has; the first of the names is record r
unfoldable pub names_towards : Edition → ℕ → List NameRecord → Reading Records → Reading Records
names_towards e r [] next = next
names_towards e r (n ∷ ns) next =
    onward (refusal (test 17 (leb (length n.label) (label_limit e)) ∷ [])) r (names_towards e (r + 1) ns next)

-- "16: more than 128 groups": more than edition e has. A sheet of edition e meets neither, and no limit of edition 2 is below that of
-- edition 1, so "both are met only towards edition 1" (`towards_own`, `towards_second`).
unfoldable pub towards : Edition → Records → Reading Records
towards e d =
    onward (refusal (test 16 (leb (length d.groups) (group_limit e)) ∷ [])) 0
    (names_towards e (2 + length d.groups) d.names (read (in_edition e d)))

-- "with member, side and groups kept": every membership byte that edition e has is as it stands, and 0 where the row has none
unfoldable pub row_in : Edition → Row → Row
row_in e r = record { member = r.member; bits = tabulate (λ i. get_or r.bits i 0) (membership_bytes e) }

-- "row for row"
abbrev pub rows_in : Edition → List Row → List Row
rows_in e rs = map (row_in e) rs
