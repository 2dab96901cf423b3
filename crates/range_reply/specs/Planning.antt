-- What planners read off a reply of `sheet_ranges`: the arrangement is the smallest clinic that fits, and the ranges serve as
-- bounds. Document 02, card 13. `proofs/Planned` proves both for every reply.
use Rattle.std.specs.Prelude.{ℕ, zero, suc, ◌+◌, ◌-◌, ◌*◌, ◌≤◌, ◌≡◌, true, cond, List, [], ◌∷◌, ◌↔◌, eqb, length}
use Rattle.std.proofs.lemmas.List.Edits.{sets}
use Rattle.wire.specs.Limits.{bound_limit, no_end, no_greatest, range_bytes}
use Rattle.wire.specs.Capacity.{head_bytes, group_bytes}
use Rattle.wire.specs.Bytes.{le16}
use Rattle.wire.specs.Record.{read}
use Rattle.wire.specs.SheetFormat.{GroupRecord, Records, read_sheet}
use Rattle.wire.specs.Encoding.{encode_sheet}
use Rattle.meaning.specs.Sheet.{Sheet, Group}
use Rattle.meaning.specs.Sets.{Sets, count}
use Rattle.meaning.specs.Fits.{Fits, Possible, Attains}
use Rattle.meaning.specs.Shown.{in_run}
use Rattle.meaning.specs.OfRecords.{sheet_of}
use Rattle.replies.specs.Reply.{Call, Replied}
use Rattle.range_reply.specs.RangesReply.{range_least, range_greatest, run_first, run_count, arranged_sets, RangesCall}

-- a readable sheet that some sets fit, whose records are d, and a call with room for the reply
pub record Answerable (sheet : List ℕ) (d : Records) (c : Call) : Type 0 where
  pub readable : read_sheet sheet ≡ read d
  pub possible : Possible (sheet_of d.groups)
  pub room : range_bytes * length d.groups ≤ length c.before

-- "Planners take the arrangement as the least staffing": of the sheet s, as the reply shows it.
pub record Smallest (s : Sheet) (out : List ℕ) : Type 1 where
  -- the sets of the arrangement (they fit: `RangesIn.fits`) have the counts of its runs
  pub counts : (g : ℕ) → Group s g → count (arranged_sets s out) g ≡ run_count out g
  -- "every other choice of sets that fits has at least as many members in the root", whatever its members are
  pub least : (X : Type 0) (A : Sets X) → Fits s A → run_count out 1 ≤ count A 1
  -- "no member of the arrangement is outside it": a member x of any group's run is in the root's
  pub inside : (g x : ℕ) → Group s g → in_run (run_first out g) (run_count out g) x ≡ true
      → in_run (run_first out 1) (run_count out 1) x ≡ true

-- "a sheet whose lo and hi are replaced by its ranges": the two fields of group g, and 65,535 where there is no greatest
abbrev pub range_lo : List ℕ → ℕ → ℕ
range_lo out g = range_least out g

abbrev pub range_hi : List ℕ → ℕ → ℕ
range_hi out g = cond (eqb (range_greatest out g) no_greatest) no_end (range_greatest out g)

abbrev pub replaced_group : List ℕ → ℕ → GroupRecord → GroupRecord
replaced_group out g r = record { parent = r.parent; lo = range_lo out g; hi = range_hi out g; mode = r.mode }

-- the records of groups, the first of them of group g
unfoldable pub replaced_from : List ℕ → ℕ → List GroupRecord → List GroupRecord
replaced_from out g [] = []
replaced_from out g (r ∷ rs) = replaced_group out g r ∷ replaced_from out (suc g) rs

-- all records of the sheet; its bytes are their encoding, as those of every readable sheet are (`readable_is_encoded`)
abbrev pub replaced : List ℕ → Records → Records
replaced out d =
    record { edition = d.edition; groups = replaced_from out 1 d.groups; names = d.names; claims = d.claims }

-- The replaced sheet in bytes: the record of group g stands behind the head and g - 1 groups, its lo 6 bytes into it, its hi 8.
abbrev pub group_place : ℕ → ℕ
group_place g = head_bytes + group_bytes * (g - 1)

abbrev pub group_over : List ℕ → ℕ → List ℕ → List ℕ
group_over out g b = sets (sets b (group_place g + 6) (le16 (range_lo out g))) (group_place g + 8) (le16 (range_hi out g))

-- the bytes with the two fields of the first n groups written over
unfoldable pub written_over : List ℕ → List ℕ → ℕ → List ℕ
written_over out sheet zero = sheet
written_over out sheet (suc n) = group_over out (suc n) (written_over out sheet n)

-- "every finite end is at most 65,534", the least ends among them
pub record EndsWithin (s : Sheet) (out : List ℕ) : Type 0 where
  pub least : (g : ℕ) → Group s g → range_least out g ≤ bound_limit
  pub greatest : (g : ℕ) → Group s g → (range_greatest out g ≡ no_greatest → ⊥) → range_greatest out g ≤ bound_limit

-- two replies with the same four numbers for every group
pub record SameNumbers (s : Sheet) (out out' : List ℕ) : Type 0 where
  pub least : (g : ℕ) → Group s g → range_least out' g ≡ range_least out g
  pub greatest : (g : ℕ) → Group s g → range_greatest out' g ≡ range_greatest out g
  pub first : (g : ℕ) → Group s g → run_first out' g ≡ run_first out g
  pub counted : (g : ℕ) → Group s g → run_count out' g ≡ run_count out g

-- What the replaced sheet has in common with the sheet, whose records are d and whose reply is `out`.
pub record RangesAsBounds (sheet : List ℕ) (d : Records) (out : List ℕ) : Type 1 where
  -- its bytes are the sheet's with lo and hi of every group written over
  pub written : encode_sheet (replaced out d) ≡ written_over out sheet (length d.groups)
  -- reading its bytes gives its records
  pub readable : read_sheet (encode_sheet (replaced out d)) ≡ read (replaced out d)
  -- "the same fitting sets", over any type of member
  pub sets : (X : Type 0) (A : Sets X) → Fits (sheet_of d.groups) A ↔ Fits (sheet_of (replaced out d).groups) A
  -- "and the same ranges"
  pub ranges : (g k : ℕ) → Attains (sheet_of d.groups) g k ↔ Attains (sheet_of (replaced out d).groups) g k
  -- so the operation replies to its bytes, in a buffer with room, with the same ranges, and with the same arrangement
  pub reply : (c : Call) → RangesCall (encode_sheet (replaced out d)) c → range_bytes * length d.groups ≤ length c.before
      → Replied (range_bytes * length d.groups) c × SameNumbers (sheet_of d.groups) out c.after
