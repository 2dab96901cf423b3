-- The operation `sheet_ranges`, written down: document 01, "Ranges", "The arrangement", "Replies", refusals 1 to 8 and 14.
use Rattle.std.specs.Prelude.{ℕ, ◌+◌, ◌-◌, ◌*◌, ◌≤◌, ◌≡◌, false, List, ◌↔◌}
use Rattle.wire.specs.Limits.{range_bytes, no_greatest}
use Rattle.wire.specs.Bytes.{u16_at, u32_at}
use Rattle.meaning.specs.Sheet.{Sheet, Group, AtMost, end_of}
use Rattle.meaning.specs.Sets.{Sets}
use Rattle.meaning.specs.Fits.{Fits, Attains}
use Rattle.meaning.specs.Arranged.{ArrangedBottomUp}
use Rattle.meaning.specs.Shown.{shown, above}
use Rattle.meaning.specs.OfRecords.{sheet_of}
use Rattle.replies.specs.Reply.{Call, OnceSheet, OncePossible, OnceRoom}

-- where the record of group g stands
abbrev pub range_at : ℕ → ℕ
range_at g = range_bytes * (g - 1)

-- the four numbers of group g's record
abbrev pub range_least : List ℕ → ℕ → ℕ
range_least out g = u32_at out (range_at g + 4)

abbrev pub range_greatest : List ℕ → ℕ → ℕ
range_greatest out g = u32_at out (range_at g + 8)

abbrev pub run_first : List ℕ → ℕ → ℕ
run_first out g = u32_at out (range_at g + 12)

abbrev pub run_count : List ℕ → ℕ → ℕ
run_count out g = u32_at out (range_at g + 16)

-- the sets of the arrangement
abbrev pub arranged_sets : Sheet → List ℕ → Sets ℕ
arranged_sets s out = shown (run_first out) (run_count out) (λ g. false) (above s.size (run_first out) (run_count out))

-- the reply to a sheet that some sets fit, read off the buffer at exit
pub record RangesIn (s : Sheet) (out : List ℕ) : Type 0 where
  pub frame : (g : ℕ) → Group s g → (u16_at out (range_at g) ≡ range_bytes - 2) × (u16_at out (range_at g + 2) ≡ 17)
  -- k lies in the g-th range exactly when some finite sets fit and give group g k members ("4,294,967,295 stands for no
  -- greatest")
  pub range : (g : ℕ) → Group s g → (k : ℕ) →
      ((range_least out g ≤ k) × AtMost k (end_of no_greatest (range_greatest out g))) ↔ Attains s g k
  -- the arrangement is the one that document 01 fixes, from the bottom-up bounds L and U
  pub arranged : ArrangedBottomUp s (run_first out) (run_count out)
  -- and its sets fit (which follows from the line before)
  pub fits : Fits s (arranged_sets s out)

-- what the operation promises under a sheet
abbrev pub Ranges : Sheet → Call → Type 0
Ranges s c = OncePossible s c (OnceRoom (range_bytes * s.size) c (RangesIn s))

-- what it promises of a call with these bytes
abbrev pub RangesCall : List ℕ → Call → Type 0
RangesCall sheet = OnceSheet sheet (λ d. Ranges (sheet_of d.groups))
