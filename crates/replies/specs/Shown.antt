-- A verdict, and sets that are shown with it, as the records of a reply have them: document 01, "Replies" (kinds 18 and 19) and "The
-- arrangement" (denials).
use Rattle.std.specs.Prelude.{ℕ, ◌+◌, ◌-◌, ◌*◌, ◌≤◌, ◌≡◌, List, eqb}
use Rattle.replies.specs.declared.verdict.Verdict.{Verdict}
use Rattle.wire.specs.Limits.{verdict_bytes, shown_bytes}
use Rattle.wire.specs.Bytes.{u32_at, u16_at}
use Rattle.meaning.specs.Sheet.{Sheet, Group}
use Rattle.meaning.specs.Sets.{Sets}
use Rattle.meaning.specs.Fits.{Fits}
use Rattle.meaning.specs.Shown.{shown, above}
use Rattle.replies.specs.Verdict.{verdict_number}

-- where the record of group g stands
abbrev pub shown_at : ℕ → ℕ
shown_at g = verdict_bytes + shown_bytes * (g - 1)

-- the numbers of group g's record
abbrev pub shown_first : List ℕ → ℕ → ℕ
shown_first out g = u32_at out (shown_at g + 4)

abbrev pub shown_count : List ℕ → ℕ → ℕ
shown_count out g = u32_at out (shown_at g + 8)

abbrev pub shown_mark : List ℕ → ℕ → ℕ
shown_mark out g = u16_at out (shown_at g + 12)

-- the sets that are shown, read off the buffer at exit
abbrev pub shown_sets : Sheet → List ℕ → Sets ℕ
shown_sets s out = shown (shown_first out) (shown_count out) (λ g. eqb (shown_mark out g) 1) (above s.size (shown_first out) (shown_count out))

-- the verdict's record
pub record VerdictIn (v : Verdict) (out : List ℕ) : Type 0 where
  pub sized : u16_at out 0 ≡ verdict_bytes - 2
  pub kind : u16_at out 2 ≡ 18
  pub verdict : u16_at out 4 ≡ verdict_number v

-- the record of group g
pub record ShownIn (out : List ℕ) (g : ℕ) : Type 0 where
  pub sized : u16_at out (shown_at g) ≡ shown_bytes - 2
  pub kind : u16_at out (shown_at g + 2) ≡ 19
  pub first : 1 ≤ shown_first out g
  pub mark : shown_mark out g ≤ 1

-- A verdict with sets. The sets, and the start of an empty run, are open but for this: they fit, and P is so of them.
pub record SetsIn (s : Sheet) (v : Verdict) (P : Sets ℕ → Type 0) (out : List ℕ) : Type 0 where
  pub verdict : VerdictIn v out
  pub records : (g : ℕ) → Group s g → ShownIn out g
  pub fits : Fits s (shown_sets s out)
  pub shows : P (shown_sets s out)
