-- What is read back from the records of a reply: document 01, "Replies".
use Rattle.std.specs.Prelude.{ℕ, ◌-◌, ◌+◌, ◌*◌, ◌<◌, ◌≡◌, List, get_or}
use Rattle.wire.specs.Limits.{answer_bytes, verdict_bytes, range_bytes, shown_bytes}
use Rattle.wire.specs.Bytes.{u16_at, u32_at}
use Rattle.spans.specs.declared.span.Span.{Span}

-- kind 20: group and rule
pub record AnswerAt (out : List ℕ) (g r : ℕ) : Type 0 where
  pub sized : u16_at out 0 ≡ answer_bytes - 2
  pub kind : u16_at out 2 ≡ 20
  pub group : u16_at out 4 ≡ g
  pub rule : u16_at out 6 ≡ r

-- kind 17: least, greatest, first, count
pub record RangeAt (out : List ℕ) (at l u f n : ℕ) : Type 0 where
  pub sized : u16_at out at ≡ range_bytes - 2
  pub kind : u16_at out (at + 2) ≡ 17
  pub least : u32_at out (at + 4) ≡ l
  pub greatest : u32_at out (at + 8) ≡ u
  pub first : u32_at out (at + 12) ≡ f
  pub count : u32_at out (at + 16) ≡ n

-- kind 19: first, count, mark
pub record ShownAt (out : List ℕ) (at f n m : ℕ) : Type 0 where
  pub sized : u16_at out at ≡ shown_bytes - 2
  pub kind : u16_at out (at + 2) ≡ 19
  pub first : u32_at out (at + 4) ≡ f
  pub count : u32_at out (at + 8) ≡ n
  pub mark : u16_at out (at + 12) ≡ m

-- the first n fields of two bytes
abbrev pub U16sPut : List ℕ → ℕ → List ℕ → Type 0
U16sPut out n ws = (i : ℕ) → i < n → u16_at out (2 * i) ≡ get_or ws i 0

-- what stands for an entry past the end of the ranges
abbrev pub no_range : Span
no_range = record { least = 0; most = 0 }

-- every group's record of kind 17, and of kind 19; the groups are numbered from 0 here
abbrev pub RangesPut : List ℕ → ℕ → List Span → List ℕ → List ℕ → Type 0
RangesPut out n ranges firsts counts =
    (g : ℕ) → g < n → RangeAt out (range_bytes * g) (get_or ranges g no_range).least (get_or ranges g no_range).most
    (get_or firsts g 0) (get_or counts g 0)

abbrev pub SetsPut : List ℕ → ℕ → List ℕ → List ℕ → List ℕ → Type 0
SetsPut out n firsts counts marks =
    (g : ℕ) → g < n → ShownAt out (verdict_bytes + shown_bytes * g) (get_or firsts g 0) (get_or counts g 0) (get_or marks g 0)
