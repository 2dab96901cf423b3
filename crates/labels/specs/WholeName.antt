-- Where the record of a name stands whole.
use Rattle.std.specs.Prelude.{ℕ, ◌+◌, ◌≤◌, ◌<◌, List, length, get_or}
use Rattle.wire.specs.Bytes.{u16_at}

-- a whole record stands at an offset that is long enough to be a name's
pub record WholeName (s : List ℕ) (at : ℕ) : Type 0 where
  pub least : 5 ≤ u16_at s at
  pub room : at + 2 + u16_at s at ≤ length s

-- so does one at each of the first n offsets
abbrev pub AllWhole : List ℕ → List ℕ → ℕ → Type 0
AllWhole s offsets n = (j : ℕ) → j < n → WholeName s (get_or offsets j 0)
