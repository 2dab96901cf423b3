-- A write to n bytes at an offset: the length and every other byte stay.
use Rattle.std.specs.Prelude.{ℕ, ◌+◌, ◌≤◌, ◌<◌, ◌≡◌, List, length, get_or}

pub record Wrote (before : List ℕ) (at n : ℕ) (after : List ℕ) : Type 0 where
  pub sized : length after ≡ length before
  pub under : (j : ℕ) → j < at → get_or after j 0 ≡ get_or before j 0
  pub over : (j : ℕ) → at + n ≤ j → get_or after j 0 ≡ get_or before j 0
