-- The transpose of a matrix of 64 words: its rows are the words, its columns the digits.
use Rattle.std.specs.Prelude.{ℕ, ◌+◌, ◌<◌, ◌≡◌, List, get_or}
use Rattle.laws.specs.Digit.{digit}

-- words of a matrix, digits of a word
abbrev pub side : ℕ
side = 64

-- from 64 words of t, from an index on, to u: digit c of word r is digit r of word c
pub record Transposed (t : List ℕ) (at : ℕ) (u : List ℕ) : Type 0 where
  pub each : (r c : ℕ) → r < side → c < side → digit (get_or u r 0) c ≡ digit (get_or t (at + c) 0) r
