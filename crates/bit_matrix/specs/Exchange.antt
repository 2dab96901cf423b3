-- One exchange: words i and i + 32 come to stand beside one another, and their blocks of s digits that lie across are exchanged.
use Rattle.std.specs.Prelude.{ℕ, ◌+◌, ◌-◌, ◌*◌, ◌/◌, ◌%◌, ◌<◌, ◌≡◌, List, get_or}
use Rattle.laws.specs.Digit.{digit}
use Rattle.bit_matrix.specs.Matrix.{side}

-- m has the lower one of every two blocks of s digits
pub record Mask (s m : ℕ) : Type 0 where
  pub first : (c : ℕ) → c < s → digit m c ≡ 1
  pub next : (c : ℕ) → s + c < side → digit m c + digit m (s + c) ≡ 1

-- where digit c of word r comes from: which word, and which of its digits
abbrev pub from_row : ℕ → ℕ → ℕ → ℕ
from_row m r c = r / 2 + 32 * (1 - digit m c)

abbrev pub from_column : ℕ → ℕ → ℕ → ℕ → ℕ
from_column s m r c = c + s * (r % 2) - s * (1 - digit m c)

-- the first n words of u are exchanged, from words of t from an index on
pub record Exchanged (s m n : ℕ) (t : List ℕ) (at : ℕ) (u : List ℕ) : Type 0 where
  pub each : (r c : ℕ) → r < n → c < side → digit (get_or u r 0) c ≡ digit (get_or t (at + from_row m r c) 0) (from_column s m r c)
