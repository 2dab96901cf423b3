-- One record: its frame (document 01, "What it reads and gives"), and the tests that it meets in order ("Turned back, in
-- checking order"). The number of the first test that fails is the refusal.
use Rattle.std.specs.Prelude.{ℕ, ◌+◌, Bool, cond, ◌&&◌, List, [], ◌∷◌, length, drop, leb, eqb}
use Rattle.wire.specs.Bytes.{u16_at}

-- "A record is a two-byte length L (of all that follows it), a two-byte kind, then its body of L − 2 bytes."
abbrev pub length_of : List ℕ → ℕ
length_of b = u16_at b 0

abbrev pub kind_of : List ℕ → ℕ
kind_of b = u16_at b 2

-- what follows the record
unfoldable pub after : List ℕ → List ℕ
after b = drop (length_of b + 2) b

-- refusal 1 is met unless four bytes and as many as the length asks remain, and the length is at least 2
unfoldable pub framed : List ℕ → Bool
framed b = leb 4 (length b) && leb 2 (length_of b) && leb (length_of b + 2) (length b)

-- a refusal's number, and whether the record passes
pub data Test : Type 0 where
  test : ℕ → Bool → Test

-- the number of the first test that fails, 0 when all pass
unfoldable pub refusal : List Test → ℕ
refusal [] = 0
refusal (test n ok ∷ ts) = cond ok (refusal ts) n

-- what reading gives: a value, or a refusal with its number and the record's number
pub data Reading (A : Type 0) : Type 0 where
  read : A → Reading A
  refused : ℕ → ℕ → Reading A

-- go on where nothing refused the record numbered r
unfoldable pub onward : {A : Type 0} → ℕ → ℕ → Reading A → Reading A
onward n r next = cond (eqb n 0) next (refused n r)
