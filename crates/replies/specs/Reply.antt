-- What a call leaves, refused or replied to, and the refusals that operations share, each in its place: document 01,
-- "Replies" and "Turned back, in checking order". An operation's contract is `OnceSheet` with its own part, which puts the
-- others together in 01's order.
use Rattle.std.specs.Prelude.{ℕ, ◌+◌, ◌*◌, ◌≤◌, ◌<◌, ◌≡◌, List, length, take, drop}
use Rattle.wire.specs.Record.{Reading, read, refused}
use Rattle.wire.specs.SheetFormat.{Records, read_sheet}
use Rattle.meaning.specs.Sheet.{Sheet}
use Rattle.meaning.specs.Fits.{Possible}

-- a call: the reply buffer at entry, the number returned, the reply buffer at exit
pub record Call : Type 0 where
  pub before : List ℕ
  pub returned : ℕ
  pub after : List ℕ

abbrev pub call : List ℕ → ℕ → List ℕ → Call
call before r after = record { before = before; returned = r; after = after }

-- "Through C the pair is one 64-bit number, the first times 4,294,967,296 plus the second."
abbrev pub packed : ℕ → ℕ → ℕ
packed n k = n * 4294967296 + k

-- "A refusal returns its number and a record number, and writes nothing."
pub record Refused (n k : ℕ) (c : Call) : Type 0 where
  pub returned : c.returned ≡ packed n k
  pub unchanged : c.after ≡ c.before

-- "Success returns 0 and the bytes written; bytes after them stay."
pub record Replied (n : ℕ) (c : Call) : Type 0 where
  pub returned : c.returned ≡ packed 0 n
  pub sized : length c.after ≡ length c.before
  pub rest : drop n c.after ≡ drop n c.before

-- 1 to 7 for a sheet, 16 and 17 for its way to an edition, 10 to 13 and 15 for a register: what is turned back is refused so, and
-- what is read goes on
pub record OnceRead {A : Type 0} (x : Reading A) (c : Call) (P : A → Type 0) : Type 0 where
  pub turned : (n k : ℕ) → x ≡ refused n k → Refused n k c
  pub passed : (d : A) → x ≡ read d → P d

-- an operation on a sheet: 1 to 7, and what the operation itself promises under the sheet's records
abbrev pub OnceSheet : List ℕ → (Records → Call → Type 0) → Call → Type 0
OnceSheet sheet P c = OnceRead (read_sheet sheet) c (λ d. P d c)

-- 8: no finite sets fit
pub record OncePossible (s : Sheet) (c : Call) (P : Type 0) : Type 0 where
  pub impossible : (Possible s → ⊥) → Refused 8 0 c
  pub possible : Possible s → P

-- 14: the reply buffer is shorter than the reply, which has n bytes
pub record OnceRoom (n : ℕ) (c : Call) (P : List ℕ → Type 0) : Type 0 where
  pub short : length c.before < n → Refused 14 0 c
  pub replied : n ≤ length c.before → Replied n c × P c.after

-- a reply that is these bytes and no others, where the buffer has room for them
abbrev pub OnceBytes : List ℕ → Call → Type 0
OnceBytes bytes c = OnceRoom (length bytes) c (λ out. take (length bytes) out ≡ bytes)
