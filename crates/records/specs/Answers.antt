-- What the reader of one record answers. Document 01: "a record with what it carries, or a refusal with its number".
use Rattle.std.specs.Prelude.{ℕ, ◌+◌, ◌≡◌, Bool, ◌&&◌, List, [], ◌∷◌, get_or, drop, leb, Result, Ok, Err, IfOk}
use Rattle.records.specs.declared.record.Head.{Head}
use Rattle.records.specs.declared.record.Name.{Name}
use Rattle.claim_records.specs.declared.claim.Claim.{Claim}
use Rattle.records.specs.declared.record.Record.{Record}
use Rattle.wire.specs.declared.refusals.Refusal.{Refusal}
use Rattle.laws.specs.Tabulate.{tabulate}
use Rattle.wire.specs.Edition.{Edition, edition_of}
use Rattle.wire.specs.Record.{Reading, read, refused, kind_of, Test, test, refusal, onward, framed}
use Rattle.wire.specs.Refusals.{refusal_number, number_met}
use Rattle.wire.specs.SheetFormat.{HeadRecord, GroupRecord, NameRecord, ClaimRecord, name_tests, name_of, claim_tests, claim_of}
use Rattle.tables.specs.Groups.{group_record}
use Rattle.tables.specs.Names.{meant_number, Numbered}
use Rattle.claim_records.specs.Body.{Whole}
use Rattle.claim_records.specs.ClaimHeld.{claim_kind, claim_record, ClaimHeld}
use Rattle.records.specs.declared.record.Record.TheVariants as record_of

-- what records carry
pub data Value : Type 0 where
  head : HeadRecord → Value
  group : GroupRecord → Value
  name : NameRecord → Value
  claim : ClaimRecord → Value

abbrev pub head_record : Head → HeadRecord
head_record h = record { edition = edition_of h.edition; groups = h.groups; names = h.names; claims = h.claims }

-- the n bytes from an offset on
unfoldable pub bytes_from : List ℕ → ℕ → ℕ → List ℕ
bytes_from s at n = tabulate (λ i. get_or s (at + i) 0) n

-- document 01's kind of each record and what it carries; the record stands at an offset of the bytes s, and a name's label with it
unfoldable pub record_as : List ℕ → ℕ → Record → ℕ × Value
record_as s at (record_of.Head h) = (1, head (head_record h))
record_as s at (record_of.Group g) = (2, group (group_record g))
record_as s at (record_of.Name n) = (3, name (record { group = meant_number n.means; label = bytes_from s (at + 6) n.bytes }))
record_as s at (record_of.Claim c) = (claim_kind c, claim (claim_record s c))

-- an answer on the record numbered k: that record, or the refusal's number with k
unfoldable pub answer_as : List ℕ → ℕ → ℕ → Result Record Refusal → Reading (ℕ × Value)
answer_as s at k (Ok x) = read (record_as s at x)
answer_as s at k (Err e) = refused (refusal_number e) k

-- r is what the format gives for the record at an offset: the first test that fails, or its kind and its value
pub record AnswerOf (tests : List ℕ → List Test) (value : List ℕ → Value) (s : List ℕ) (at : ℕ) (r : Result Record Refusal) : Type 0 where
  pub says : (k : ℕ) → answer_as s at k r ≡ onward (refusal (tests (drop at s))) k (read (kind_of (drop at s), value (drop at s)))

-- a kind from `first` to `last`
abbrev pub kind_in : ℕ → ℕ → List ℕ → Bool
kind_in first last b = leb first (kind_of b) && leb (kind_of b) last

-- the tests of a record's frame, and of its kind, which is to be from `first` to `last`
abbrev pub frame_tests : ℕ → ℕ → List ℕ → List Test
frame_tests first last b = test 1 (framed b) ∷ test 2 (kind_in first last b) ∷ []

-- r is the length of the record at an offset, which ends within the bytes, or the first of these tests that fails
pub record FrameAt (s : List ℕ) (at first last : ℕ) (r : Result ℕ Refusal) : Type 0 where
  pub met : number_met r ≡ refusal (frame_tests first last (drop at s))
  pub whole : IfOk r (λ len. Whole s at len)

-- r answers on the name at an offset, in a sheet of edition e with `groups` groups, its label's use before set apart
pub record NameAnswer (e : Edition) (groups : ℕ) (s : List ℕ) (at : ℕ) (r : Result Record Refusal) : Type 0 where
  pub answers : AnswerOf (name_tests e groups []) (λ b. name (name_of b)) s at r
  pub numbered : (n : Name) → r ≡ Ok (record_of.Name n) → Numbered n.means

-- r answers on the claim at an offset, in a sheet of `names` names
pub record ClaimAnswer (names : ℕ) (s : List ℕ) (at : ℕ) (r : Result Record Refusal) : Type 0 where
  pub answers : AnswerOf (claim_tests names []) (λ b. claim (claim_of b)) s at r
  pub held : (c : Claim) → r ≡ Ok (record_of.Claim c) → ClaimHeld s names c
