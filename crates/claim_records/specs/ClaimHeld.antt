-- What a claim that the reader hands up stands for: document 01, "Claims", and document 02, card 1, its kind and what its
-- record carries.
use Rattle.std.specs.Prelude.{ℕ, ◌+◌, ◌*◌, ◌≤◌, ◌<◌, List, length}
use Rattle.claim_records.specs.declared.claim.ListKind.{ListKind as ListKindRead}
use Rattle.claim_records.specs.declared.claim.Lists.{Lists}
use Rattle.claim_records.specs.declared.claim.Claim.{Claim}
use Rattle.wire.specs.Limits.{list_limit}
use Rattle.wire.specs.Bytes.{u16_at}
use Rattle.wire.specs.SheetFormat.{ListKind, inside, apart, place, list_number, u16s, ClaimRecord, count, lists}
use Rattle.claim_records.specs.declared.claim.ListKind.TheVariants as kind
use Rattle.claim_records.specs.declared.claim.Claim.TheVariants as claim

-- the format's kind of each case, and the case of each kind
abbrev pub list_as : ListKindRead → ListKind
list_as kind.Inside = inside
list_as kind.Apart = apart
list_as kind.Place = place

abbrev pub list_read : ListKind → ListKindRead
list_read inside = kind.Inside
list_read apart = kind.Apart
list_read place = kind.Place

-- document 01's kind of each case
abbrev pub claim_kind : Claim → ℕ
claim_kind (claim.Count c) = 4
claim_kind (claim.Lists l) = list_number (list_as l.kind)

-- the left and the right names, which stand in the sheet's bytes s
abbrev pub left_names : List ℕ → Lists → List ℕ
left_names s l = u16s s l.at l.m

abbrev pub right_names : List ℕ → Lists → List ℕ
right_names s l = u16s s (l.at + 2 * l.m) l.n

-- the values of each case
abbrev pub claim_record : List ℕ → Claim → ClaimRecord
claim_record s (claim.Count c) = count c.name.0 c.lo c.hi
claim_record s (claim.Lists l) = lists (list_as l.kind) (left_names s l) (right_names s l)

-- two lists of names of a sheet with `names` names, each number from 1 to `names`
pub record ListsHeld (s : List ℕ) (names : ℕ) (l : Lists) : Type 0 where
  pub long : l.at + 2 * (l.m + l.n) ≤ length s
  pub some_left : 1 ≤ l.m
  pub few_left : l.m ≤ list_limit
  pub some_right : 1 ≤ l.n
  pub few_right : l.n ≤ list_limit
  pub left : (j : ℕ) → j < l.m → (1 ≤ u16_at s (l.at + 2 * j)) × (u16_at s (l.at + 2 * j) ≤ names)
  pub right : (j : ℕ) → j < l.n → (1 ≤ u16_at s (l.at + 2 * l.m + 2 * j)) × (u16_at s (l.at + 2 * l.m + 2 * j) ≤ names)

-- a claim of a sheet with `names` names
abbrev pub ClaimHeld : List ℕ → ℕ → Claim → Type 0
ClaimHeld s names (claim.Count c) = (1 ≤ c.name.0) × (c.name.0 ≤ names)
ClaimHeld s names (claim.Lists l) = ListsHeld s names l
