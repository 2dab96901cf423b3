-- Laws of the kinds of claims on two lists: a kind, its case and its number.
use Prim.Native.Nat.{ℕ, ◌≤◌}
use mathlib.Core.Path.{◌≡◌, refl}
use mathlib.Core.Bool.{false}
use lib.Dec.{eqb}
use Rattle.claim_records.specs.declared.claim.ListKind.{ListKind as ListKindRead}
use Rattle.claim_records.specs.declared.claim.ListKind.TheVariants.{Inside, Apart, Place}
use Rattle.wire.specs.SheetFormat.{list_number, list_kind_of, ListKind, inside, apart, place, last_claim}
use Rattle.wire.proofs.Sorts.{list_number_law}
use Rattle.claim_records.specs.ClaimHeld.{list_as, list_read}

pub list_back : (k : ListKindRead) → list_read (list_kind_of (list_number (list_as k))) ≡ k
unfolding list_number list_kind_of
list_back Inside = refl
list_back Apart = refl
list_back Place = refl

pub list_not_count : (k : ListKindRead) → eqb (list_number (list_as k)) 4 ≡ false
unfolding list_number
list_not_count Inside = refl
list_not_count Apart = refl
list_not_count Place = refl

list_as_law : (k : ListKind) → list_as (list_read k) ≡ k
list_as_law inside = refl
list_as_law apart = refl
list_as_law place = refl

-- the kind that is read from a number has this number
pub list_read_law : (n : ℕ) → 5 ≤ n → n ≤ last_claim → n ≡ list_number (list_as (list_read (list_kind_of n)))
list_read_law n five last = rw (list_as_law (list_kind_of n)) (list_number_law n five last)
