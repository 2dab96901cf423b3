-- A claim on two lists of groups, judged by the places of a member that answers it.
use Rattle.std.specs.Prelude.{ℕ, Bool, true, false, List}
use Rattle.wire.specs.SheetFormat.{ListKind, inside, apart, place}
use Rattle.meaning.specs.Sheet.{Sheet}
use Rattle.sizes.specs.ClaimsMath.{Way}
use Rattle.questions.specs.Witnessed.{Witnessed}
use Rattle.questions.specs.Places.{PlaceHad, PlaceShown}

-- some sets that fit have a member at a place that answers the claim
abbrev pub WayHad : Sheet → ListKind → List ℕ → List ℕ → Type 0
WayHad s b l r = (ins outs : List ℕ) × Way l r b ins outs × PlaceHad s ins outs

abbrev pub WayShown : Sheet → ListKind → List ℕ → List ℕ → List ℕ → List ℕ → Type 0
WayShown s b l r sizes marks = (ins outs : List ℕ) × Way l r b ins outs × PlaceShown s ins outs sizes marks

abbrev pub Tried : Sheet → ListKind → List ℕ → List ℕ → List ℕ → List ℕ → Bool → Type 0
Tried s b l r sizes marks x = Witnessed (WayShown s b l r sizes marks) (WayHad s b l r) x

-- kind 7 asks for a member of every left set, the other kinds for one of some left set
abbrev pub is_place : ListKind → Bool
is_place inside = false
is_place apart = false
is_place place = true
