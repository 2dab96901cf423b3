-- A claim that was read, its names replaced by what the table of names has for them.
use Rattle.std.specs.Prelude.{ℕ, ◌≤◌, ◌+◌, ◌-◌, ◌*◌, ◌<◌, List, Option, None, get_or, map, length}
use Rattle.tables.specs.declared.groups.GroupNo.{GroupNo}
use Rattle.claim_records.specs.declared.claim.Claim.{Claim as ClaimRead}
use Rattle.claim_records.specs.declared.claim.Lists.{Lists}
use Rattle.wire.specs.Limits.{no_end}
use Rattle.wire.specs.Bytes.{u16_at}
use Rattle.wire.specs.SheetFormat.{ClaimRecord, count, lists}
use Rattle.meaning.specs.Sheet.{end_of}
use Rattle.meaning.specs.Claim.{counted}
use Rattle.meaning.specs.Place.{Question, all_say, lists_ask}
use Rattle.tables.specs.Names.{meant_number, Numbered}
use Rattle.claim_records.specs.ClaimHeld.{ClaimHeld, ListsHeld}

-- the number of the group that the name numbered n means, 0 for the empty set, by the table of names
abbrev pub meant_in : List (Option GroupNo) → ℕ → ℕ
meant_in names n = meant_number (get_or names (n - 1) None)

-- what the names on a list mean
abbrev pub meanings : List (Option GroupNo) → List ℕ → List ℕ
meanings names l = map (meant_in names) l

-- what a claim record asks
unfoldable pub claim_meant : List (Option GroupNo) → ClaimRecord → Question
claim_meant names (count n lo hi) = all_say (counted (meant_in names n) lo (end_of no_end hi))
claim_meant names (lists k l r) = lists_ask k (meanings names l) (meanings names r)

-- held of a sheet with `count` names, for which the table of names has groups of the sheet, or none
pub record AskableBy (Held : ℕ → Type 0) (names : List (Option GroupNo)) (size : ℕ) : Type 0 where
  pub count : ℕ
  pub held : Held count
  pub long : count ≤ length names
  pub numbered : (n : ℕ) → 1 ≤ n → n ≤ count → Numbered (get_or names (n - 1) None)
  pub known : (n : ℕ) → 1 ≤ n → n ≤ count → meant_in names n ≤ size

-- a claim of such a sheet, and the two lists of one
abbrev pub Askable : List ℕ → ClaimRead → List (Option GroupNo) → ℕ → Type 0
Askable sheet c names size = AskableBy (λ n. ClaimHeld sheet n c) names size

abbrev pub AskableLists : List ℕ → Lists → List (Option GroupNo) → ℕ → Type 0
AskableLists sheet l names size = AskableBy (λ n. ListsHeld sheet n l) names size

-- n name numbers stand at the offset of the sheet, and the table has what each means
pub record NamesAt (sheet : List ℕ) (from n : ℕ) (names : List (Option GroupNo)) : Type 0 where
  pub long : from + 2 * n ≤ length sheet
  pub name : (j : ℕ) → j < n → (1 ≤ u16_at sheet (from + 2 * j)) × (u16_at sheet (from + 2 * j) ≤ length names)
  pub numbered : (j : ℕ) → j < n → Numbered (get_or names (u16_at sheet (from + 2 * j) - 1) None)
