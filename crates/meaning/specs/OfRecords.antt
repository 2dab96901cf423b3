-- What records mean: the sheet of its group records, the question of a claim record, the sets that a register lists.
-- Document 01, "Records of a sheet", "Meaning" and "Registers"; document 02, cards 1, 2 and 4.
use Rattle.std.specs.Prelude.{ℕ, ◌-◌, Bool, false, cond, ◌&&◌, ◌||◌, List, [], ◌∷◌, map, length, get_or, eqb}
use Rattle.laws.specs.Digit.{digit}
use Rattle.wire.specs.Limits.{no_end}
use Rattle.wire.specs.SheetFormat.{GroupRecord, NameRecord, ClaimRecord, count, lists, Records}
use Rattle.wire.specs.Member.{Member, one_member, no_member}
use Rattle.wire.specs.RegisterFormat.{Row, in_group}
use Rattle.meaning.specs.Sheet.{Sheet, end_of}
use Rattle.meaning.specs.Sets.{Sets}
use Rattle.meaning.specs.Claim.{counted}
use Rattle.meaning.specs.Place.{Question, all_say, lists_ask}

-- the record of group g, the groups being numbered from 1
abbrev pub group_at : List GroupRecord → ℕ → GroupRecord
group_at gs g = get_or gs (g - 1) (record { parent = 0; lo = 0; hi = 0; mode = 0 })

-- "hi is 0 to 65,534, or 65,535 for no upper end"; "Mode is a sum of 1 (disjoint), 2 (cover), 4 (same)"
abbrev pub sheet_of : List GroupRecord → Sheet
sheet_of gs = record {
  size = length gs;
  parent = λ g. (group_at gs g).parent;
  lo = λ g. (group_at gs g).lo;
  hi = λ g. end_of no_end (group_at gs g).hi;
  disjoint = λ g. eqb (digit (group_at gs g).mode 0) 1;
  cover = λ g. eqb (digit (group_at gs g).mode 1) 1;
  same = λ g. eqb (digit (group_at gs g).mode 2) 1;
}

-- the group that name n means, 0 for the empty set; names are numbered from 1
abbrev pub name_group : List NameRecord → ℕ → ℕ
name_group ns n = (get_or ns (n - 1) (record { group = 0; label = [] })).group

-- what a claim record asks, its names replaced by what they mean
unfoldable pub claimed : List NameRecord → ClaimRecord → Question
claimed ns (count n lo hi) = all_say (counted (name_group ns n) lo (end_of no_end hi))
claimed ns (lists k l r) = lists_ask k (map (name_group ns) l) (map (name_group ns) r)

-- what claim k of a sheet asks, the claims being numbered from 1
abbrev pub claim_at : Records → ℕ → Question
claim_at d k = claimed d.names (get_or d.claims (k - 1) (count 0 0 0))

-- "equal pairs join", in neighbouring rows: a row is passed over where the next one names its member
unfoldable pub members : List Row → List Member
members [] = []
members (r ∷ []) = r.member ∷ []
members (r ∷ (q ∷ rs)) = cond (one_member r.member q.member) (members (q ∷ rs)) (r.member ∷ members (q ∷ rs))

-- some row of the member has the group's bit
unfoldable pub listed : List Row → ℕ → Member → Bool
listed [] g x = false
listed (r ∷ rs) g x = one_member r.member x && in_group r g || listed rs g x

-- the sets that a register lists: each member once, "in the groups of either row"
abbrev pub listed_sets : List Row → Sets Member
listed_sets rs = record { bound = length (members rs); who = λ i. get_or (members rs) i no_member; has = listed rs }
