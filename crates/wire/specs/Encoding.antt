-- The bytes of records, sheets and registers, and which sheets and registers are within the limits: document 01, "What it reads
-- and gives", "Records of a sheet", "Registers"; document 02, cards 1, 2, 4 and 5. Definitions only.
use Rattle.std.specs.Prelude.{ℕ, ◌+◌, ◌-◌, ◌≤◌, ◌<◌, ◌≡◌, true, false, length, get_or}
use mathlib.Core.List.{Memᴰ, List, [], ◌∷◌, ◌++◌, flat_map}
use Rattle.wire.specs.Limits.{name_limit, claim_limit, list_limit, bound_limit, no_end, mode_limit, row_limit}
use Rattle.wire.specs.Edition.{Edition, edition_number, membership_bytes, group_limit, label_limit, row_kind}
use Rattle.wire.specs.Bytes.{le16, le32}
use Rattle.wire.specs.SheetFormat.{GroupRecord, NameRecord, list_number, ClaimRecord, count, lists, Records}
use Rattle.wire.specs.SheetFormat.{parent_allowed, label_bytes, used, all_within}
use Rattle.wire.specs.Member.{side_number, Member, precedes}
use Rattle.wire.specs.RegisterFormat.{Row, last_member, clear_above}

-- every element is a byte (past the end 0 stands)
abbrev pub Bytes : List ℕ → Type 0
Bytes b = (i : ℕ) → get_or b i 0 < 256

-- Encoding: the length of all that follows it, the kind, the body.
unfoldable pub encode_record : ℕ → List ℕ → List ℕ
encode_record kind body = le16 (length body + 2) ++ (le16 kind ++ body)

unfoldable pub encode_head : Records → List ℕ
encode_head d =
    encode_record 1 (flat_map le16 (edition_number d.edition ∷ length d.groups ∷ length d.names ∷ length d.claims ∷ []))

unfoldable pub encode_group : GroupRecord → List ℕ
encode_group g = encode_record 2 (flat_map le16 (g.parent ∷ g.lo ∷ g.hi ∷ g.mode ∷ []))

unfoldable pub encode_name : NameRecord → List ℕ
encode_name n = encode_record 3 (le16 n.group ++ n.label)

unfoldable pub encode_claim : ClaimRecord → List ℕ
encode_claim (count n lo hi) = encode_record 4 (flat_map le16 (n ∷ lo ∷ hi ∷ []))
encode_claim (lists k l r) = encode_record (list_number k) (flat_map le16 (length l ∷ length r ∷ l ++ r))

unfoldable pub encode_sheet : Records → List ℕ
encode_sheet d =
    encode_head d
    ++ (flat_map encode_group d.groups ++ (flat_map encode_name d.names ++ flat_map encode_claim d.claims))

unfoldable pub member_bytes : Member → List ℕ
member_bytes m = le32 m.number ++ le16 (side_number m.side)

unfoldable pub encode_row : Edition → Row → List ℕ
encode_row e r = encode_record (row_kind e) (member_bytes r.member ++ r.bits)

unfoldable pub encode_register : Edition → List Row → List ℕ
encode_register e rs = flat_map (encode_row e) rs

-- Each of the items ys is right after those before it, the items xs standing before them all.
pub data Each {A : Type 0} (P : List A → A → Type 0) : List A → List A → Type 0 where
  none : {xs : List A} → Each P xs []
  more : {xs ys : List A} {y : A} → P xs y → Each P (xs ++ (y ∷ [])) ys → Each P xs (y ∷ ys)

-- A group after the groups gs; a name after the names ns, of `groups` groups, in edition e; a list of a claim, and a claim, of
-- `names` names.
pub record GroupRight (gs : List GroupRecord) (g : GroupRecord) : Type 0 where
  pub parent : parent_allowed (length gs + 1) g.parent ≡ true
  pub lo : g.lo ≤ bound_limit
  pub mode : g.mode ≤ mode_limit

pub record NameRight (e : Edition) (groups : ℕ) (ns : List NameRecord) (n : NameRecord) : Type 0 where
  pub group : n.group ≤ groups
  pub first : 1 ≤ length n.label
  pub last : length n.label ≤ label_limit e
  pub bytes : label_bytes n.label ≡ true
  pub new : used ns n.label ≡ false

pub record ListRight (names : ℕ) (l : List ℕ) : Type 0 where
  pub first : 1 ≤ length l
  pub last : length l ≤ list_limit
  pub allowed : all_within names l ≡ true

abbrev pub ClaimRight : ℕ → List ClaimRecord → ClaimRecord → Type 0
ClaimRight names cs (count n lo hi) = (all_within names (n ∷ []) ≡ true) × (lo ≤ bound_limit)
ClaimRight names cs (lists k l r) = ListRight names l × ListRight names r

-- what reading ensures of any list of numbers
pub record Right (d : Records) : Type 0 where
  pub some_group : 1 ≤ length d.groups
  pub group_count : length d.groups ≤ group_limit d.edition
  pub name_count : length d.names ≤ name_limit
  pub claim_count : length d.claims ≤ claim_limit
  pub groups : Each GroupRight [] d.groups
  pub names : Each (NameRight d.edition (length d.groups)) [] d.names
  pub claims : Each (ClaimRight (length d.names)) [] d.claims

-- a sheet within the limits: upper ends are numbers up to 65,534, or 65,535 for none
pub record SheetWithin (d : Records) : Type 0 where
  pub right : Right d
  pub group_ends : Each (λ gs g. g.hi ≤ no_end) [] d.groups
  pub claim_ends : (n lo hi : ℕ) → Memᴰ (count n lo hi) d.claims → hi ≤ no_end

-- A row after the rows rs, under a sheet of edition e with `groups` groups; a member and a row whose numbers fit their fields; and
-- rows within the limits.
pub record RowRight (e : Edition) (groups : ℕ) (rs : List Row) (r : Row) : Type 0 where
  pub someone : 0 < r.member.number
  pub follows : precedes r.member (last_member rs) ≡ false
  pub width : length r.bits ≡ membership_bytes e
  pub clear : clear_above r groups (group_limit e - groups) ≡ true

pub record MemberFits (m : Member) : Type 0 where
  pub number : m.number < 4294967296

pub record RowFits (r : Row) : Type 0 where
  pub member : MemberFits r.member
  pub bytes : Bytes r.bits

pub record RowsWithin (e : Edition) (groups : ℕ) (rs : List Row) : Type 0 where
  pub row_count : length rs ≤ row_limit
  pub right : Each (RowRight e groups) [] rs
  pub fits : Each (λ before r. RowFits r) [] rs
