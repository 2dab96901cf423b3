-- What loading a sheet gives: the written reading of its bytes, as the tables hold it, or the refusal.
use Rattle.std.specs.Prelude.{ℕ, ◌<◌, ◌+◌, ◌≤◌, ◌-◌, ◌≡◌, List, [], get_or, drop, length, Option, None, Result, Ok, Err, MatchResult}
use Rattle.tables.specs.declared.groups.Group.{Group}
use Rattle.tables.specs.declared.groups.GroupNo.{GroupNo}
use Rattle.claim_records.specs.declared.claim.Claim.{Claim}
use Rattle.records.specs.declared.record.Head.{Head}
use Rattle.records.specs.declared.record.Record.{Record}
use Rattle.wire.specs.declared.refusals.Refusal.{Refusal}
use Rattle.wire.specs.declared.refusals.Fault.{Fault}
use Rattle.reading.specs.declared.sheet_tables.Tables.{Tables}
use Rattle.wire.specs.Limits.{name_limit, claim_limit}
use Rattle.wire.specs.Edition.{Edition}
use Rattle.wire.specs.Capacity.{group_capacity}
use Rattle.wire.specs.Record.{Reading, read, refused, Test}
use Rattle.wire.specs.Refusals.{reading_of}
use Rattle.wire.specs.SheetFormat.{HeadRecord, name_of, Records, read_many, name_tests, claim_of, claim_tests, read_groups, read_sheet}
use Rattle.meaning.specs.OfRecords.{name_group}
use Rattle.tables.specs.Groups.{groups_in}
use Rattle.tables.specs.Names.{Means}
use Rattle.tables.specs.RecordsIn.{records_in}
use Rattle.labels.specs.WholeName.{AllWhole}
use Rattle.claim_records.specs.ClaimHeld.{ClaimHeld}
use Rattle.claim_records.specs.ClaimTable.{claim_in, claims_in}
use Rattle.records.specs.Answers.{head_record}

-- r is the answer on the record numbered k as an answer on the sheet
pub record Numbered (answer : Result Record Refusal) (k : ℕ) (r : Result Record Fault) : Type 0 where
  pub says : MatchResult answer (λ x. r ≡ Ok x) (λ e. r ≡ Err (record { refusal = e; place = k }))

-- reading goes on with the value, or stops at the refusal
unfoldable pub goes_on : {A B : Type 0} → Reading A → (A → Reading B) → Reading B
goes_on (read a) next = next a
goes_on (refused n r) next = refused n r

-- what holds of the value, where there is one
abbrev pub Then : {A : Type 0} → Reading A → (A → Type 0) → Type 0
Then {A} x P = (a : A) → x ≡ read a → P a

-- the offset after some records, or a refusal's number with the record's number
unfoldable pub passed_as : Result ℕ Fault → Reading ℕ
passed_as r = reading_of (λ at. at) r

-- the head of a sheet whose records are in the tables, or a refusal's number with the record's number
unfoldable pub loaded_as : Result Head Fault → Reading HeadRecord
loaded_as r = reading_of head_record r

-- the table of names has what each of the first n names means
abbrev pub AllGrouped : List ℕ → List (Option GroupNo) → List ℕ → ℕ → Type 0
AllGrouped s names labels n = (i : ℕ) → i < n → Means (name_of (drop (get_or labels i 0) s)).group (get_or names i None)

-- what holds of each of the first n claims of a sheet of `names` names
abbrev pub AllHeld : List ℕ → ℕ → List Claim → ℕ → Type 0
AllHeld s names claims n = (k : ℕ) → k < n → ClaimHeld s names (claim_in claims k)

-- `count` records of one sort from the offset `from` on, the first of them numbered `first`, are the list xs, and reading
-- goes on after them; or one is refused
pub record Goes {A : Type 0} (tests : List A → List ℕ → List Test) (value : List ℕ → A) (s : List ℕ) (from count first : ℕ)
    (r : Result ℕ Fault) (xs : List A) : Type 0 where
  pub goes : (rest : ℕ → List A → List ℕ → Reading Records) →
      goes_on (passed_as r) (λ at. rest (first + count) xs (drop at s)) ≡ read_many tests value rest count first [] (drop from s)
  pub room : Then (passed_as r) (λ at. at ≤ length s)

-- the names: what they mean and their offsets are in the tables
pub record NamesGo (e : Edition) (groups : ℕ) (s : List ℕ) (from count : ℕ) (r : Result ℕ Fault) (names : List (Option GroupNo)) (labels : List ℕ)
    : Type 0 where
  pub reads : Goes (name_tests e groups) name_of s from count (2 + groups) r (records_in name_of s labels count)
  pub grouped : Then (passed_as r) (λ at. AllGrouped s names labels count)
  pub whole : Then (passed_as r) (λ at. AllWhole s labels count)

-- the claims: they are in the table
pub record ClaimsGo (names first : ℕ) (s : List ℕ) (from count : ℕ) (r : Result ℕ Fault) (claims : List Claim) : Type 0 where
  pub reads : Goes (claim_tests names) claim_of s from count first r (claims_in s claims count)
  pub held : Then (passed_as r) (λ at. AllHeld s names claims count)

-- the tables have room for the largest sheet
pub record Capacity (groups : List Group) (names : List (Option GroupNo)) (labels : List ℕ) (claims : List Claim) : Type 0 where
  pub group_room : group_capacity ≤ length groups
  pub name_room : name_limit ≤ length names
  pub label_room : name_limit ≤ length labels
  pub claim_room : claim_limit ≤ length claims

-- the counts of a head are those of a sheet
pub record HeadLimits (h : HeadRecord) : Type 0 where
  pub some_group : 1 ≤ h.groups
  pub few_groups : h.groups ≤ group_capacity
  pub few_names : h.names ≤ name_limit
  pub few_claims : h.claims ≤ claim_limit

-- the head of a sheet, from which reading goes on after it, or its refusal
pub record HeadLoads (r : Result Head Fault) (s : List ℕ) : Type 0 where
  pub reads : goes_on (loaded_as r) (λ h. read_groups h (drop 12 s)) ≡ read_sheet s
  pub limits : Then (loaded_as r) (λ h. (12 ≤ length s) × HeadLimits h)

-- the records that the tables hold, as many as the head says
abbrev pub records_of : HeadRecord → List ℕ → Tables → Records
records_of h s t = record {
  edition = h.edition;
  groups = groups_in t.groups h.groups;
  names = records_in name_of s t.labels h.names;
  claims = claims_in s t.claims h.claims;
}

-- what holds of the tables of a sheet that was read: the table of names has what each name means
pub record Held (h : HeadRecord) (s : List ℕ) (t : Tables) : Type 0 where
  pub limits : HeadLimits h
  pub room : h.groups ≤ length t.groups
  pub named : (n : ℕ) → 1 ≤ n → n ≤ h.names → Means (name_group (records_in name_of s t.labels h.names) n) (get_or t.names (n - 1) None)
  pub whole : AllWhole s t.labels h.names
  pub claimed : AllHeld s h.names t.claims h.claims

-- the contract of loading: what the tables hold is the reading `whole`
pub record Loads (r : Result Head Fault) (whole : Reading Records) (s : List ℕ) (t : Tables) : Type 0 where
  pub reads : goes_on (loaded_as r) (λ h. read (records_of h s t)) ≡ whole
  pub held : Then (loaded_as r) (λ h. Held h s t)

-- the contract of loading the groups alone: some tables of names and claims go with them
pub record LoadsTree (r : Result Head Fault) (whole : Reading Records) (s : List ℕ) (groups : List Group) : Type 0 where
  pub names : List (Option GroupNo)
  pub labels : List ℕ
  pub claims : List Claim
  pub loads : Loads r whole s (record { groups = groups; names = names; labels = labels; claims = claims })
