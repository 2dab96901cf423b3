-- A sheet is read in stages, groups, names, claims and the end: each goes on from where the one before stopped, or is refused.
use Prim.Native.Nat.{ℕ, ◌+◌, ◌-◌, ◌≤◌, ◌<◌}
use mathlib.Core.Path.{◌≡◌, refl, sym, ◌∙◌, ap}
use mathlib.Core.List.{List}
use native.Mathlib.Omega.{arith}
use borrow.Author.Tests.{eq-eqb, ne_eqb}
use lib.ListN.{drop, length, length-drop, get_or}
use Rattle.std.specs.Prelude.{Result, Ok, Err, Option, None}
use Rattle.wire.specs.declared.refusals.Refusal.{Refusal}
use Rattle.wire.specs.declared.refusals.Fault.{Fault}
use Rattle.wire.specs.Refusals.{refusal_number}
use Rattle.tables.specs.declared.groups.GroupNo.{GroupNo}
use Rattle.claim_records.specs.declared.claim.Claim.{Claim}
use Rattle.reading.specs.declared.sheet_tables.Tables.{Tables}
use Rattle.tables.specs.Names.{Means}
use Rattle.records.proofs.Fields.{refusal_nonzero}
use Rattle.records.specs.declared.record.Head.{Head}
use Rattle.records.specs.declared.record.Record.{Record}
use Rattle.wire.specs.Edition.{Edition, edition_of}
use Rattle.wire.specs.Bytes.{u16_at}
use Rattle.wire.specs.Record.{refusal, read, refused, onward, Reading, after}
use Rattle.wire.specs.SheetFormat.{HeadRecord, GroupRecord, group_of, group_tests, read_names, read_groups, name_of, read_claims, NameRecord, closing}
use Rattle.wire.specs.SheetFormat.{ClaimRecord, Records, head_tests, read_sheet, head_of}
use Rattle.wire.proofs.EditionFacts.{groups_within}
use Rattle.wire.proofs.Passing.{never_read, passed}
use Rattle.wire.proofs.Sorts.{HeadRight, head_nonzero, head_right}
use Rattle.meaning.specs.OfRecords.{name_group}
use Rattle.tables.specs.RecordsIn.{records_in}
use Rattle.tables.proofs.RecordsInLaws.{get_d_records_in}
use Rattle.claim_records.specs.ClaimTable.{claims_in}
use Rattle.records.specs.Answers.{head_record, head}
use Rattle.records.proofs.Carried.{Handed, head_same}
use Rattle.reading.specs.Loaded.{goes_on, passed_as, Goes, NamesGo, ClaimsGo, loaded_as, Loads, AllGrouped, HeadLimits, HeadLoads}
use Rattle.records.specs.declared.record.Record.TheVariants as record_of

pub group_stage : (h : HeadRecord) (s : List ℕ) (from : ℕ) (p : Result ℕ Fault) (gs : List GroupRecord) →
    Goes group_tests group_of s from h.groups 2 p gs →
    goes_on (passed_as p) (λ at. read_names h (2 + h.groups) gs (drop at s)) ≡ read_groups h (drop from s)
unfolding read_groups
group_stage h s from p gs g = g.goes (read_names h)

pub name_stage : (h : HeadRecord) (s : List ℕ) (from : ℕ) (p : Result ℕ Fault) (gs : List GroupRecord) (names : List (Option GroupNo))
    (labels : List ℕ) →
    NamesGo h.edition h.groups s from h.names p names labels →
    goes_on (passed_as p) (λ at. read_claims h gs (2 + h.groups + h.names) (records_in name_of s labels h.names) (drop at s))
    ≡ read_names h (2 + h.groups) gs (drop from s)
unfolding read_names
name_stage h s from p gs names labels g = g.reads.goes (read_claims h gs)

pub claim_stage : (h : HeadRecord) (s : List ℕ) (from first : ℕ) (p : Result ℕ Fault) (gs : List GroupRecord)
    (ns : List NameRecord) (claims : List Claim) →
    ClaimsGo h.names first s from h.claims p claims →
    goes_on (passed_as p) (λ at. closing h.edition gs ns (first + h.claims) (claims_in s claims h.claims) (drop at s))
    ≡ read_claims h gs first ns (drop from s)
unfolding read_claims
claim_stage h s from first p gs ns claims g = g.reads.goes (closing h.edition gs ns)

-- the end: 7 where bytes follow
module _ (v : Edition) (gs : List GroupRecord) (ns : List NameRecord) (r : ℕ) (cs : List ClaimRecord) (s : List ℕ) (at : ℕ) where
  pub bytes_follow : at < length s → closing v gs ns r cs (drop at s) ≡ refused 7 r
  unfolding closing refusal onward
  bytes_follow l = rw (length-drop at s, ne_eqb (length s - at) 0 (omega arith))

  pub at_end : length s ≤ at → closing v gs ns r cs (drop at s) ≡ read (record { edition = v; groups = gs; names = ns; claims = cs })
  unfolding closing refusal onward
  at_end l = rw (length-drop at s, eq-eqb (length s - at) 0 (omega arith))

-- what goes on from a place
pub went_on : {p : Result ℕ Fault} {at : ℕ} → p ≡ Ok at → passed_as p ≡ read at
unfolding passed_as
went_on e = rw e

pub went : {p : Result ℕ Fault} {at : ℕ} (next : ℕ → Reading Records) {whole : Reading Records} → p ≡ Ok at →
    goes_on (passed_as p) next ≡ whole → next at ≡ whole
unfolding goes_on passed_as
went next e q = rw e at q

-- a refusal of a stage is the sheet's
pub turned_loads : {p : Result ℕ Fault} {f : Fault} (next : ℕ → Reading Records) {whole : Reading Records} {s : List ℕ} {t : Tables} →
    p ≡ Err f → goes_on (passed_as p) next ≡ whole → Loads (Err f) whole s t
unfolding goes_on passed_as loaded_as
turned_loads next e q = record { reads = rw e at q; held = λ h g. never_read g }

-- what the head meets is the sheet's, and after it reading goes on
pub head_turned : {f : Fault} {s : List ℕ} {t : Tables} → HeadLoads (Err f) s → Loads (Err f) (read_sheet s) s t
unfolding goes_on loaded_as
head_turned w = record { reads = w.reads; held = λ h g. never_read g }

module _ {h : Head} {s : List ℕ} (w : HeadLoads (Ok h) s) where
  pub head_read : (12 ≤ length s) × HeadLimits (head_record h)
  unfolding loaded_as
  head_read = w.limits _ refl

  pub head_loads : {r : Result Head Fault} {t : Tables} → Loads r (read_groups (head_record h) (drop 12 s)) s t → Loads r (read_sheet s) s t
  unfolding goes_on loaded_as
  head_loads l = record { reads = l.reads ∙ w.reads; held = l.held }

-- the table of names has what each name means
pub names_grouped : (s : List ℕ) (names : List (Option GroupNo)) (labels : List ℕ) (count : ℕ) → AllGrouped s names labels count →
    (n : ℕ) → 1 ≤ n → n ≤ count → Means (name_group (records_in name_of s labels count) n) (get_or names (n - 1) None)
names_grouped s names labels count g n a b =
    let w = g (n - 1) (omega arith) in
    record {
      number = w.number ∙ sym (ap (λ r. r.group) (get_d_records_in name_of s labels count (n - 1) _ (omega arith)));
      numbered = w.numbered;
    }

-- the head
pub head_refused : (s : List ℕ) (e : Refusal) → refusal (head_tests s) ≡ refusal_number e → refused (refusal_number e) 1 ≡ read_sheet s
unfolding read_sheet onward
head_refused s e h = rw (h, ne_eqb _ _ (refusal_nonzero e))

module _ {s : List ℕ} {x : Record} {h : Head} (w : Handed head_tests (λ b. head (head_of b)) s 0 x) (e : x ≡ record_of.Head h) where
  right : HeadRight s
  right = head_right s (passed _ (head_nonzero s) w.pass)

  pub head_limits : (12 ≤ length s) × HeadLimits (head_record h)
  unfolding head_of
  head_limits = let r = right in (
    omega arith,
    rw (head_same w e) (record {
      some_group = omega arith;
      few_groups = omega (arith, groups_within (edition_of (u16_at s 4)));
      few_names = omega arith;
      few_claims = omega arith;
    }),
  )

  pub head_goes : read_groups (head_record h) (drop 12 s) ≡ read_sheet s
  unfolding read_sheet onward after
  head_goes = rw (head_same w e, w.pass, right.size)
