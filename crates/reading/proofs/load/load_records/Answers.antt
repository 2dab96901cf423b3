-- The stages one after another, each from where the one before stopped.
use Rattle.std.proofs.Common.{◌≡◌, ◌+◌, ℕ, List, drop, Result, Ok, Option, sym, ◌∙◌, arith}
use Rattle.std.proofs.lemmas.Result.{err_from_is_err_and}
use Rattle.tables.specs.declared.groups.GroupNo.{GroupNo}
use Rattle.claim_records.specs.declared.claim.Claim.{Claim}
use Rattle.wire.specs.declared.refusals.Fault.{Fault}
use Rattle.reading.specs.declared.sheet_tables.Tables.{Tables}
use Rattle.wire.specs.SheetFormat.{HeadRecord, GroupRecord, NameRecord, group_tests, group_of}
use Rattle.wire.specs.SheetFormat.{name_of, closing, read_claims, read_names, read_groups}
use Rattle.claim_records.specs.ClaimTable.{claims_in}
use Rattle.records.specs.Answers.{head_record}
use Rattle.tables.specs.RecordsIn.{records_in}
use Rattle.reading.specs.Loaded.{goes_on, loaded_as, Goes, NamesGo, ClaimsGo}
use Rattle.wire.proofs.Passing.{never_read}
use Rattle.reading.proofs.Stages.{group_stage, name_stage, claim_stage, bytes_follow, at_end, went_on, went, turned_loads}
use Rattle.reading.proofs.Stages.{names_grouped}
use Rattle.reading.proofs.load.load_records.Goals as goal

-- what is left after each stage that went on: the names come after the groups, the claims after the names, then the end
module _ (h : HeadRecord) (s : List ℕ) (gs : List GroupRecord) {p : Result ℕ Fault} {at : ℕ} where
  to_names : p ≡ Ok at → Goes group_tests group_of s 12 h.groups 2 p gs →
      read_names h (2 + h.groups) gs (drop at s) ≡ read_groups h (drop 12 s)
  to_names e g = went (λ at. read_names h (2 + h.groups) gs (drop at s)) e (group_stage h s 12 p gs g)

  to_claims : (from : ℕ) (names : List (Option GroupNo)) (labels : List ℕ) → p ≡ Ok at → NamesGo h.edition h.groups s from h.names p names labels →
      read_names h (2 + h.groups) gs (drop from s) ≡ read_groups h (drop 12 s) →
      read_claims h gs (2 + h.groups + h.names) (records_in name_of s labels h.names) (drop at s) ≡ read_groups h (drop 12 s)
  to_claims from names labels e g w =
      went (λ at. read_claims h gs (2 + h.groups + h.names) (records_in name_of s labels h.names) (drop at s)) e
      (name_stage h s from p gs names labels g ∙ w)

  to_end : (from first : ℕ) (ns : List NameRecord) (claims : List Claim) → p ≡ Ok at →
      ClaimsGo h.names first s from h.claims p claims → read_claims h gs first ns (drop from s) ≡ read_groups h (drop 12 s) →
      closing h.edition gs ns (first + h.claims) (claims_in s claims h.claims) (drop at s) ≡ read_groups h (drop 12 s)
  to_end from first ns claims e g w =
      went (λ at. closing h.edition gs ns (first + h.claims) (claims_in s claims h.claims) (drop at s)) e
      (claim_stage h s from first p gs ns claims g ∙ w)

pub returns-in_err-at_names : goal.returns-in_err-at_names
returns-in_err-at_names c =
    let a = c.args in
    let t : Tables = record { groups = c.load_groups.new.groups; names = a.names.now; labels = a.labels.now; claims = a.claims.now } in
    let p = err_from_is_err_and c.from_residual.result c.from_residual.ensures.1 in
    rw (p.1, p.2) (turned_loads _ {t = t} c.in_err-at_names.was (group_stage (head_record c.args.head) c.args.s.now 12 _ _ c.load_groups.ensures))

pub load_names-requires : goal.load_names-requires
load_names-requires c = (c.load_groups.ensures.room _ (went_on c.in_ok-at_names.was), omega arith)

pub returns-in_err-at_claims : goal.returns-in_err-at_claims
returns-in_err-at_claims c =
    let h = head_record c.args.head in
    let s = c.args.s.now in
    let r = c.from_residual-in_err-at_claims in
    let t : Tables = record {
      groups = c.load_groups.new.groups;
      names = c.load_names.new.names;
      labels = c.load_names.new.labels;
      claims = c.args.claims.now;
    } in
    let p = err_from_is_err_and r.result r.ensures.1 in
    rw (p.1, p.2) (turned_loads _ {t = t} c.in_err-at_claims.was
    (name_stage h s _ _ _ _ _ c.load_names.ensures ∙ to_names h s _ c.in_ok-at_names.was c.load_groups.ensures))

pub load_claims-requires : goal.load_claims-requires
load_claims-requires c = (c.load_names.ensures.reads.room _ (went_on c.in_ok-at_claims.was), (omega arith, omega arith))

pub returns-in_err-end : goal.returns-in_err-end
returns-in_err-end c =
    let h = head_record c.args.head in
    let s = c.args.s.now in
    let r = c.from_residual-in_err-end in
    let p = err_from_is_err_and r.result r.ensures.1 in
    rw (p.1, p.2) (turned_loads _ c.in_err-end.was
    (claim_stage h s _ _ _ _ _ _ c.load_claims.ensures
    ∙ to_claims h s _ _ _ _ c.in_ok-at_claims.was c.load_names.ensures (to_names h s _ c.in_ok-at_names.was c.load_groups.ensures)))

pub returns-then-end-s : goal.returns-then-end-s
unfolding goes_on loaded_as
returns-then-end-s c =
    let h = head_record c.args.head in
    let s = c.args.s.now in
    rw c.at.ensures (record {
      reads = sym (bytes_follow _ _ _ _ _ _ _ c.if-end-s.true)
          ∙ to_end h s _ _ _ _ _ c.in_ok-end.was c.load_claims.ensures
          (to_claims h s _ _ _ _ c.in_ok-at_claims.was c.load_names.ensures (to_names h s _ c.in_ok-at_names.was c.load_groups.ensures));
      held = λ h e. never_read e;
    })

pub returns : goal.returns
unfolding goes_on loaded_as
returns c =
    let h = head_record c.args.head in
    let s = c.args.s.now in
    record {
      reads = sym (at_end _ _ _ _ _ _ _ c.if-end-s.false)
          ∙ to_end h s _ _ _ _ _ c.in_ok-end.was c.load_claims.ensures
          (to_claims h s _ _ _ _ c.in_ok-at_claims.was c.load_names.ensures (to_names h s _ c.in_ok-at_names.was c.load_groups.ensures));
      held = λ k e. let z : h ≡ k = cc in rw (← z) (record {
        limits = c.requires.1.0;
        room = omega arith;
        named = names_grouped s c.load_names.new.names c.load_names.new.labels h.names
            (c.load_names.ensures.grouped _ (went_on c.in_ok-at_claims.was));
        whole = c.load_names.ensures.whole _ (went_on c.in_ok-at_claims.was);
        claimed = c.load_claims.ensures.held _ (went_on c.in_ok-end.was);
      });
    }
