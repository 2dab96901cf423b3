-- From the tables of a sheet that was read to the claim itself.
use Prim.Native.Nat.{ℕ, ◌-◌, ◌≤◌, ◌<◌}
use mathlib.Core.Path.{◌≡◌, subst, sym, ap, ◌∙◌}
use mathlib.Core.List.{List}
use native.Mathlib.Omega.{arith}
use lib.ListN.{length, take}
use lib.Seq.{get_or-take}
use Rattle.records.specs.declared.record.Head.{Head}
use Rattle.reading.specs.declared.sheet_tables.Tables.{Tables}
use Rattle.wire.specs.Record.{read}
use Rattle.wire.specs.SheetFormat.{name_of, read_sheet}
use Rattle.wire.proofs.Facts.{read_right}
use Rattle.meaning.specs.Sheet.{Sheet}
use Rattle.meaning.specs.Place.{Question}
use Rattle.meaning.specs.OfRecords.{claimed, claim_at}
use Rattle.meaning.proofs.Readable.{name_group_most}
use Rattle.tables.proofs.GroupsLaws.{length_groups_in}
use Rattle.tables.proofs.RecordsInLaws.{length_records_in}
use Rattle.claim_records.specs.ClaimHeld.{claim_record}
use Rattle.claim_records.specs.ClaimTable.{claim_in}
use Rattle.claim_records.proofs.ClaimTableLaws.{get_d_claims_in}
use Rattle.records.specs.Answers.{head_record}
use Rattle.reading.specs.Loaded.{records_of, Held}
use Rattle.replies.specs.Reply.{Call}
use Rattle.replies.specs.Written.{SetsPut}
use Rattle.claims.specs.Named.{Askable, claim_meant}
use Rattle.claims.proofs.NamedLaws.{claim_named}
use Rattle.claim_reply.specs.ClaimReply.{VerdictFor}

pub verdict_as : (s : Sheet) (y : Call) {j k : Question} → j ≡ k → VerdictFor s j y → VerdictFor s k y
verdict_as s y e w = subst (λ k. VerdictFor s k y) e w

-- the marks of the first n groups, where the table has more
pub sets_taken : (out firsts sizes marks : List ℕ) (n : ℕ) → SetsPut out n firsts sizes (take n marks) → SetsPut out n firsts sizes marks
sets_taken out firsts sizes marks n p g l = rw (get_or-take n marks g 0 l) at (p g l)

-- the claim at place i of the tables of a sheet that was read
module _ (h : Head) (s : List ℕ) (t : Tables) (e : read_sheet s ≡ read (records_of (head_record h) s t)) (k : Held (head_record h) s t)
    (long : h.names ≤ length t.names) (i : ℕ) (l : i < h.claims) where
  abbrev pub claim_askable : Askable s (claim_in t.claims i) t.names h.groups
  claim_askable = record {
    count = h.names;
    held = k.claimed i l;
    long = long;
    numbered = λ n a b. (k.named n a b).numbered;
    known = λ n a b.
        omega (
          arith,
          (k.named n a b).number,
          name_group_most (read_right s _ e) n a (omega (arith, length_records_in name_of s t.labels h.names)),
          length_groups_in t.groups h.groups,
        );
  }

  -- it is the claim that is written down
  pub claim_told : (n : ℕ) → n - 1 ≡ i
      → claim_meant t.names (claim_record s (claim_in t.claims i)) ≡ claim_at (records_of (head_record h) s t) n
  claim_told n p =
      claim_named s (claim_in t.claims i) claim_askable _ (λ n a b. (k.named n a b).number)
      ∙ ap (claimed (records_of (head_record h) s t).names)
      (sym (rw p (get_d_claims_in s t.claims h.claims i _ l)))
