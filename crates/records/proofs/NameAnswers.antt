-- The answer to a name's tests but that of its label's use before: the first that failed, or the name.
use Prim.Native.Nat.{ℕ}
use mathlib.Core.Path.{◌≡◌}
use mathlib.Core.List.{List, []}
use native.Mathlib.Omega.{arith}
use lib.ListN.{drop}
use Rattle.std.specs.Prelude.{Ok, Err}
use Rattle.records.specs.declared.record.Name.{Name}
use Rattle.wire.specs.declared.refusals.Refusal.{Refusal}
use Rattle.wire.specs.Edition.{Edition}
use Rattle.wire.specs.Refusals.{refusal_number}
use Rattle.wire.specs.Record.{refusal, kind_of}
use Rattle.wire.specs.SheetFormat.{name_tests, name_of}
use Rattle.tables.specs.Names.{Numbered}
use Rattle.records.specs.Answers.{record_as, name, NameAnswer}
use Rattle.records.proofs.Carried.{answer_refused, answer_record}
use Rattle.records.specs.declared.record.Record.TheVariants as record_of

module _ {e : Edition} {groups : ℕ} {s : List ℕ} {at : ℕ} where
  pub name_refused : {f : Refusal} → refusal (name_tests e groups [] (drop at s)) ≡ refusal_number f → NameAnswer e groups s at (Err f)
  name_refused h = record {
    answers = answer_refused h;
    numbered = λ n f. let z : ◌≡◌ {A = ℕ} 0 1 = cc in absurd (omega arith);
  }

  pub name_answered : {n : Name} → refusal (name_tests e groups [] (drop at s)) ≡ 0 →
      record_as s at (record_of.Name n) ≡ (kind_of (drop at s), name (name_of (drop at s))) → Numbered n.means →
      NameAnswer e groups s at (Ok (record_of.Name n))
  name_answered {n} h w k = record {
    answers = answer_record h w;
    numbered = λ m f. let z : n ≡ m = cc in rw z at k;
  }
