-- Laws of what loading gives: each of the two answers, on a record and on the sheet.
use Prim.Native.Nat.{ℕ}
use mathlib.Core.Path.{◌≡◌, refl, sym}
use mathlib.Core.List.{List}
use Rattle.std.specs.Prelude.{Result, Ok, Err}
use Rattle.records.specs.declared.record.Head.{Head}
use Rattle.records.specs.declared.record.Record.{Record}
use Rattle.wire.specs.declared.refusals.Refusal.{Refusal}
use Rattle.wire.specs.declared.refusals.Fault.{Fault}
use Rattle.reading.specs.declared.sheet_tables.Tables.{Tables}
use Rattle.wire.specs.Record.{Reading, read, refused}
use Rattle.wire.specs.Refusals.{refusal_number}
use Rattle.wire.specs.SheetFormat.{Records}
use Rattle.records.specs.Answers.{head_record}
use Rattle.reading.specs.Loaded.{Numbered, goes_on, loaded_as, records_of, Held, Loads}

-- an answer on the sheet, as one on its record
numbered_cases : (answer : Result Record Refusal) (k : ℕ) (f : Fault) → Numbered answer k (Err f) → (answer ≡ Err f.refusal) × (f.place ≡ k)
numbered_cases (Ok x) k f w = let z : ◌≡◌ {A = Result Record Fault} (Err f) (Ok x) = w.says in absurd (cc)
numbered_cases (Err e) k f w =
    let z : ◌≡◌ {A = Result Record Fault} (Err f) (Err (record { refusal = e; place = k })) = w.says in
    let y : f ≡ record { refusal = e; place = k } = cc in
    rw y (refl, refl)

pub numbered_refused : {answer : Result Record Refusal} {k : ℕ} {f : Fault} → Numbered answer k (Err f) → (answer ≡ Err f.refusal) × (f.place ≡ k)
numbered_refused {answer} {k} {f} w = numbered_cases answer k f w

read_cases : (answer : Result Record Refusal) (k : ℕ) (x : Record) → Numbered answer k (Ok x) → answer ≡ Ok x
read_cases (Ok y) k x w = let z : ◌≡◌ {A = Result Record Fault} (Ok x) (Ok y) = w.says in cc
read_cases (Err e) k x w =
    let z : ◌≡◌ {A = Result Record Fault} (Ok x) (Err (record { refusal = e; place = k })) = w.says in absurd (cc)

pub numbered_read : {answer : Result Record Refusal} {k : ℕ} {x : Record} → Numbered answer k (Ok x) → answer ≡ Ok x
numbered_read {answer} {k} {x} w = read_cases answer k x w

-- each of the two answers
module _ {r : Result Head Fault} {whole : Reading Records} {s : List ℕ} {t : Tables} (w : Loads r whole s t) where
  pub loaded_sheet : (h : Head) → r ≡ Ok h → whole ≡ read (records_of (head_record h) s t)
  unfolding goes_on loaded_as
  loaded_sheet h e = sym (rw e at w.reads)

  pub loaded_held : (h : Head) → r ≡ Ok h → Held (head_record h) s t
  unfolding loaded_as
  loaded_held h e = w.held _ (rw e)

  pub loaded_refused : (f : Fault) → r ≡ Err f → whole ≡ refused (refusal_number f.refusal) f.place
  unfolding goes_on loaded_as
  loaded_refused f e = sym (rw e at w.reads)
