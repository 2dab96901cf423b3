-- The replies of the conversions, put together: the bytes of a sheet, stored one by one, with another edition stored over them, those of rows,
-- and the way of a sheet to an edition, turned back or gone.
use Prim.Native.Nat.{ℕ, suc, ◌+◌, ◌*◌, ◌≤◌, ◌<◌}
use mathlib.Core.Path.{◌≡◌, refl, sym, ap, subst, ◌∙◌}
use mathlib.Core.List.{List, [], ◌∷◌}
use native.Mathlib.Omega.{arith}
use native.Mathlib.Nat.{zero-add, mul-le-mul_left}
use lib.ListN.{length, take, get_or, set}
use lib.Seq.{sets, take-suc, length-take-le}
use Rattle.laws.proofs.SetsLaws.{sets_then, sets_over}
use Rattle.std.specs.Prelude.{Result, Ok, Err}
use Rattle.std.specs.Result.{IsErrAnd}
use Rattle.std.proofs.lemmas.Result.{err_from_is_err_and}
use Rattle.wire.specs.declared.refusals.Fault.{Fault}
use Rattle.records.specs.declared.record.Head.{Head}
use Rattle.reading.specs.declared.sheet_tables.Tables.{Tables}
use Rattle.wire.specs.Limits.{row_limit}
use Rattle.wire.specs.Edition.{Edition, edition1, edition2, edition_number, group_limit, label_limit, row_bytes}
use Rattle.wire.specs.Bytes.{le16}
use Rattle.wire.specs.Capacity.{head_bytes, sheet_limit}
use Rattle.wire.specs.Record.{read}
use Rattle.wire.specs.Refusals.{refusal_number}
use Rattle.wire.specs.SheetFormat.{HeadRecord, Records, read_sheet}
use Rattle.wire.specs.RegisterFormat.{read_register}
use Rattle.wire.specs.Encoding.{Bytes, encode_sheet, encode_register}
use Rattle.wire.specs.Conversion.{in_edition, towards, rows_in}
use Rattle.wire.proofs.EditionFacts.{row_length_fits}
use Rattle.wire.proofs.Facts.{sheet_read, readable_length}
use Rattle.wire.proofs.ConversionLaws.{in_edition_written, rows_in_length}
use Rattle.rows.specs.RowsRead.{rows_before}
use Rattle.rows.proofs.RowLaws.{length_rows_before, rows_most}
use Rattle.tables.proofs.GroupsLaws.{length_groups_in}
use Rattle.records.specs.Answers.{head_record}
use Rattle.reading.specs.Loaded.{records_of}
use Rattle.conversion.specs.TowardsIn.{towards_gives, TowardsAs}
use Rattle.replies.specs.Reply.{Call, Refused, OnceRead, OnceSheet, OnceBytes}
use Rattle.replies.proofs.ReplyLaws.{once_turned, once_passed}
use Rattle.conversion_reply.specs.Way.{Goes, TurnedBack, unreadable, not_there, Way}

-- one byte more
pub bytes_more : (b l : List ℕ) (i : ℕ) → i < length b → {l₁ : List ℕ} → l₁ ≡ sets l 0 (take i b)
    → set l₁ i (get_or b i 0) ≡ sets l 0 (take (suc i) b)
bytes_more b l i k {l₁} p =
    let size : 0 + length (take i b) ≡ i = zero-add _ ∙ length-take-le i b (omega arith) in
    rw (take-suc b i 0 k) (sets_then (take i b) (get_or b i 0 ∷ []) l 0 p (rw size))

-- a readable sheet has a head, and no more bytes than edition 2 allows
sheet_most : (e : Edition) (n : ℕ) → n ≤ sheet_limit e → n ≤ sheet_limit edition2
unfolding group_limit label_limit
sheet_most edition1 n h = omega arith
sheet_most edition2 n h = h

pub sheet_length : (b : List ℕ) (d : Records) → read_sheet b ≡ read d → (head_bytes ≤ length b) × (length b ≤ sheet_limit edition2)
sheet_length b d r =
    let s = sheet_read b d r in
    (omega (arith, s.head.size, s.head.frame), sheet_most d.edition (length b) (readable_length b d r))

pub sheet_fits : (n : ℕ) → n ≤ sheet_limit edition2 → n < 4294967296
unfolding group_limit label_limit
sheet_fits n h = omega arith

-- an edition stored over the bytes of a sheet
pub edition_over : (n : ℕ) (b l : List ℕ) {l₁ l₂ : List ℕ} → head_bytes ≤ length b → length b ≤ length l
    → l₁ ≡ sets l 0 b → l₂ ≡ sets l₁ 4 (le16 n) → l₂ ≡ sets l 0 (sets b 4 (le16 n))
unfolding le16
edition_over n b l h = sets_over (le16 n) b l 4 (omega arith)

-- the bytes of a sheet with the number n of edition e in its head are the sheet in that edition
pub sheet_in_law : (e : Edition) (b : List ℕ) → Bytes b → (d : Records) → read_sheet b ≡ read d → (n : ℕ) → n ≡ edition_number e
    → {c : Call} → OnceBytes (sets b 4 (le16 n)) c → OnceBytes (encode_sheet (in_edition e d)) c
sheet_in_law e b k d r n q {c} v =
    subst (λ x. OnceBytes x c) (sym (in_edition_written e b k d r ∙ ap (λ (m : ℕ). sets b 4 (le16 m)) (sym q))) v

-- the bytes of n rows
pub rows_length : (e f : Edition) (b : List ℕ) (n : ℕ) → length (encode_register e (rows_in e (rows_before f b n))) ≡ row_bytes e * n
rows_length e f b n = rows_in_length e (rows_before f b n) ∙ ap (λ m. row_bytes e * m) (length_rows_before f b n)

pub rows_fit : (e : Edition) (n : ℕ) → n ≤ row_limit → row_bytes e * n < 4294967296
rows_fit e n h = omega (arith, mul-le-mul_left (row_bytes e) h, row_length_fits e)

-- the bytes of the rows of a register, where a row of the edition has m
pub bytes_fit : (e f : Edition) (g : ℕ) (b : List ℕ) (n : ℕ) {m : ℕ} → m ≡ row_bytes e → read (rows_before f b n) ≡ read_register f g b
    → m * n < 4294967296
bytes_fit e f g b n p q = rw p (rows_fit e n (rows_most f g b n q))

pub bytes_said : (e f : Edition) (b : List ℕ) (n : ℕ) {m : ℕ} → m ≡ row_bytes e
    → length (encode_register e (rows_in e (rows_before f b n))) ≡ m * n
bytes_said e f b n p = rw p (rows_length e f b n)

-- The way to edition e of a sheet that was read, by the answer u on it.
module _ (e : Edition) (h : Head) {s : List ℕ} (t : Tables) (k : read_sheet s ≡ read (records_of (head_record h) s t)) {u : Result (Unit {0}) Fault}
    (w : TowardsAs e (head_record h) s t.labels u) where
  abbrev d : Records
  d = records_of (head_record h) s t

  way : towards e d ≡ towards_gives e d u
  way = sym (w.gives d (record { groups = length_groups_in t.groups h.groups; names = refl }))

  pub sheet_confined : (f : Fault) → u ≡ Err f → TurnedBack e s (refusal_number f.refusal) f.place
  sheet_confined f q = not_there d k (way ∙ ap (towards_gives e d) q)

  pub sheet_there : (x : Unit {0}) → u ≡ Ok x → Goes e s (head_record h)
  sheet_there x q =
      record { records = d; reads = k; edition = refl; groups = length_groups_in t.groups h.groups; there = way ∙ ap (towards_gives e d) q }

-- an answer that is the fault of a call
pub way_back : {e : Edition} {s : List ℕ} (r : Result Head Fault) (f : Fault) → IsErrAnd r (λ y. y ≡ f)
    → TurnedBack e s (refusal_number f.refusal) f.place → Way e s r
way_back r f h w = let p = err_from_is_err_and r h in rw (p.1, p.2) w

-- What a conversion to edition e promises, from the way of the sheet; P is what it promises beyond it.
module _ {e : Edition} {s : List ℕ} {c : Call} (P : Records → Records → Type 0) where
  pub once_turned_back : {n k : ℕ} → TurnedBack e s n k → Refused n k c → OnceSheet s (λ d c. OnceRead (towards e d) c (P d)) c
  once_turned_back (unreadable q) v = once_turned q v
  once_turned_back (not_there d r q) v = once_passed (λ d. OnceRead (towards e d) c (P d)) r (once_turned q v)

  pub once_there : {h : HeadRecord} (w : Goes e s h) → P w.records (in_edition e w.records) → OnceSheet s (λ d c. OnceRead (towards e d) c (P d)) c
  once_there w p = once_passed (λ d. OnceRead (towards e d) c (P d)) w.reads (once_passed (P w.records) w.there p)

-- what is promised of a register beyond it
abbrev pub RowsGiven : Edition → List ℕ → Call → Records → Records → Type 0
RowsGiven e register c d converted =
    OnceRead (read_register d.edition (length d.groups) register) c (λ rows. OnceBytes (encode_register e (rows_in e rows)) c)
