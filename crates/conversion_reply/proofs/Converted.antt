-- Every conversion that was not refused has what `specs/Converted` says of it (document 02, card 6).
use Prim.Native.Nat.{ℕ, ◌≤◌, ◌<◌}
use mathlib.Core.Path.{◌≡◌, refl, sym, ap, ◌∙◌, subst}
use mathlib.Core.List.{List}
use mathlib.Core.Logic.{⊎_elim}
use native.Mathlib.Omega.{arith}
use lib.ListN.{length}
use Rattle.laws.proofs.Cases.{compare_le}
use Rattle.wire.specs.Limits.{answer_bytes}
use Rattle.wire.specs.Edition.{Edition, edition_number, edition_of, group_limit, label_limit}
use Rattle.wire.specs.Bytes.{u16_at}
use Rattle.wire.specs.Record.{Reading, read, refused}
use Rattle.wire.specs.SheetFormat.{Records, read_sheet}
use Rattle.wire.specs.RegisterFormat.{Row, read_register}
use Rattle.wire.specs.Encoding.{Bytes, encode_sheet, encode_register, SheetWithin, RowsWithin}
use Rattle.wire.specs.Conversion.{in_edition, towards, rows_in}
use Rattle.wire.proofs.EditionFacts.{edition_back, edition_fits}
use Rattle.wire.proofs.Passing.{Positive}
use Rattle.wire.proofs.Facts.{sheet_read, sheet_positive}
use Rattle.wire.proofs.RoundTripSheet.{readable_is_encoded, read_encoded_sheet}
use Rattle.wire.proofs.RoundTripRegister.{register_positive, readable_register_is_encoded, read_encoded_register}
use Rattle.wire.proofs.ConversionLaws.{towards_passed, towards_positive, towards_within, towards_back, in_edition_written}
use Rattle.wire.proofs.ConversionLaws.{rows_in_length, rows_in_own, rows_in_members, rows_in_within, rows_in_back, rows_in_groups}
use Rattle.meaning.specs.Sheet.{Sheet}
use Rattle.meaning.specs.Rule.{Answered}
use Rattle.meaning.specs.OfRecords.{sheet_of}
use Rattle.meaning.proofs.ConvertedRows.{listed_kept}
use Rattle.replies.specs.Reply.{Call, OnceRead, OnceRoom, OnceBytes}
use Rattle.replies.proofs.ReplyLaws.{once_passed, room_said}
use Rattle.replies.proofs.WroteLaws.{wrote_u16, u16_put}
use Rattle.range_reply.proofs.Settled.{ranges_settled}
use Rattle.claim_reply.proofs.Settled.{claim_settled}
use Rattle.register_reply.specs.RegisterReply.{AnswerIn, Register}
use Rattle.register_reply.proofs.Settled.{register_settled}
use Rattle.conversion_reply.specs.ConversionReply.{SheetConversion, RegisterConversion}
use Rattle.conversion_reply.specs.Converted.{Succeeds, reply_of, OnlyEdition, Copied, Back, SheetConverted, RegisterConverted}
use Rattle.conversion_reply.proofs.GivenLaws.{sheet_length, rows_fit}

-- A call that was not refused: its readings gave a value, and its reply is the bytes.
module _ {c : Call} where
  read_where_succeeds : {A : Type 0} (x : Reading A) {P : A → Type 0} → Positive x → OnceRead x c P → Succeeds c → (a : A) × (x ≡ read a) × P a
  read_where_succeeds (read a) p v s = (a, refl, v.passed a refl)
  read_where_succeeds (refused n k) p v s = absurd (omega (arith, (v.turned n k refl).returned))

  bytes_where_room : {bytes : List ℕ} → OnceBytes bytes c → length bytes ≤ length c.before → reply_of c ≡ bytes
  bytes_where_room {bytes} v l =
      let z = v.replied l in
      let n : c.returned ≡ length bytes = omega (arith, z.0.returned) in
      rw n z.1

  bytes_where_succeeds : {bytes : List ℕ} → OnceBytes bytes c → Succeeds c → reply_of c ≡ bytes
  bytes_where_succeeds {bytes} v s =
      compare_le (length bytes) (length c.before) (λ l. bytes_where_room v l) (λ l. absurd (omega (arith, (v.short l).returned)))

  succeeds_where_room : {bytes : List ℕ} → length bytes < 4294967296 → OnceBytes bytes c → length bytes ≤ length c.before
      → Succeeds c × (reply_of c ≡ bytes)
  succeeds_where_room small v l = (omega (arith, (v.replied l).0.returned), bytes_where_room v l)

-- the edition of a sheet that was read stands in its bytes 4 and 5
edition_read : (sheet : List ℕ) (d : Records) → read_sheet sheet ≡ read d → (f : Edition) → u16_at sheet 4 ≡ edition_number f → f ≡ d.edition
edition_read sheet d x f n = sym (edition_back f) ∙ ap edition_of (sym n) ∙ sym (sheet_read sheet d x).edition

-- no sheet has so many bytes that their number would not do as a number returned
sheet_small : (sheet : List ℕ) (d : Records) → read_sheet sheet ≡ read d → length sheet < 4294967296
unfolding group_limit label_limit
sheet_small sheet d x = omega (arith, sheet_length sheet d x)

-- A conversion of a sheet that was not refused: the records of the sheet, and the reply.
record SheetGoes (e : Edition) (sheet out : List ℕ) : Type 0 where
  pub records : Records
  pub reads : read_sheet sheet ≡ read records
  pub goes : towards e records ≡ read (in_edition e records)
  pub written : out ≡ encode_sheet (in_edition e records)

sheet_goes : {e : Edition} {sheet : List ℕ} {c : Call} → SheetConversion e sheet c → Succeeds c → SheetGoes e sheet (reply_of c)
sheet_goes {e} {sheet} v s =
    let a = read_where_succeeds (read_sheet sheet) (sheet_positive sheet) v s in
    let b = read_where_succeeds (towards e a.0) (towards_positive e a.0) a.2 s in
    let same = (towards_passed e a.0 b.1).same in
    record {
      records = a.0;
      reads = a.1;
      goes = b.1 ∙ ap read same;
      written = bytes_where_succeeds b.2 s ∙ ap encode_sheet same;
    }

module _ {e : Edition} {sheet out : List ℕ} (k : Bytes sheet) (g : SheetGoes e sheet out) where
  abbrev d : Records
  d = g.records

  within : SheetWithin d
  within = (readable_is_encoded sheet k d g.reads).1

  -- the converted sheet is readable
  out_reads : read_sheet out ≡ read (in_edition e d)
  out_reads = ap read_sheet g.written ∙ read_encoded_sheet (in_edition e d) (towards_within e d within g.goes)

  back_by : (f : Edition) → u16_at sheet 4 ≡ edition_number f → towards f (in_edition e d) ≡ read d
  back_by f n = rw (edition_read sheet d g.reads f n) (towards_back e d within.right g.goes)

  only_edition : OnlyEdition e sheet out
  only_edition =
      let stored = g.written ∙ in_edition_written e sheet k d g.reads in
      let w = wrote_u16 4 (edition_number e) stored in
      record {
        sized = w.sized;
        edition = u16_put sheet 4 (edition_number e) stored (omega (arith, sheet_length sheet d g.reads)) (omega (arith, edition_fits e));
        others = λ i o. ⊎_elim (λ l. w.under i l) (λ l. w.over i l) o;
      }

  -- what is promised under the converted sheet, carried to the sheet
  carried : {c : Call} {P Q : Records → Type 0} → (P (in_edition e d) → Q d) → OnceRead (read_sheet out) c P → OnceRead (read_sheet sheet) c Q
  carried {Q = Q} on v = once_passed Q g.reads (on (v.passed (in_edition e d) out_reads))

  sheet_back : Back sheet sheet (λ f. SheetConversion f out)
  sheet_back f n c v l =
      let w : OnceBytes (encode_sheet d) c = (v.passed (in_edition e d) out_reads).passed d (back_by f n) in
      let same = (readable_is_encoded sheet k d g.reads).0 in
      succeeds_where_room (sheet_small sheet d g.reads) (rw same at w) l

  goes_converted : SheetConverted e sheet out
  goes_converted = record {
    only = only_edition;
    readable = (d, g.reads, out_reads);
    copied = λ n.
        g.written ∙ ap (λ h. encode_sheet (in_edition h d)) (edition_read sheet d g.reads e n) ∙ (readable_is_encoded sheet k d g.reads).0;
    back = sheet_back;
    ranges = λ v w x y. ranges_settled sheet v (carried (λ z. z) w) x y;
    claims = λ j v w x y. claim_settled sheet j v (carried (λ z. z) w) x y;
  }

pub sheet_converted : {e : Edition} {sheet : List ℕ} {c : Call} → Bytes sheet → SheetConversion e sheet c → Succeeds c
    → SheetConverted e sheet (reply_of c)
sheet_converted k v s = goes_converted k (sheet_goes v s)

-- Registers under a sheet whose conversion was not refused: the register's rows, and the reply.
module _ {e : Edition} {sheet sheet' : List ℕ} (g : SheetGoes e sheet sheet') where
  abbrev f : Edition
  f = g.records.edition

  abbrev groups : ℕ
  groups = length g.records.groups

  abbrev s : Sheet
  s = sheet_of g.records.groups

  few : groups ≤ group_limit e
  few = (towards_passed e g.records g.goes).groups

  module _ (register : List ℕ) {out : List ℕ} (k : Bytes sheet) (m : Bytes register) (rows : List Row)
      (x : read_register f groups register ≡ read rows) (written : out ≡ encode_register e (rows_in e rows)) where
    rows_within : RowsWithin f groups rows
    rows_within = (readable_register_is_encoded f groups register m rows x).1

    out_rows : read_register e groups out ≡ read (rows_in e rows)
    out_rows = rw written (read_encoded_register e groups (rows_in e rows) (rows_in_within e few rows_within))

    register_again : encode_register f (rows_in f (rows_in e rows)) ≡ register
    register_again = rw (rows_in_back e few rows_within) (readable_register_is_encoded f groups register m rows x).0

    register_small : length register < 4294967296
    register_small =
        omega (
          arith,
          ap length register_again,
          rows_in_length f (rows_in e rows),
          rows_fit f (length (rows_in e rows)) (rows_in_within e few rows_within).row_count,
        )

    register_copied : Copied e sheet register out
    register_copied n =
        written ∙ ap (λ h. encode_register h (rows_in h rows)) (edition_read sheet g.records g.reads e n)
        ∙ ap (encode_register f) (rows_in_own f rows_within) ∙ (readable_register_is_encoded f groups register m rows x).0

    answer_kept : {o : List ℕ} → AnswerIn s (rows_in e rows) o → AnswerIn s rows o
    answer_kept {o} a = record {
      sized = a.sized;
      kind = a.kind;
      answer = subst (λ A. Answered s A (u16_at o 4) (u16_at o 6)) (listed_kept e few rows_within) a.answer;
    }

    check_kept : {c : Call} → Register out e s c → Register register f s c
    check_kept {c} v =
        once_passed (λ q. OnceRoom answer_bytes c (AnswerIn s q)) x (room_said refl (λ o a. answer_kept a) (v.passed (rows_in e rows) out_rows))

    register_back : Back sheet register (λ h. RegisterConversion h sheet' out)
    register_back h n c v l =
        let same = edition_read sheet g.records g.reads h n in
        let w = ((v.passed (in_edition e g.records) (out_reads k g)).passed g.records (back_by k g h n)).passed (rows_in e rows) out_rows in
        let w' : OnceBytes (encode_register f (rows_in f (rows_in e rows))) c = rw same at w in
        succeeds_where_room register_small (rw register_again at w') l

    rows_converted : RegisterConverted e sheet sheet' register out
    rows_converted = record {
      rows = (
        g.records,
        rows,
        rows_in e rows,
        g.reads,
        x,
        out_rows,
        record { members = rows_in_members e rows; groups = rows_in_groups e few rows_within },
      );
      copied = register_copied;
      back = register_back;
      checked = λ v w x y. register_settled sheet register v (carried k g check_kept w) x y;
    }

pub register_converted : {e : Edition} {sheet register : List ℕ} {c c' : Call} → Bytes sheet → Bytes register → SheetConversion e sheet c → Succeeds c
    → RegisterConversion e sheet register c' → Succeeds c' → RegisterConverted e sheet (reply_of c) register (reply_of c')
register_converted {e} {sheet} {register} k m v s w t =
    let g = sheet_goes v s in
    let d = g.records in
    let turned = (w.passed d g.reads).passed (in_edition e d) g.goes in
    let a = read_where_succeeds (read_register d.edition (length d.groups) register)
    (register_positive d.edition (length d.groups) register) turned t in
    rows_converted g register k m a.0 a.1 (bytes_where_succeeds a.2 t)
