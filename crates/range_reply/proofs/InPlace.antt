-- The bytes of a sheet with lo and hi written over are the bytes of the replaced records (`specs/Planning`).
use Prim.Native.Nat.{ℕ, zero, suc, ◌<◌, ◌/◌, ◌%◌, ◌+◌, ◌*◌, ◌≤◌}
use mathlib.Core.Path.{◌≡◌, refl, ◌∙◌, ap, sym}
use mathlib.Core.List.{List, [], ◌∷◌, flat_map, ◌++◌, append_assoc, append-nil}
use mathlib.Core.Logic.{inl}
use native.Mathlib.Omega.{arith}
use lib.ListN.{set, length, get_or, drop, length-drop, length-append}
use lib.Seq.{sets, drop-drop, get_or-drop, ext_get_or}
use Rattle.laws.proofs.Cases.{compare_le, compare_eq}
use Rattle.wire.specs.Limits.{no_end, bound_limit}
use Rattle.wire.specs.Capacity.{group_bytes, head_bytes}
use Rattle.wire.specs.Bytes.{le16, u16_at}
use Rattle.wire.specs.Record.{length_of, after, kind_of, read}
use Rattle.wire.specs.SheetFormat.{Records, GroupRecord, group_tests, group_of, u16s, read_sheet}
use Rattle.wire.specs.Encoding.{Bytes, encode_record, encode_head, encode_group, encode_name, encode_claim, encode_sheet}
use Rattle.wire.proofs.Many.{Reads, stop, go, kept_read, encode_reads}
use Rattle.wire.proofs.Sorts.{Framed, GroupFrame, group_frame}
use Rattle.wire.proofs.Facts.{SheetRead, bytes_drop, sheet_read, bytes_after}
use Rattle.wire.proofs.Fields.{u16_drop}
use Rattle.wire.proofs.RoundTripRecords.{fields_read, name_back, claim_back}
use Rattle.wire.proofs.RoundTripSheet.{readable_is_encoded}
use Rattle.meaning.specs.OfRecords.{sheet_of}
use Rattle.replies.specs.Wrote.{Wrote}
use Rattle.replies.proofs.WroteLaws.{wrote_then, u16_kept, wrote_u16, u16_put}
use Rattle.range_reply.specs.Planning.{range_lo, range_hi, group_place, group_over, written_over, replaced_group, replaced_from, replaced, EndsWithin}
use Rattle.range_reply.proofs.Replaced.{replaced_length, fields_within}

-- bytes stay bytes where bytes are stored
bytes_set : (l : List ℕ) (i x : ℕ) → Bytes l → x < 256 → Bytes (set l i x)
bytes_set [] i x k h j = k j
bytes_set (y ∷ l) zero x k h zero = h
bytes_set (y ∷ l) zero x k h (suc j) = k (suc j)
bytes_set (y ∷ l) (suc i) x k h zero = k 0
bytes_set (y ∷ l) (suc i) x k h (suc j) = bytes_set l i x (λ n. k (suc n)) h j

bytes_word : (l : List ℕ) (i x : ℕ) → Bytes l → Bytes (sets l i (le16 x))
unfolding le16
bytes_word l i x k = bytes_set (set l i (x % 256)) (suc i) (x / 256 % 256) (bytes_set l i (x % 256) k (omega arith)) (omega arith)

-- The bytes have the two fields of the first n groups, and every other byte is as it was. The head is as long as a group, so group
-- g stands at 12 g.
record Over (sheet : List ℕ) (n : ℕ) (out sheet' : List ℕ) : Type 0 where
  sized : length sheet' ≡ length sheet
  lo : (g : ℕ) → 1 ≤ g → g ≤ n → u16_at sheet' (group_bytes * g + 6) ≡ range_lo out g
  hi : (g : ℕ) → 1 ≤ g → g ≤ n → u16_at sheet' (group_bytes * g + 8) ≡ range_hi out g
  rest : (i : ℕ) → ((g : ℕ) → 1 ≤ g → g ≤ n → group_bytes * g + 6 ≤ i → i < group_bytes * g + 10 → ⊥)
      → get_or sheet' i 0 ≡ get_or sheet i 0
  bytes : Bytes sheet'

-- two fields more
over_more : {sheet out b : List ℕ} (n : ℕ) → group_bytes * suc (suc n) ≤ length sheet → range_lo out (suc n) ≤ no_end
    → range_hi out (suc n) ≤ no_end → Over sheet n out b → Over sheet (suc n) out (group_over out (suc n) b)
over_more {sheet} {out} {b} n l x y w =
    let i = group_place (suc n) in
    let m = sets b (i + 6) (le16 (range_lo out (suc n))) in
    let v : Wrote b (i + 6) 2 m = wrote_u16 (i + 6) (range_lo out (suc n)) refl in
    let u : Wrote m (i + 8) 2 (sets m (i + 8) (le16 (range_hi out (suc n)))) = wrote_u16 (i + 8) (range_hi out (suc n)) refl in
    let both : Wrote b (i + 6) 4 (group_over out (suc n) b) = wrote_then v u (omega arith) (omega arith) (omega arith) (omega arith) in
    record {
      sized = both.sized ∙ w.sized;
      lo = λ g j k. compare_eq g (suc n)
          (λ e. let s : group_bytes * g + 6 ≡ i + 6 = omega arith in
          rw (s, e) (u16_kept u (i + 6) (inl (omega arith)) ∙ u16_put b (i + 6) (range_lo out (suc n)) refl (omega (arith, w.sized)) (omega arith)))
          (λ e. u16_kept both (group_bytes * g + 6) (inl (omega arith)) ∙ w.lo g j (omega arith));
      hi = λ g j k. compare_eq g (suc n)
          (λ e. let s : group_bytes * g + 8 ≡ i + 8 = omega arith in
          rw (s, e) (u16_put m (i + 8) (range_hi out (suc n)) refl (omega (arith, v.sized, w.sized)) (omega arith)))
          (λ e. u16_kept both (group_bytes * g + 8) (inl (omega arith)) ∙ w.hi g j (omega arith));
      rest = λ j h. compare_le (i + 6) j
          (λ a. compare_le (i + 10) j
          (λ c. both.over j (omega arith) ∙ w.rest j (λ g p q. h g p (omega arith)))
          (λ c. absurd (h (suc n) (omega arith) (omega arith) (omega arith) (omega arith))))
          (λ a. both.under j a ∙ w.rest j (λ g p q. h g p (omega arith)));
      bytes = bytes_word m (i + 8) (range_hi out (suc n)) (bytes_word b (i + 6) (range_lo out (suc n)) w.bytes);
    }

over_all : (sheet out : List ℕ) → Bytes sheet → (n : ℕ) → group_bytes * suc n ≤ length sheet
    → ((g : ℕ) → 1 ≤ g → g < 1 + n → (range_lo out g ≤ bound_limit) × (range_hi out g ≤ no_end))
    → Over sheet n out (written_over out sheet n)
unfolding written_over
over_all sheet out k zero l h = record {
  sized = refl;
  lo = λ g i j. absurd (omega arith);
  hi = λ g i j. absurd (omega arith);
  rest = λ i j. refl;
  bytes = k;
}
over_all sheet out k (suc n) l h =
    let x = h (suc n) (omega arith) (omega arith) in
    over_more n l (omega arith) (omega arith) (over_all sheet out k n (omega arith) (λ g i j. h g i (omega arith)))

-- the head and the groups are there
length_head : (d : Records) → length (encode_head d) ≡ head_bytes
unfolding flat_map encode_head encode_record le16
length_head d = refl

length_groups : (gs : List GroupRecord) → length (flat_map encode_group gs) ≡ group_bytes * length gs
unfolding flat_map encode_group encode_record le16
length_groups [] = refl
length_groups (r ∷ gs) = omega (arith, length_groups gs)

-- the bytes from record g on, the head being record 0
abbrev from : List ℕ → ℕ → List ℕ
from b g = drop (group_bytes * g) b

after_from : (b : List ℕ) (g : ℕ) → length_of (from b g) ≡ 10 → after (from b g) ≡ from b (suc g)
unfolding after
after_from b g e =
    let same : group_bytes * g + (length_of (from b g) + 2) ≡ group_bytes * suc g = omega arith in
    drop-drop (length_of (from b g) + 2) (group_bytes * g) b ∙ ap (λ i. drop i b) same

module _ (sheet : List ℕ) (n : ℕ) (out sheet' : List ℕ) (w : Over sheet n out sheet') where
  same_length : (g : ℕ) → length (from sheet' g) ≡ length (from sheet g)
  same_length g = omega (arith, length-drop (group_bytes * g) sheet, length-drop (group_bytes * g) sheet', w.sized)

  -- a field of two bytes, of which none is in a lo or hi, is as it was
  field_kept : (g j : ℕ)
      → ((h : ℕ) → 1 ≤ h → group_bytes * h + 6 ≤ group_bytes * g + j + 1 → group_bytes * g + j < group_bytes * h + 10 → ⊥)
      → u16_at (from sheet' g) j ≡ u16_at (from sheet g) j
  unfolding u16_at
  field_kept g j a =
      let i = group_bytes * g + j in
      let low = w.rest i (λ h l m p q. a h l (omega arith) q) in
      let high = w.rest (i + 1) (λ h l m p q. a h l p (omega arith)) in
      u16_drop (group_bytes * g) sheet' j ∙ rw (low, high) (sym (u16_drop (group_bytes * g) sheet j))

  -- a record that is framed as it was, of the four fields that stand there now
  record_in_place : (g kind : ℕ) → Framed (from sheet g) → length_of (from sheet g) ≡ 10 → kind_of (from sheet g) ≡ kind
      → encode_record kind (flat_map le16 (u16s (from sheet' g) 4 4)) ++ from sheet' (suc g) ≡ from sheet' g
  record_in_place g kind f l e =
      let b = from sheet' g in
      let size : length_of b ≡ 10 = field_kept g 0 (omega arith) ∙ l in
      let frame : Framed b = omega (arith, same_length g) in
      rw (← after_from sheet' g size)
      (fields_read b (bytes_drop (group_bytes * g) sheet' w.bytes) frame 4 size kind (field_kept g 2 (omega arith) ∙ e))

  head_in_place : (d : Records) → SheetRead sheet d → encode_head d ++ from sheet' 1 ≡ sheet'
  unfolding encode_head u16s
  head_in_place d s =
      rw (
        s.edition,
        ← s.head.edition,
        s.group_count,
        s.name_count,
        s.claim_count,
        ← field_kept 0 4 (omega arith),
        ← field_kept 0 6 (omega arith),
        ← field_kept 0 8 (omega arith),
        ← field_kept 0 10 (omega arith),
      )
      (record_in_place 0 1 s.head.frame s.head.size s.head.kind)

  group_in_place : (g : ℕ) → 1 ≤ g → g ≤ n → GroupFrame (from sheet g)
      → encode_group (replaced_group out g (group_of (from sheet g))) ++ from sheet' (suc g) ≡ from sheet' g
  unfolding encode_group group_of u16s
  group_in_place g l m f =
      rw (
        ← field_kept g 4 (omega arith),
        ← w.lo g l m,
        ← w.hi g l m,
        ← field_kept g 10 (omega arith),
        ← u16_drop (group_bytes * g) sheet' 6,
        ← u16_drop (group_bytes * g) sheet' 8,
      )
      (record_in_place g 2 f.frame f.size f.kind)

  -- the groups from g on, and what follows them
  groups_in_place : {xs gs : List GroupRecord} {b c : List ℕ} → Reads group_tests group_of xs b gs c
      → (g : ℕ) → 1 ≤ g → g + length gs ≡ suc n → b ≡ from sheet g
      → flat_map encode_group (replaced_from out g gs) ++ c ≡ from sheet' g
  unfolding flat_map replaced_from
  groups_in_place stop g l m e =
      let i = group_bytes * g in
      let byte : (j : ℕ) → get_or (from sheet g) j 0 ≡ get_or (from sheet' g) j 0 =
      λ j. rw (get_or-drop i sheet j 0, get_or-drop i sheet' j 0, w.rest (i + j) (omega arith)) in
      e ∙ ext_get_or 0 (from sheet g) (from sheet' g) (sym (same_length g)) (λ j l. byte j)
  groups_in_place (go {xs} {b} p t) g l m e =
      let f : GroupFrame (from sheet g) = rw e at (group_frame xs b p) in
      let next : after b ≡ from sheet (suc g) = rw e (after_from sheet g f.size) in
      rw (append_assoc, groups_in_place t (suc g) (omega arith) (omega arith) next, e)
      (group_in_place g l (omega arith) f)

-- The bytes so written are those of the replaced records.
in_place : (sheet : List ℕ) → Bytes sheet → (d : Records) → read_sheet sheet ≡ read d → (out sheet' : List ℕ)
    → Over sheet (length d.groups) out sheet' → encode_sheet (replaced out d) ≡ sheet'
unfolding encode_sheet
in_place sheet k d e out sheet' w =
    let n = length d.groups in
    let s = sheet_read sheet d e in
    let k2 = kept_read Bytes bytes_after (bytes_after sheet k) s.groups in
    let k3 = kept_read Bytes bytes_after k2 s.names in
    let claims = encode_reads encode_claim Bytes bytes_after (claim_back (length d.names)) k3 s.claims in
    let names = encode_reads encode_name Bytes bytes_after (name_back d.edition n) k2 s.names in
    let first = after_from sheet 0 s.head.size in
    let groups = groups_in_place sheet n out sheet' w s.groups 1 (omega arith) (omega arith) first in
    let head : encode_head (replaced out d) ≡ encode_head d = unfold encode_head in rw (replaced_length out 1 d.groups) in
    rw (head, ← append-nil (flat_map encode_claim d.claims), claims, names, groups) (head_in_place sheet n out sheet' w d s)

pub written_over_law : (sheet : List ℕ) → Bytes sheet → (d : Records) → read_sheet sheet ≡ read d → (out : List ℕ)
    → EndsWithin (sheet_of d.groups) out → encode_sheet (replaced out d) ≡ written_over out sheet (length d.groups)
unfolding encode_sheet
written_over_law sheet k d e out b =
    let n = length d.groups in
    let long : group_bytes * suc n ≤ length sheet =
    rw (← (readable_is_encoded sheet k d e).0) (simp length-append (omega (arith, length_head d, length_groups d.groups))) in
    in_place sheet k d e out (written_over out sheet n) (over_all sheet out k n long (fields_within d.groups out b))
