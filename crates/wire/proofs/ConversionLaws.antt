-- Laws of a sheet and its registers in the other edition: what refuses a conversion, what it gives, and the way back.
use Prim.Native.Nat.{ℕ, zero, suc, ◌+◌, ◌-◌, ◌*◌, ◌/◌, ◌%◌, ◌≤◌, ◌<◌}
use mathlib.Core.Path.{◌≡◌, refl, sym, ap, ◌∙◌}
use mathlib.Core.Bool.{false}
use mathlib.Core.List.{List, [], ◌∷◌, ◌++◌, append-nil, flat_map, map, map-append}
use native.Mathlib.Omega.{arith}
use native.Mathlib.Nat.{add-zero}
use lib.ListN.{length, get_or, length-append, length-map, get_or-eq_default}
use lib.Seq.{sets}
use lib.Dec.{leb}
use borrow.Author.Tests.{le-leb, lt-leb, leb-true, eqb-false}
use Rattle.laws.specs.Digit.{digit}
use Rattle.laws.specs.Tabulate.{tabulate}
use Rattle.laws.proofs.Cases.{compare_le}
use Rattle.laws.proofs.Digits.{digit_of_zero, digit_some}
use Rattle.laws.proofs.TabulateLaws.{length_tabulate, get_d_tabulate, tabulate_same, tabulate_get_d}
use Rattle.wire.specs.Edition.{Edition, edition2, edition_number, group_limit, label_limit, membership_bytes, row_bytes}
use Rattle.wire.specs.Bytes.{le16}
use Rattle.wire.specs.Record.{test, refusal, Reading, read, refused, onward}
use Rattle.wire.specs.SheetFormat.{NameRecord, Records, read_sheet}
use Rattle.wire.specs.RegisterFormat.{Row, in_group, last_member}
use Rattle.wire.specs.Encoding.{Bytes, encode_record, encode_head, encode_sheet, encode_row, encode_register, Each, none, more}
use Rattle.wire.specs.Encoding.{Right, SheetWithin, RowRight, RowFits, RowsWithin}
use Rattle.wire.specs.Conversion.{in_edition, names_towards, towards, row_in, rows_in}
use Rattle.wire.proofs.EditionFacts.{row_parts, group_bits, second_most}
use Rattle.wire.proofs.Passing.{onward_passed, onward_read, Positive, onward_positive}
use Rattle.wire.proofs.Many.{each_both, each_so, each_map, each_at}
use Rattle.wire.proofs.Fields.{flat_append}
use Rattle.wire.proofs.MemberFacts.{member_size}
use Rattle.wire.proofs.RowFacts.{clear_at, clear_none}
use Rattle.wire.proofs.RoundTripSheet.{readable_is_encoded}

-- What refuses: the first label that is too long, and before it the groups.
pub names_short : (e : Edition) (r : ℕ) (ns : List NameRecord) (z : NameRecord) (next : Reading Records)
    → ((j : ℕ) → j < length ns → length (get_or ns j z).label ≤ label_limit e) → names_towards e r ns next ≡ next
unfolding names_towards
names_short e r [] z next h = refl
names_short e r (n ∷ ns) z next h =
    onward_passed (test 17 (leb (length n.label) (label_limit e)) ∷ []) r _ (le-leb _ _ (h 0 (omega arith)), tt)
    ∙ names_short e (r + 1) ns z next (λ j l. h (suc j) (omega arith))

pub names_long : (e : Edition) (r : ℕ) (ns : List NameRecord) (z : NameRecord) (next : Reading Records) (i : ℕ) → i < length ns
    → ((j : ℕ) → j < i → length (get_or ns j z).label ≤ label_limit e) → label_limit e < length (get_or ns i z).label
    → names_towards e r ns next ≡ refused 17 (r + i)
unfolding names_towards refusal onward
names_long e r [] z next i l h long = absurd (omega arith)
names_long e r (n ∷ ns) z next zero l h long = rw (lt-leb _ _ long, add-zero r)
names_long e r (n ∷ ns) z next (suc i) l h long =
    let same : r + 1 + i ≡ r + suc i = omega arith in
    rw (le-leb _ _ (h 0 (omega arith)))
    (names_long e (r + 1) ns z next i (omega arith) (λ j k. h (suc j) (omega arith)) long ∙ ap (refused 17) same)

pub towards_many : (e : Edition) (d : Records) → group_limit e < length d.groups → towards e d ≡ refused 16 0
unfolding towards refusal onward
towards_many e d l = rw (lt-leb _ _ l)

pub towards_few : (e : Edition) (d : Records) → length d.groups ≤ group_limit e
    → towards e d ≡ names_towards e (2 + length d.groups) d.names (read (in_edition e d))
unfolding towards
towards_few e d l = onward_passed (test 16 (leb (length d.groups) (group_limit e)) ∷ []) 0 _ (le-leb _ _ l, tt)

-- Which sheets go: those of few groups with short labels, and each as itself in edition e.
abbrev pub ShortLabels : Edition → List NameRecord → List NameRecord → Type 0
ShortLabels e = Each (λ before n. length n.label ≤ label_limit e)

pub record Goes (e : Edition) (d d' : Records) : Type 0 where
  pub same : d' ≡ in_edition e d
  pub groups : length d.groups ≤ group_limit e
  pub labels : ShortLabels e [] d.names

names_passed : (e : Edition) (r : ℕ) (before ns : List NameRecord) (next : Reading Records) (d : Records) → names_towards e r ns next ≡ read d
    → ShortLabels e before ns × (next ≡ read d)
unfolding names_towards
names_passed e r before [] next d x = (none, x)
names_passed e r before (n ∷ ns) next d x =
    let s = onward_read (test 17 (leb (length n.label) (label_limit e)) ∷ []) (omega arith) r _ d x in
    let t = names_passed e (r + 1) (before ++ (n ∷ [])) ns next d s.1 in
    (more (leb-true _ _ s.0.0) t.0, t.1)

pub towards_passed : (e : Edition) (d : Records) {d' : Records} → towards e d ≡ read d' → Goes e d d'
unfolding towards
towards_passed e d {d'} x =
    let s = onward_read (test 16 (leb (length d.groups) (group_limit e)) ∷ []) (omega arith) 0 _ d' x in
    let t = names_passed e (2 + length d.groups) [] d.names (read (in_edition e d)) d' s.1 in
    record { same = cc t.1; groups = leb-true _ _ s.0.0; labels = t.0 }

pub towards_goes : (e : Edition) (d : Records) → length d.groups ≤ group_limit e → ShortLabels e [] d.names
    → towards e d ≡ read (in_edition e d)
towards_goes e d l h =
    let z : NameRecord = record { group = 0; label = [] } in
    towards_few e d l ∙ names_short e (2 + length d.groups) d.names z _ (λ j k. each_at h j z k)

-- "both are met only towards edition 1"
pub towards_own : (d : Records) → Right d → towards d.edition d ≡ read d
towards_own d R = towards_goes d.edition d R.group_count (each_so (λ before n p. p.last) R.names)

pub towards_second : (d : Records) → Right d → towards edition2 d ≡ read (in_edition edition2 d)
towards_second d R =
    let m = second_most d.edition in
    towards_goes edition2 d (omega (arith, R.group_count)) (each_so (λ before n p. omega (arith, p.last)) R.names)

-- the way back is open, and gives the records again
pub towards_back : (e : Edition) (d : Records) {d' : Records} → Right d → towards e d ≡ read d' → towards d.edition d' ≡ read d
unfolding towards
towards_back e d R x = rw (towards_passed e d x).same (towards_own d R)

-- no refusal has the number 0
names_positive : (e : Edition) (r : ℕ) (ns : List NameRecord) (next : Reading Records) → Positive next → Positive (names_towards e r ns next)
unfolding names_towards
names_positive e r [] next p = p
names_positive e r (n ∷ ns) next p =
    onward_positive (refusal (test 17 (leb (length n.label) (label_limit e)) ∷ [])) r _ (names_positive e (r + 1) ns next p)

pub towards_positive : (e : Edition) (d : Records) → Positive (towards e d)
unfolding towards
towards_positive e d =
    onward_positive (refusal (test 16 (leb (length d.groups) (group_limit e)) ∷ [])) 0 _
    (names_positive e (2 + length d.groups) d.names _ tt)

-- what goes is within the limits, so that its bytes are readable
pub towards_within : (e : Edition) (d : Records) {d' : Records} → SheetWithin d → towards e d ≡ read d' → SheetWithin (in_edition e d)
towards_within e d w x =
    let g = towards_passed e d x in
    let R = w.right in
    record {
      right = record {
        some_group = R.some_group;
        group_count = g.groups;
        name_count = R.name_count;
        claim_count = R.claim_count;
        groups = R.groups;
        names = each_so (λ before n p. record {
          group = p.0.group;
          first = p.0.first;
          last = p.1;
          bytes = p.0.bytes;
          new = p.0.new;
        }) (each_both R.names g.labels);
        claims = R.claims;
      };
      group_ends = w.group_ends;
      claim_ends = w.claim_ends;
    }

-- What is written: the sheet with another number in bytes 4 and 5.
edition_set : (e : Edition) (d : Records) → encode_sheet (in_edition e d) ≡ sets (encode_sheet d) 4 (le16 (edition_number e))
unfolding encode_sheet encode_head encode_record flat_map le16
edition_set e d = refl

pub in_edition_written : (e : Edition) (b : List ℕ) → Bytes b → (d : Records) → read_sheet b ≡ read d
    → encode_sheet (in_edition e d) ≡ sets b 4 (le16 (edition_number e))
in_edition_written e b k d r =
    edition_set e d ∙ ap (λ (x : List ℕ). sets x 4 (le16 (edition_number e))) (readable_is_encoded b k d r).0

-- members are kept, the last row's too
last_in : (e : Edition) (rs : List Row) → last_member (rows_in e rs) ≡ last_member rs
unfolding last_member row_in
last_in e [] = refl
last_in e (r ∷ []) = refl
last_in e (r ∷ (q ∷ rs)) = last_in e (q ∷ rs)

-- Rows of edition e, each as long as its rows are.
module _ (e : Edition) where
  pub row_in_length : (r : Row) → length (encode_row e (row_in e r)) ≡ row_bytes e
  unfolding encode_row row_in encode_record le16
  row_in_length r =
      omega (
        arith,
        member_size r.member (row_in e r).bits,
        length_tabulate (λ i. get_or r.bits i 0) (membership_bytes e),
        row_parts e,
      )

  pub rows_in_length : (rs : List Row) → length (encode_register e (rows_in e rs)) ≡ row_bytes e * length rs
  unfolding encode_register flat_map
  rows_in_length [] = omega arith
  rows_in_length (r ∷ rs) =
      omega (arith, length-append (encode_row e (row_in e r)) (encode_register e (rows_in e rs)), row_in_length r, rows_in_length rs)

  pub encode_register_more : (rs : List Row) (r : Row)
      → encode_register e (rows_in e (rs ++ (r ∷ []))) ≡ encode_register e (rows_in e rs) ++ encode_row e (row_in e r)
  unfolding encode_register flat_map
  encode_register_more rs r =
      rw (map-append (row_in e) rs (r ∷ []), flat_append (encode_row e) (rows_in e rs) (row_in e r ∷ []), append-nil (encode_row e (row_in e r)))

  -- a row of edition e is itself there
  row_in_own : (r : Row) → length r.bits ≡ membership_bytes e → row_in e r ≡ r
  unfolding row_in
  row_in_own r width = ap (λ bits. record { member = r.member; bits = bits }) (rw (← width) (tabulate_get_d r.bits 0))

  rows_own : {groups : ℕ} {before rs : List Row} → Each (RowRight e groups) before rs → rows_in e rs ≡ rs
  rows_own none = refl
  rows_own (more {y = y} p m) = rw (row_in_own y p.width, rows_own m)

  pub rows_in_own : {groups : ℕ} {rs : List Row} → RowsWithin e groups rs → rows_in e rs ≡ rs
  rows_in_own w = rows_own w.right

  pub rows_in_members : (rs : List Row) → map (λ r. r.member) (rows_in e rs) ≡ map (λ r. r.member) rs
  unfolding row_in
  rows_in_members [] = refl
  rows_in_members (r ∷ rs) = rw (rows_in_members rs)

-- Rows that are right under a sheet of edition f whose groups edition e has keep all that they say.
module _ (e : Edition) {f : Edition} {groups : ℕ} (few : groups ≤ group_limit e) where
  module _ {before : List Row} {r : Row} (R : RowRight f groups before r) (F : RowFits r) where
    -- no bit above the groups is set, within the membership bytes and past them
    none_above : (g : ℕ) → groups < g → in_group r g ≡ false
    unfolding in_group
    none_above g l =
        compare_le g (group_limit f)
        (λ h. let same : groups + suc (g - groups - 1) ≡ g = omega arith in
        rw same at (clear_at r groups (group_limit f - groups) (g - groups - 1) R.clear (omega arith)))
        (λ h. let past : length r.bits ≤ (g - 1) / 8 = omega (arith, R.width, group_bits f) in
        rw (get_or-eq_default r.bits 0 past, digit_of_zero ((g - 1) % 8)))

    -- so that the bytes which edition e lacks are 0
    lacked_clear : (i : ℕ) → membership_bytes e ≤ i → get_or r.bits i 0 ≡ 0
    unfolding in_group
    lacked_clear i l =
        compare_le 1 (get_or r.bits i 0)
        (λ h.
        let w = digit_some 8 (get_or r.bits i 0) 0 (F.bytes i) (omega arith) in
        let byte : (8 * i + w.0 + 1 - 1) / 8 ≡ i = omega arith in
        let place : (8 * i + w.0 + 1 - 1) % 8 ≡ w.0 = omega arith in
        let clear = rw (byte, place) at (none_above (8 * i + w.0 + 1) (omega (arith, group_bits e))) in
        absurd (eqb-false (digit (get_or r.bits i 0) w.0) 1 clear w.3))
        (λ h. omega arith)

    pub bytes_kept : (i : ℕ) → get_or (row_in e r).bits i 0 ≡ get_or r.bits i 0
    unfolding row_in
    bytes_kept i =
        let kept : ℕ → ℕ = λ j. get_or r.bits j 0 in
        compare_le (membership_bytes e) i
        (λ h. get_or-eq_default (tabulate kept (membership_bytes e)) 0 (rw (length_tabulate kept (membership_bytes e)) h) ∙ sym (lacked_clear i h))
        (λ h. get_d_tabulate kept (membership_bytes e) i 0 h)

    pub groups_kept : (g : ℕ) → in_group (row_in e r) g ≡ in_group r g
    unfolding in_group
    groups_kept g = rw (bytes_kept ((g - 1) / 8))

    -- the row in edition e is right there, and in edition f again it is the row
    row_in_right : RowRight e groups (rows_in e before) (row_in e r)
    unfolding row_in
    row_in_right = record {
      someone = R.someone;
      follows = rw (last_in e before) R.follows;
      width = length_tabulate (λ i. get_or r.bits i 0) (membership_bytes e);
      clear = clear_none (row_in e r) groups (group_limit e - groups)
          (λ k l. groups_kept (groups + suc k) ∙ none_above (groups + suc k) (omega arith));
    }

    row_in_fits : RowFits (row_in e r)
    unfolding row_in
    row_in_fits = record { member = F.member; bytes = λ i. rw (bytes_kept i) (F.bytes i) }

    row_in_back : row_in f (row_in e r) ≡ r
    unfolding row_in
    row_in_back =
        ap (λ bits. record { member = r.member; bits = bits })
        (tabulate_same (λ i. get_or (row_in e r).bits i 0) (λ i. get_or r.bits i 0) (membership_bytes f) (λ i l. bytes_kept i))
        ∙ row_in_own f r R.width

  -- and so with all rows of a register
  pub rows_in_within : {rs : List Row} → RowsWithin f groups rs → RowsWithin e groups (rows_in e rs)
  rows_in_within {rs} w =
      let both = each_both w.right w.fits in
      record {
        row_count = rw (length-map rs (row_in e)) w.row_count;
        right = each_map (row_in e) (λ before r p. row_in_right p.0 p.1) both;
        fits = each_map (row_in e) (λ before r p. row_in_fits p.0 p.1) both;
      }

  rows_back : {before rs : List Row} → Each (λ us y. RowRight f groups us y × RowFits y) before rs → rows_in f (rows_in e rs) ≡ rs
  rows_back none = refl
  rows_back (more p m) = rw (row_in_back p.0 p.1, rows_back m)

  pub rows_in_back : {rs : List Row} → RowsWithin f groups rs → rows_in f (rows_in e rs) ≡ rs
  rows_in_back w = rows_back (each_both w.right w.fits)

  rows_groups : {before rs : List Row} → Each (λ us y. RowRight f groups us y × RowFits y) before rs → (g : ℕ)
      → map (λ r. in_group r g) (rows_in e rs) ≡ map (λ r. in_group r g) rs
  rows_groups none g = refl
  rows_groups (more p m) g = rw (groups_kept p.0 p.1 g, rows_groups m g)

  pub rows_in_groups : {rs : List Row} → RowsWithin f groups rs → (g : ℕ) → map (λ r. in_group r g) (rows_in e rs) ≡ map (λ r. in_group r g) rs
  rows_in_groups w = rows_groups (each_both w.right w.fits)
