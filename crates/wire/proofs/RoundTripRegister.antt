-- A register is read back from its encoding, and every readable register is the encoding of its rows; the numbers of a refusal.
use Prim.Native.Nat.{ℕ, ◌+◌, ◌≤◌, zero, suc, ◌-◌}
use mathlib.Core.Path.{◌≡◌, refl, sym, ap, ◌∙◌}
use mathlib.Core.Bool.{true, not, ◌&&◌}
use mathlib.Core.List.{List, [], ◌∷◌, ◌++◌, append_assoc, append-nil, flat_map}
use native.Mathlib.Omega.{arith}
use lib.ListN.{length, take, drop, length-take, length-drop, take-append-drop}
use lib.Seq.{drop-drop, take_at, drop_at}
use lib.Dec.{eqb, leb, ltb}
use borrow.Author.Tests.{leb-true, ltb-true, eqb-true, not-true, le-leb, lt-ltb, eq-eqb, ne_eqb}
use Rattle.laws.proofs.Cases.{split, and_true}
use Rattle.wire.specs.Limits.{row_limit, no_end}
use Rattle.wire.specs.Edition.{Edition, row_kind, row_bytes, membership_bytes, row_length, row_head}
use Rattle.wire.specs.Member.{side_number, is_side, precedes}
use Rattle.wire.specs.Bytes.{u16_at, le16}
use Rattle.wire.specs.Record.{test, length_of, kind_of, Test, refusal, after, read}
use Rattle.wire.specs.RegisterFormat.{Row, last_member, row_tests, row_of, side_field, member_of, read_rows, read_register}
use Rattle.wire.specs.Encoding.{Bytes, Each, RowRight, none, more, RowFits, RowsWithin, encode_record, member_bytes, encode_row, encode_register}
use Rattle.wire.proofs.EditionFacts.{row_parts, row_kind_fits, row_length_fits}
use Rattle.wire.proofs.Passing.{Nonzero, Pass, onward_passed, onward_read, Positive, onward_positive}
use Rattle.wire.proofs.Many.{Reads, stop, go, reads_same, empty_of_length, each_both, each_read, encode_reads}
use Rattle.wire.proofs.Facts.{bytes_drop, bytes_after}
use Rattle.wire.proofs.Fields.{encode_read, length_encoded, kind_encoded, length_record}
use Rattle.wire.proofs.MemberFacts.{is_side_law, member_size, member_skipped, side_read, member_back, member_bytes_law, member_fits}

last_nonzero : (b : List ℕ) → Nonzero (test 10 (eqb (length b) 0) ∷ [])
last_nonzero b = omega arith

-- the frame of a row
record RowFrame (e : Edition) (b : List ℕ) : Type 0 where
  pub whole : row_bytes e ≤ length b
  pub size : length_of b + 2 ≡ row_bytes e
  pub kind : kind_of b ≡ row_kind e

pub bytes_take : (n : ℕ) (b : List ℕ) → Bytes b → Bytes (take n b)
bytes_take zero b k i = omega arith
bytes_take (suc n) [] k i = omega arith
bytes_take (suc n) (x ∷ b) k zero = k zero
bytes_take (suc n) (x ∷ b) k (suc i) = bytes_take n b (λ j. k (suc j)) i

-- the tests of a row after the rows rs
abbrev pub tests_after : Edition → ℕ → List Row → List ℕ → List Test
tests_after e groups rs = row_tests e groups (last_member rs)

-- the rows of a readable register, whatever the numbers of its bytes
pub record RowsRead (e : Edition) (groups : ℕ) (b : List ℕ) (rs : List Row) : Type 0 where
  pub row_count : length rs ≤ row_limit
  pub rows : Reads (tests_after e groups) (row_of e) [] b rs []
  pub right : Each (RowRight e groups) [] rs

module _ (e : Edition) (groups : ℕ) where
  row_nonzero : (rs : List Row) (b : List ℕ) → Nonzero (tests_after e groups rs b)
  unfolding row_tests
  row_nonzero rs b = omega arith

  -- a row that passes: its frame, what it has, and its bytes
  row_frame_law : (rs : List Row) (b : List ℕ) → Pass (tests_after e groups rs b) → RowFrame e b
  unfolding row_tests
  row_frame_law rs b p =
      let s = and_true (leb (row_bytes e) (length b) && eqb (u16_at b 0) (row_length e)) (eqb (u16_at b 2) (row_kind e)) p.0 in
      let t = and_true (leb (row_bytes e) (length b)) (eqb (u16_at b 0) (row_length e)) s.0 in
      let size = eqb-true (u16_at b 0) (row_length e) t.1 in
      record { whole = leb-true _ _ t.0; size = omega arith; kind = eqb-true _ _ s.1 }

  row_sided : (rs : List Row) (b : List ℕ) → Pass (tests_after e groups rs b) → is_side (side_field b) ≡ true
  unfolding row_tests
  row_sided rs b p = p.1.0

  after_row : (rs : List Row) (b : List ℕ) → Pass (tests_after e groups rs b) → drop (row_bytes e) b ≡ after b
  unfolding after
  after_row rs b p = rw (row_frame_law rs b p).size

  row_right : (rs : List Row) (b : List ℕ) → Pass (tests_after e groups rs b) → RowRight e groups rs (row_of e b)
  unfolding row_tests
  row_right rs b p =
      let f = row_frame_law rs b p in
      let order = and_true (ltb 0 (member_of b).number) (not (precedes (member_of b) (last_member rs))) p.1.1.0 in
      record {
        someone = unfold row_of in ltb-true _ _ order.0;
        follows = unfold row_of in not-true (precedes (member_of b) (last_member rs)) order.1;
        width = unfold row_of in simp (length-take, length-drop) (omega (arith, row_parts e));
        clear = p.1.1.1.0;
      }

  row_fits : (rs : List Row) (b : List ℕ) → Bytes b → Pass (tests_after e groups rs b) → RowFits (row_of e b)
  unfolding row_of
  row_fits rs b k p =
      record {
        member = member_fits b k;
        bytes = bytes_take (membership_bytes e) (drop row_head b) (bytes_drop row_head b k);
      }

  row_encoded : (rs : List Row) (b : List ℕ) → Bytes b → Pass (tests_after e groups rs b)
      → encode_row e (row_of e b) ++ after b ≡ b
  unfolding encode_row row_of
  row_encoded rs b k p =
      let f = row_frame_law rs b p in
      let bits = take (membership_bytes e) (drop row_head b) in
      let tail : take (membership_bytes e) (drop row_head b) ++ after b ≡ drop row_head b =
      rw (← after_row rs b p, row_parts e, ← drop-drop (membership_bytes e) row_head b) (take-append-drop (membership_bytes e) (drop row_head b)) in
      rw (← f.kind)
      (encode_read b k (omega (arith, row_parts e)) (member_bytes (member_of b) ++ take (membership_bytes e) (drop row_head b))
      (rw (append_assoc, tail) (member_bytes_law b k (omega (arith, row_parts e)) (row_sided rs b p)))
      (omega (arith, row_parts e, member_size (member_of b) bits, length-take (membership_bytes e) (drop row_head b), length-drop row_head b)))

  -- an encoded row that is right passes, and is read with what follows it
  module _ (rs : List Row) (r : Row) (c : List ℕ) (R : RowRight e groups rs r) (F : RowFits r) where
    row_size : length (member_bytes r.member ++ r.bits) ≡ row_head - 4 + membership_bytes e
    row_size = omega (arith, member_size r.member r.bits, R.width)

    -- the length field
    abbrev size : ℕ
    size = length (member_bytes r.member ++ r.bits) + 2

    row_bytes_law : encode_row e r ++ c ≡ (le16 size ++ le16 (row_kind e)) ++ (member_bytes r.member ++ (r.bits ++ c))
    unfolding encode_row encode_record
    row_bytes_law = simp append_assoc

    row_back : row_of e (encode_row e r ++ c) ≡ r
    unfolding row_of
    row_back =
        rw (
          row_bytes_law,
          member_back size (row_kind e) r.member (r.bits ++ c) F.member,
          member_skipped size (row_kind e) r.member (r.bits ++ c),
          take_at r.bits c (membership_bytes e) R.width,
        )

    row_skipped : drop (row_bytes e) (encode_row e r ++ c) ≡ c
    row_skipped =
        rw (row_parts e, ← drop-drop (membership_bytes e) row_head (encode_row e r ++ c)) (
        rw (row_bytes_law, member_skipped size (row_kind e) r.member (r.bits ++ c)) (drop_at r.bits c (membership_bytes e) R.width))

    row_begins : (row_bytes e ≤ length (encode_row e r ++ c)) × (length_of (encode_row e r ++ c) ≡ row_length e)
        × (kind_of (encode_row e r ++ c) ≡ row_kind e)
    unfolding encode_row
    row_begins =
        let body = member_bytes r.member ++ r.bits in
        let kind = row_kind_fits e in
        let fits : length body + 2 ≤ no_end = omega (arith, row_size, row_parts e, row_length_fits e) in (
          omega (arith, row_size, row_parts e, length_record (row_kind e) body c kind fits),
          omega (arith, row_size, row_parts e, length_encoded (row_kind e) body c kind fits),
          kind_encoded (row_kind e) body c kind fits,
        )

    row_passes : Pass (tests_after e groups rs (encode_row e r ++ c))
    unfolding row_tests
    row_passes =
        let s = row_begins in
        let member : member_of (encode_row e r ++ c) ≡ r.member = unfold row_of in ap (λ q. q.member) row_back in
        let side : side_field (encode_row e r ++ c) ≡ side_number r.member.side =
        rw row_bytes_law (side_read size (row_kind e) r.member (r.bits ++ c)) in (
          rw (le-leb _ _ s.0, eq-eqb _ _ s.1, eq-eqb _ _ s.2),
          (
            rw (side, is_side_law r.member.side),
            (rw (member, lt-ltb 0 r.member.number R.someone, R.follows), (rw row_back R.clear, tt)),
          ),
        )

  -- the rows that reading took: at most `left`, behind rs, and qs in all
  abbrev RowsFrom : ℕ → List Row → List ℕ → List Row → Type 0
  RowsFrom left rs b qs =
      (ys : List Row) × (rs ++ ys ≡ qs) × (length ys ≤ left) × Reads (tests_after e groups) (row_of e) rs b ys []

  rows_end : (left : ℕ) (rs : List Row) (b : List ℕ) (qs : List Row) → read rs ≡ read qs → length b ≡ 0
      → RowsFrom left rs b qs
  rows_end left rs b qs x l = ([], append-nil rs ∙ (cc), omega arith, reads_same refl (empty_of_length b l) stop)

  rows_more : (left : ℕ) (rs : List Row) (b : List ℕ) (qs : List Row) → Pass (tests_after e groups rs b)
      → RowsFrom left (rs ++ (row_of e b ∷ [])) (after b) qs → RowsFrom (suc left) rs b qs
  rows_more left rs b qs p m =
      (row_of e b ∷ m.0, sym (append_assoc rs (row_of e b ∷ []) m.0) ∙ m.1, omega (arith, m.2), go p m.3)

  rows_read : (left : ℕ) (rs : List Row) (b : List ℕ) (qs : List Row) → read_rows e groups left rs b ≡ read qs
      → RowsFrom left rs b qs
  unfolding read_rows
  rows_read zero rs b qs x =
      let s = onward_read (test 10 (eqb (length b) 0) ∷ []) (last_nonzero b) _ _ qs x in
      rows_end zero rs b qs s.1 (eqb-true _ _ s.0.0)
  rows_read (suc left) rs b qs x =
      split (eqb (length b) 0) (λ t. rows_end (suc left) rs b qs (rw t at x) (eqb-true _ _ t))
      (λ t.
      let s = onward_read (tests_after e groups rs b) (row_nonzero rs b) _ _ qs (rw t at x) in
      rows_more left rs b qs s.0
      (rows_read left (rs ++ (row_of e b ∷ [])) (after b) qs (rw (after_row rs b s.0) at s.1)))

  -- no register is refused with the number 0
  rows_positive : (left : ℕ) (rs : List Row) (b : List ℕ) → Positive (read_rows e groups left rs b)
  unfolding read_rows
  rows_positive zero rs b = onward_positive (refusal (test 10 (eqb (length b) 0) ∷ [])) (length rs + 1) (read rs) tt
  rows_positive (suc left) rs b =
      split (eqb (length b) 0) (λ t. rw t tt)
      (λ t. rw t (onward_positive (refusal (tests_after e groups rs b)) (length rs + 1) _ (rows_positive left _ (drop (row_bytes e) b))))

  pub register_positive : (b : List ℕ) → Positive (read_register e groups b)
  unfolding read_register
  register_positive b = rows_positive row_limit [] b

  rows_encoded : (left : ℕ) {rs ys : List Row} → Each (λ us y. RowRight e groups us y × RowFits y) rs ys → length ys ≤ left
      → read_rows e groups left rs (flat_map (encode_row e) ys) ≡ read (rs ++ ys)
  unfolding read_rows flat_map
  rows_encoded zero none l = rw append-nil (onward_passed (test 10 true ∷ []) _ _ (refl, tt))
  rows_encoded (suc left) none l = rw append-nil
  rows_encoded zero (more p m) l = absurd (omega arith)
  rows_encoded (suc left) (more {xs} {ys} {y} p m) l =
      let c = flat_map (encode_row e) ys in
      let s = row_begins xs y c p.0 p.1 in
      let v = row_back xs y c p.0 p.1 in
      let k = row_skipped xs y c p.0 p.1 in
      rw (ne_eqb (length (encode_row e y ++ c)) 0 (omega arith))
      (onward_passed _ _ _ (row_passes xs y c p.0 p.1)
      ∙ rw (v, k, rows_encoded left m (omega arith), append_assoc))

  -- The written register loses nothing.
  pub read_encoded_register : (rs : List Row) → RowsWithin e groups rs
      → read_register e groups (encode_register e rs) ≡ read rs
  unfolding read_register encode_register
  read_encoded_register rs w = rows_encoded row_limit (each_both w.right w.fits) w.row_count

  pub register_read : (b : List ℕ) (rs : List Row) → read_register e groups b ≡ read rs → RowsRead e groups b rs
  unfolding read_register
  register_read b rs x =
      let m = rows_read row_limit [] b rs x in
      let rows = reads_same m.1 refl m.3 in
      record {
        row_count = rw (← m.1) m.2;
        rows = rows;
        right = each_read (λ c. Unit {0}) (λ c k. tt) (λ xs c k. row_right xs c) tt rows;
      }

  pub readable_register_is_encoded : (b : List ℕ) → Bytes b → (rs : List Row) → read_register e groups b ≡ read rs
      → (encode_register e rs ≡ b) × RowsWithin e groups rs
  unfolding encode_register
  readable_register_is_encoded b k rs x =
      let s = register_read b rs x in (
        sym (append-nil (flat_map (encode_row e) rs)) ∙ encode_reads (encode_row e) Bytes bytes_after row_encoded k s.rows,
        record { row_count = s.row_count; right = s.right; fits = each_read Bytes bytes_after row_fits k s.rows },
      )
