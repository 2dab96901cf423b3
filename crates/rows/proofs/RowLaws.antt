-- The row decoder's answers, and the reading of rows, row by row, in terms of them.
use Prim.Native.Nat.{ℕ, ◌+◌, ◌*◌, zero, suc, ◌<◌, ◌-◌, ◌/◌, ◌%◌, ◌≤◌}
use mathlib.Core.Path.{◌≡◌, refl, sym, ◌∙◌}
use mathlib.Core.Bool.{true, false, Bool, cond, not, ◌&&◌}
use mathlib.Core.List.{List, [], ◌∷◌, ◌++◌, append-nil, append_assoc}
use lib.ListN.{length, take, drop, length-append, length-take, length-drop, get_or-eq_default}
use lib.Dec.{leb, ltb, eqb}
use native.Mathlib.Omega.{arith}
use native.Mathlib.Nat.{add-zero}
use native.Mathlib.Numerals.{add-one}
use borrow.Author.Tests.{le-leb, lt-leb, eq-eqb, ne_eqb, eqb-true, eqb-false, leb-true, ltb-true, not-true, lt-ltb, le-ltb}
use lib.Seq.{get_or-take, get_or-drop, drop-drop}
use Rattle.std.specs.Prelude.{Option, None, Some, Result, Ok, Err}
use Rattle.wire.specs.declared.refusals.Refusal.{Refusal}
use Rattle.std.specs.Option.{is_some}
use Rattle.rows.specs.declared.decode.RowFound.{RowFound}
use Rattle.rows.specs.declared.sides.Side.{Side}
use Rattle.rows.specs.Sides.{SideMet}
use Rattle.laws.proofs.Cases.{split, and_true, compare_eq}
use Rattle.laws.proofs.Digits.{digit_of_zero}
use Rattle.wire.specs.Limits.{row_limit}
use Rattle.wire.specs.Edition.{Edition, row_bytes, row_head, group_limit, membership_bytes, row_kind, row_length}
use Rattle.wire.specs.Member.{side_number, is_side, side_of, Member, precedes, one_member}
use Rattle.wire.specs.Bytes.{u16_at, u32_at}
use Rattle.wire.specs.Record.{after, Test, Reading, read, refused, onward, refusal}
use Rattle.wire.specs.RegisterFormat.{Row, in_group, clear_above, side_field, member_of, row_of, last_member, row_tests, read_rows, read_register}
use Rattle.wire.specs.Encoding.{Bytes}
use Rattle.wire.specs.MemberKey.{key_member}
use Rattle.wire.proofs.EditionFacts.{group_bits, row_parts, groups_many, row_length_fits}
use Rattle.wire.proofs.Passing.{Pass, refusal_zero, passed, pass_take, refusal_take}
use Rattle.wire.proofs.Many.{Reads, stop, go}
use Rattle.wire.proofs.Facts.{u16_most}
use Rattle.wire.proofs.Fields.{u16_drop, u32_drop, u32_halves}
use Rattle.wire.proofs.RoundTripRegister.{tests_after, register_read}
use Rattle.wire.proofs.MemberKeyLaws.{key_of_member, precedes_by_key, one_by_key}
use Rattle.wire.proofs.RowFacts.{last_member_behind, clear_some, clear_none}
use Rattle.rows.specs.RowsRead.{row_frame, Front, ended, held, turned, row_gives, row_held, front_tests, front_at, from_row, rows_before, bit_at, Above}
use Rattle.rows.specs.RowsRead.{RowsReadable, RowsThere}

-- whether a side was met
pub met_is : (n : ℕ) (o : Option Side) → SideMet n o → is_side n ≡ is_some o
met_is n None e = e
met_is n (Some s) e = e.0

-- the offset of the membership bytes of row i
abbrev pub bits_place : Edition → ℕ → ℕ
bits_place e i = row_bytes e * i + row_head

module _ (ed : Edition) where
  -- group g of the row at an offset is bit g - 1 of its membership bytes
  pub in_group_bit : (b : List ℕ) (at g : ℕ) → g ≤ group_limit ed
      → in_group (row_of ed (drop at b)) g ≡ eqb (bit_at b (at + row_head) (g - 1)) 1
  unfolding in_group row_of bit_at
  in_group_bit b at g m =
      let q : at + (row_head + (g - 1) / 8) ≡ at + row_head + (g - 1) / 8 = omega arith in
      rw (
        get_or-take (membership_bytes ed) (drop row_head (drop at b)) ((g - 1) / 8) 0 (omega (arith, group_bits ed, groups_many ed)),
        get_or-drop row_head (drop at b) ((g - 1) / 8) 0,
        get_or-drop at b (row_head + (g - 1) / 8) 0,
        q,
      )

  -- and it is in no group that the edition has not
  pub in_group_none : (b : List ℕ) (at g : ℕ) → group_limit ed < g → in_group (row_of ed (drop at b)) g ≡ false
  unfolding in_group row_of
  in_group_none b at g m =
      rw (
        get_or-eq_default (take (membership_bytes ed) (drop row_head (drop at b))) 0 {n = (g - 1) / 8} (simp length-take (omega (arith, group_bits ed))),
        digit_of_zero ((g - 1) % 8),
      )

  -- the test of the bits is the test of the row
  clear_bits : (b : List ℕ) (at groups : ℕ) (r : Bool) → Above groups 0 (group_limit ed) (bit_at b (at + row_head)) r
      → clear_above (row_of ed (drop at b)) groups (group_limit ed - groups) ≡ not r
  clear_bits b at groups true a =
      let j = a.some refl in
      clear_some (row_of ed (drop at b)) groups _ (j.0 - groups) (omega arith)
      (let e : groups + suc (j.0 - groups) ≡ suc j.0 = omega arith in
      let f : suc j.0 - 1 ≡ j.0 = omega arith in
      rw (e, in_group_bit b at (suc j.0) (omega arith), f, j.3) (eq-eqb 1 1 refl))
  clear_bits b at groups false a =
      clear_none (row_of ed (drop at b)) groups _ (λ k l.
      let f : groups + suc k - 1 ≡ groups + k = omega arith in
      rw (in_group_bit b at (groups + suc k) (omega arith), f, a.none refl (groups + k) (omega arith) (omega arith))
      (ne_eqb 0 1 (λ e. omega arith)))

  -- what 11 asks: a whole row is left, with its length and kind
  abbrev row_framed : List ℕ → Bool
  row_framed b = leb (row_bytes ed) (length b) && eqb (u16_at b 0) (row_length ed) && eqb (u16_at b 2) (row_kind ed)

  frame_of : (b : List ℕ) → row_framed b ≡ true → (row_bytes ed ≤ length b) × (u16_at b 0 ≡ row_length ed)
  frame_of b x =
      let s = and_true (leb (row_bytes ed) (length b) && eqb (u16_at b 0) (row_length ed)) (eqb (u16_at b 2) (row_kind ed)) x in
      let t = and_true (leb (row_bytes ed) (length b)) (eqb (u16_at b 0) (row_length ed)) s.0 in
      (leb-true _ _ t.0, eqb-true _ _ t.1)

  -- what the bytes from an offset on begin with, where a whole row is left
  frame_at : (b : List ℕ) (at : ℕ) → at + row_bytes ed ≤ length b
      → row_framed (drop at b) ≡ (eqb (u16_at b at) (row_length ed) && eqb (u16_at b (at + 2)) (row_kind ed))
  frame_at b at l =
      rw (
        le-leb (row_bytes ed) (length (drop at b)) (simp length-drop (omega arith)),
        u16_drop at b 0,
        u16_drop at b 2,
        add-zero at,
      )

  -- bytes are left at an offset
  some_at : (b : List ℕ) (at : ℕ) → at < length b → eqb (length (drop at b)) 0 ≡ false
  some_at b at l = ne_eqb (length (drop at b)) 0 (λ e. let z = rw length-drop at e in omega arith)

  -- what stands at an offset
  module _ (b : List ℕ) (at : ℕ) (last : Member) where
    -- the tests that the reader asks of a row there
    abbrev asked : List Test
    asked = front_tests ed last (drop at b)

    front_empty : length (drop at b) ≡ 0 → front_at ed b at last ≡ ended
    unfolding front_at
    front_empty e = rw (eq-eqb (length (drop at b)) 0 e)

    pub front_none : length b ≤ at → front_at ed b at last ≡ ended
    front_none l = front_empty (simp length-drop (omega arith))

    -- some bytes do
    module _ (some : eqb (length (drop at b)) 0 ≡ false) where
      front_asked : front_at ed b at last ≡ cond (eqb (refusal asked) 0) (row_held ed b at last) (turned (refusal asked))
      unfolding front_at
      front_asked = rw some

      front_passed : Pass asked → front_at ed b at last ≡ row_held ed b at last
      front_passed p = front_asked ∙ (rw (refusal_zero asked p))

      front_turned : (n : ℕ) → refusal asked ≡ n → 1 ≤ n → front_at ed b at last ≡ turned n
      front_turned n e l = front_asked ∙ (rw (e, ne_eqb n 0 (λ z. omega arith)))

    front_unframed : at < length b → row_framed (drop at b) ≡ false → front_at ed b at last ≡ turned 11
    unfolding row_tests refusal
    front_unframed l x = front_turned (some_at b at l) 11 (rw x) (omega arith)

    pub front_short : at < length b → length b < at + row_bytes ed → front_at ed b at last ≡ turned 11
    front_short k l = front_unframed k (rw (lt-leb (row_bytes ed) (length (drop at b)) (simp length-drop (omega arith))))

    pub front_frame : at + row_bytes ed ≤ length b → (u32_at b at ≡ row_frame ed → ⊥) → front_at ed b at last ≡ turned 11
    front_frame l n =
        front_unframed (omega arith)
        (frame_at b at l
        ∙ compare_eq (u16_at b at) (row_length ed)
        (λ x. compare_eq (u16_at b (at + 2)) (row_kind ed)
        (λ y. absurd (n (omega (arith, u32_halves b at))))
        (λ y. rw (eq-eqb (u16_at b at) (row_length ed) x, ne_eqb (u16_at b (at + 2)) (row_kind ed) y)))
        (λ x. rw (ne_eqb (u16_at b at) (row_length ed) x)))

    -- what an answer says of the bytes
    end_empty : ended ≡ front_at ed b at last → eqb (length (drop at b)) 0 ≡ true
    end_empty e =
        split (eqb (length (drop at b)) 0) (λ x. x)
        (λ x. let s = e ∙ front_asked x in
        absurd (split (eqb (refusal asked) 0)
        (λ y. let w = rw y at s in let z : ◌≡◌ {A = ℕ} 0 1 = cc in omega arith)
        (λ y. let w = rw y at s in let z : ◌≡◌ {A = ℕ} 0 1 = cc in omega arith)))

    not_empty : (f : Front) → f ≡ front_at ed b at last → (ended ≡ f → ⊥) → eqb (length (drop at b)) 0 ≡ false
    not_empty f e n =
        split (eqb (length (drop at b)) 0) (λ x. absurd (n (sym (front_empty (eqb-true (length (drop at b)) 0 x)) ∙ sym e))) (λ x. x)

    -- a row that was turned back is refused so, whatever the sheet
    turned_tests : (groups n : ℕ) → turned n ≡ front_at ed b at last
        → (eqb (length (drop at b)) 0 ≡ false) × (refusal (row_tests ed groups last (drop at b)) ≡ n) × (1 ≤ n)
    unfolding row_tests
    turned_tests groups n e =
        let o = not_empty (turned n) e (λ f. let z : ◌≡◌ {A = ℕ} 0 1 = cc in omega arith) in
        let s = e ∙ front_asked o in
        split (eqb (refusal asked) 0)
        (λ y. absurd (let w = rw y at s in let z : ◌≡◌ {A = ℕ} 0 1 = cc in omega arith))
        (λ y. let w = rw y at s in
        let m : n ≡ refusal asked = cc in
        let p = eqb-false (refusal asked) 0 y in
        (o, refusal_take 3 (row_tests ed groups last (drop at b)) p ∙ sym m, omega arith))

    -- a row that was found
    pub record Held (v : RowFound) : Type 0 where
      pub some : eqb (length (drop at b)) 0 ≡ false
      pub passes : Pass asked
      pub member : key_member v.key ≡ member_of (drop at b)
      pub bits : v.bits ≡ at + row_head
      pub next : v.next ≡ at + row_bytes ed

    pub held_frame : (v : RowFound) → row_gives (Ok (Some v)) ≡ front_at ed b at last → Held v
    unfolding row_tests
    held_frame v e =
        let o = not_empty (row_gives (Ok (Some v))) e (λ f. let z : ◌≡◌ {A = ℕ} 0 1 = cc in omega arith) in
        let s = e ∙ front_asked o in
        split (eqb (refusal asked) 0)
        (λ y. let w = rw y at s in
        record { some = o; passes = passed asked (omega arith) (eqb-true _ _ y); member = cc; bits = cc; next = cc })
        (λ y. absurd (let w = rw y at s in let z : ◌≡◌ {A = ℕ} 0 1 = cc in omega arith))

    -- its membership bytes are within the bytes
    pub held_within : (v : RowFound) → row_gives (Ok (Some v)) ≡ front_at ed b at last → v.bits + membership_bytes ed ≤ length b
    unfolding row_tests
    held_within v e =
        let w = held_frame v e in
        omega (arith, (frame_of (drop at b) w.passes.0).0, length-drop at b, w.bits, row_parts ed)

  -- the frame of the row at an offset is right, and its number and the number of its side are known
  pub record RowFields (b : List ℕ) (at number side : ℕ) : Type 0 where
    pub whole : at + row_bytes ed ≤ length b
    pub bytes : Bytes b
    pub frame : u32_at b at ≡ row_frame ed
    pub numbered : number ≡ u32_at b (at + 4)
    pub sided : side ≡ u16_at b (at + 8)

  module _ {b : List ℕ} {at number side : ℕ} (f : RowFields b at number side) where
    is_framed : row_framed (drop at b) ≡ true
    is_framed =
        let e = f.frame in
        let k = f.bytes in
        frame_at b at f.whole
        ∙ (rw (
          eq-eqb (u16_at b at) (row_length ed) (omega (arith, u32_halves b at, u16_most b k at, u16_most b k (at + 2), row_length_fits ed)),
          eq-eqb (u16_at b (at + 2)) (row_kind ed) (omega (arith, u32_halves b at, u16_most b k at, u16_most b k (at + 2), row_length_fits ed)),
        ))

    some_framed : eqb (length (drop at b)) 0 ≡ false
    some_framed = some_at b at (omega (arith, f.whole))

    side_at : side_field (drop at b) ≡ side
    side_at = u16_drop at b 8 ∙ sym f.sided

    member_at : member_of (drop at b) ≡ record { number = number; side = side_of side }
    unfolding member_of
    member_at = rw (u32_drop at b 4, side_at, ← f.numbered)

    pub front_no_side : (last : Member) → is_side side ≡ false → turned 15 ≡ front_at ed b at last
    unfolding row_tests refusal
    front_no_side last s = sym (front_turned b at last some_framed 15 (rw (is_framed, side_at, s)) (omega arith))

    -- its side is one of the two
    module _ (s : is_side side ≡ true) where
      pub front_nobody : (last : Member) → number ≡ 0 → turned 12 ≡ front_at ed b at last
      unfolding row_tests refusal
      front_nobody last z = sym (front_turned b at last some_framed 12 (rw (is_framed, side_at, s, member_at, z)) (omega arith))

      -- it names somebody, and its key and the key of the member before are known
      module _ (some : 0 < number) (key before : ℕ) (k : key_member key ≡ record { number = number; side = side_of side }) where
        falls_by_key : precedes (member_of (drop at b)) (key_member before) ≡ ltb key before
        falls_by_key = rw (member_at, ← k) (precedes_by_key (key_member key) (key_member before) ∙ (rw (key_of_member key, key_of_member before)))

        joined_by_key : one_member (member_of (drop at b)) (key_member before) ≡ eqb key before
        joined_by_key = rw (member_at, ← k) (one_by_key (key_member key) (key_member before) ∙ (rw (key_of_member key, key_of_member before)))

        somebody : ltb 0 (member_of (drop at b)).number ≡ true
        somebody = rw member_at (lt-ltb 0 number some)

        pub front_row : before ≤ key → front_at ed b at (key_member before) ≡ held (key_member key) (eqb key before) (at + row_head) (at + row_bytes ed)
        unfolding row_tests
        front_row o =
            front_passed b at (key_member before) some_framed (is_framed, (rw (side_at, s), (rw (somebody, falls_by_key, le-ltb key before o), tt)))
            ∙ (rw (joined_by_key, member_at, k))

        pub front_falls : key < before → turned 12 ≡ front_at ed b at (key_member before)
        unfolding row_tests refusal
        front_falls o =
            sym (front_turned b at (key_member before) some_framed 12 (rw (is_framed, side_at, s, somebody, falls_by_key, lt-ltb key before o)) (omega arith))

  -- one step of the reading
  step_end : (groups left : ℕ) (rs : List Row) (b : List ℕ) → eqb (length b) 0 ≡ true → read_rows ed groups (suc left) rs b ≡ read rs
  unfolding read_rows
  step_end groups left rs b x = rw x

  step_refused : (groups left n : ℕ) (rs : List Row) (b : List ℕ) → eqb (length b) 0 ≡ false
      → refusal (row_tests ed groups (last_member rs) b) ≡ n → 1 ≤ n
      → read_rows ed groups (suc left) rs b ≡ refused n (length rs + 1)
  unfolding read_rows onward
  step_refused groups left n rs b x y l = rw (x, y, ne_eqb n 0 (λ z. omega arith))

  step_on : (groups left : ℕ) (rs : List Row) (b : List ℕ) → eqb (length b) 0 ≡ false
      → refusal (row_tests ed groups (last_member rs) b) ≡ 0
      → read_rows ed groups (suc left) rs b ≡ read_rows ed groups left (rs ++ (row_of ed b ∷ [])) (drop (row_bytes ed) b)
  unfolding read_rows onward
  step_on groups left rs b x y = rw (x, y)

  tests_rest : (groups : ℕ) (last : Member) (b : List ℕ) (r : Bool) → Pass (front_tests ed last b)
      → clear_above (row_of ed b) groups (group_limit ed - groups) ≡ not r → refusal (row_tests ed groups last b) ≡ cond r 13 0
  unfolding row_tests refusal
  tests_rest groups last b true p c = rw (p.0, p.1.0, p.1.1.0, c)
  tests_rest groups last b false p c = rw (p.0, p.1.0, p.1.1.0, c)

  -- the rows read so far
  pub length_rows_before : (b : List ℕ) (n : ℕ) → length (rows_before ed b n) ≡ n
  unfolding rows_before
  length_rows_before b zero = refl
  length_rows_before b (suc n) = simp (length-append, length_rows_before b n) (omega arith)

  pub last_row : (b : List ℕ) (i : ℕ) → last_member (rows_before ed b (i + 1)) ≡ member_of (from_row ed b i)
  unfolding rows_before row_of
  last_row b i = rw (add-one i) (last_member_behind (rows_before ed b i) (row_of ed (from_row ed b i)))

  -- the reading that is left after `row` rows
  unfoldable pub going : ℕ → List ℕ → ℕ → Reading (List Row)
  going groups b row = read_rows ed groups (row_limit - row) (rows_before ed b row) (from_row ed b row)

  pub going_start : (groups : ℕ) (b : List ℕ) → read_register ed groups b ≡ going groups b 0
  unfolding going read_register rows_before
  going_start groups b = let z : row_bytes ed * 0 ≡ 0 = omega arith in rw z

  pub last_start : (b : List ℕ) → key_member 0 ≡ last_member (rows_before ed b 0)
  unfolding rows_before last_member key_member side_of side_number
  last_start b = refl

  module _ (groups : ℕ) (b : List ℕ) (row : ℕ) (l : row < row_limit) where
    abbrev offset : ℕ
    offset = row_bytes ed * row

    -- the member before
    abbrev before : Member
    before = last_member (rows_before ed b row)

    more : row_limit - row ≡ suc (row_limit - (row + 1))
    more = omega arith

    pub going_end : ended ≡ front_at ed b offset before → going groups b row ≡ read (rows_before ed b row)
    unfolding going
    going_end e =
        rw more (step_end groups (row_limit - (row + 1)) (rows_before ed b row) (from_row ed b row) (end_empty b offset before e))

    going_turned : (n : ℕ) → eqb (length (from_row ed b row)) 0 ≡ false → refusal (row_tests ed groups before (from_row ed b row)) ≡ n → 1 ≤ n
        → going groups b row ≡ refused n (row + 1)
    unfolding going
    going_turned n x y p =
        rw more (step_refused groups (row_limit - (row + 1)) n (rows_before ed b row) (from_row ed b row) x y p
        ∙ (rw (length_rows_before b row)))

    pub going_refused : (n : ℕ) → turned n ≡ front_at ed b offset before → going groups b row ≡ refused n (row + 1)
    going_refused n e = let w = turned_tests b offset before groups n e in going_turned n w.0 w.1 w.2

    module _ (v : RowFound) (e : row_gives (Ok (Some v)) ≡ front_at ed b offset before) where
      is_row : Held b offset before v
      is_row = held_frame b offset before v e

      tests_are : (r : Bool) → Above groups 0 (group_limit ed) (bit_at b v.bits) r
          → refusal (row_tests ed groups before (from_row ed b row)) ≡ cond r 13 0
      tests_are r a =
          tests_rest groups before (from_row ed b row) r is_row.passes
          (clear_bits b offset groups r (rw is_row.bits at a))

      pub going_bits : Above groups 0 (group_limit ed) (bit_at b v.bits) true → going groups b row ≡ refused 13 (row + 1)
      going_bits a = going_turned 13 is_row.some (tests_are true a) (omega arith)

      pub going_on : Above groups 0 (group_limit ed) (bit_at b v.bits) false → going groups b row ≡ going groups b (row + 1)
      unfolding going rows_before
      going_on a =
          let s : row + 1 ≡ suc row = omega arith in
          let d : row_bytes ed * row + row_bytes ed ≡ row_bytes ed * suc row = omega arith in
          rw more
          (step_on groups (row_limit - (row + 1)) (rows_before ed b row) (from_row ed b row) is_row.some (tests_are false a)
          ∙ (rw (drop-drop (row_bytes ed) (row_bytes ed * row) b, s, d)))

  -- no more rows are left
  step_full : (groups : ℕ) (rs : List Row) (b : List ℕ) → length b ≡ 0 → read_rows ed groups 0 rs b ≡ read rs
  unfolding read_rows onward refusal
  step_full groups rs b e = rw (eq-eqb (length b) 0 e)

  step_over : (groups : ℕ) (rs : List Row) (b : List ℕ) → (length b ≡ 0 → ⊥) → read_rows ed groups 0 rs b ≡ refused 10 (length rs + 1)
  unfolding read_rows onward refusal
  step_over groups rs b e = rw (ne_eqb (length b) 0 e)

  pub going_full : (groups : ℕ) (b : List ℕ) → length b ≤ row_bytes ed * row_limit
      → going groups b row_limit ≡ read (rows_before ed b row_limit)
  unfolding going
  going_full groups b l = step_full groups (rows_before ed b row_limit) (from_row ed b row_limit)
      (length-drop (row_bytes ed * row_limit) b ∙ omega arith)

  pub going_over : (groups : ℕ) (b : List ℕ) → row_bytes ed * row_limit < length b → going groups b row_limit ≡ refused 10 (row_limit + 1)
  unfolding going
  going_over groups b l =
      step_over groups (rows_before ed b row_limit) (from_row ed b row_limit)
      (λ e. let z = rw (length-drop (row_bytes ed * row_limit) b) at e in omega arith)
      ∙ (rw (length_rows_before b row_limit))

  -- the first of the rows, and the others
  rows_first : (b : List ℕ) (i : ℕ) → rows_before ed b (suc i) ≡ row_of ed b ∷ rows_before ed (drop (row_bytes ed) b) i
  unfolding rows_before
  rows_first b zero = let z : row_bytes ed * 0 ≡ 0 = omega arith in rw z
  rows_first b (suc i) =
      let d : row_bytes ed + row_bytes ed * i ≡ row_bytes ed * suc i = omega arith in
      rw (rows_first b i, drop-drop (row_bytes ed * i) (row_bytes ed) b, d)

  -- each row that was read passes behind the rows before it
  reads_passed : (groups : ℕ) {rs ys : List Row} {b c : List ℕ}
      → Reads (tests_after ed groups) (row_of ed) rs b ys c → (i : ℕ) → i < length ys
      → Pass (front_tests ed (last_member (rs ++ rows_before ed b i)) (from_row ed b i))
  unfolding row_tests after
  reads_passed groups stop i l = absurd (omega arith)
  reads_passed groups (go {xs} {b} p rest) zero l =
      let e : row_bytes ed * 0 ≡ 0 = omega arith in
      let n : xs ++ rows_before ed b 0 ≡ xs = unfold rows_before in append-nil xs in
      rw (e, n) (pass_take 3 (tests_after ed groups xs b) p)
  reads_passed groups (go {xs} {b} p rest) (suc i) l =
      let e : row_bytes ed * suc i ≡ row_bytes ed + row_bytes ed * i = omega arith in
      let f : u16_at b 0 + 2 ≡ row_bytes ed = omega (arith, (frame_of b p.0).1) in
      rw (e, ← drop-drop (row_bytes ed * i) (row_bytes ed) b, rows_first b i)
      (rw (f, append_assoc xs (row_of ed b ∷ []) (rows_before ed (drop (row_bytes ed) b) i)) at (reads_passed groups rest i (omega arith)))

  module _ (groups : ℕ) (b : List ℕ) (n : ℕ) (h : read (rows_before ed b n) ≡ read_register ed groups b) where
    pub rows_most : n ≤ row_limit
    rows_most = rw (length_rows_before b n) at (register_read ed groups b (rows_before ed b n) (sym h)).row_count

    row_passed : (i : ℕ) → i < n → Pass (front_tests ed (last_member (rows_before ed b i)) (from_row ed b i))
    row_passed i l = reads_passed groups (register_read ed groups b (rows_before ed b n) (sym h)).rows i (rw (length_rows_before b n) l)

    -- each row stands at its offset
    pub rows_there : RowsThere ed b n
    unfolding row_tests
    rows_there =
        record {
          each = λ i l.
              let x = row_passed i l in
              record { whole = omega (arith, (frame_of (from_row ed b i) x.0).0, length-drop (row_bytes ed * i) b); sided = x.1.0 };
        }

    -- and behind the row before it
    pub rows_readable : RowsReadable ed b n
    unfolding row_tests
    rows_readable =
        record {
          each = λ i l.
              let x = row_passed i l in
              front_passed b (row_bytes ed * i) (last_member (rows_before ed b i))
              (ne_eqb (length (from_row ed b i)) 0 (λ z. omega (arith, (frame_of (from_row ed b i) x.0).0))) x;
        }

  -- row i, as the reader hands it up
  pub record Stands (b : List ℕ) (i : ℕ) (v : RowFound) : Type 0 where
    pub joined : v.joined ≡ one_member (row_of ed (from_row ed b i)).member (last_member (rows_before ed b i))
    pub bits : v.bits ≡ bits_place ed i
    pub next : v.next ≡ row_bytes ed * (i + 1)
    pub last : key_member v.key ≡ last_member (rows_before ed b (i + 1))
    pub some : 0 < (row_of ed (from_row ed b i)).member.number
    pub follows : precedes (row_of ed (from_row ed b i)).member (last_member (rows_before ed b i)) ≡ false

  -- what the reader hands up at the offset of a row that is known to be readable: that row, and no end or refusal
  module _ {b : List ℕ} {n i at : ℕ} {last : Member} (r : RowsReadable ed b n) (l : i < n) (e : at ≡ row_bytes ed * i)
      (k : last ≡ last_member (rows_before ed b i)) where
    stands : front_at ed b at last ≡ row_held ed b (row_bytes ed * i) (last_member (rows_before ed b i))
    stands = rw (e, k) (r.each i l)

    pub row_stands : (v : RowFound) → row_gives (Ok (Some v)) ≡ front_at ed b at last → Stands b i v
    unfolding row_of row_tests
    row_stands v f =
        let z = f ∙ stands in
        let o = rw (e, k) at (held_frame b at last v f).passes.1.1.0 in
        let w = and_true (ltb 0 (member_of (from_row ed b i)).number) (not (precedes (member_of (from_row ed b i)) (last_member (rows_before ed b i)))) o in
        let next : v.next ≡ row_bytes ed * i + row_bytes ed = cc in
        let member : key_member v.key ≡ member_of (from_row ed b i) = cc in
        record {
          joined = cc;
          bits = cc;
          next = omega arith;
          last = member ∙ sym (last_row b i);
          some = ltb-true 0 (member_of (from_row ed b i)).number w.0;
          follows = not-true (precedes (member_of (from_row ed b i)) (last_member (rows_before ed b i))) w.1;
        }

    pub row_known : (r : Result (Option RowFound) Refusal) → row_gives r ≡ front_at ed b at last → (v : RowFound) × (r ≡ Ok (Some v))
    row_known (Ok (Some v)) f = (v, refl)
    row_known (Ok None) f = let z = f ∙ stands in absurd (let o : ◌≡◌ {A = ℕ} 0 1 = cc in omega arith)
    row_known (Err e) f = let z = f ∙ stands in absurd (let o : ◌≡◌ {A = ℕ} 0 1 = cc in omega arith)
