-- The digits of columns and tile are those of the members of the rows so far.
use Prim.Native.Nat.{ℕ, ◌≤◌, ◌<◌, ◌+◌, ◌-◌, ◌*◌, ◌/◌, ◌%◌}
use mathlib.Core.Path.{◌≡◌, ◌∙◌, refl, sym}
use mathlib.Core.Bool.{Bool, true, false, cond}
use mathlib.Core.List.{List, [], ◌∷◌, ◌++◌}
use lib.ListN.{length, get_or, length-append}
use native.Mathlib.Omega.{arith}
use native.Mathlib.Numerals.{add-one}
use borrow.Author.Tests.{eq-eqb, ne_eqb, le-ltb, lt-ltb}
use Rattle.rows.specs.declared.decode.RowFound.{RowFound}
use Rattle.laws.specs.Sum.{bit}
use Rattle.laws.proofs.Cases.{compare_eq, compare_le, split}
use Rattle.laws.proofs.Digits.{digit_of_zero, digit_le}
use Rattle.wire.specs.Limits.{row_limit}
use Rattle.wire.specs.Edition.{Edition, group_limit, row_bytes}
use Rattle.wire.specs.Capacity.{group_capacity}
use Rattle.wire.specs.Member.{precedes}
use Rattle.wire.specs.RegisterFormat.{Row, row_of, in_group, last_member}
use Rattle.wire.proofs.MemberKeyLaws.{one_same, rises_or_one}
use Rattle.meaning.specs.OfRecords.{members}
use Rattle.meaning.specs.MemberIn.{member_in}
use Rattle.meaning.proofs.ReadableRows.{members_few, Ordered, ordered_after, members_joined, members_new, joined_in, new_in, ordered_none}
use Rattle.rows.specs.RowsRead.{word_bits, rows_before, row_words, from_row, bit_at}
use Rattle.rows.proofs.RowBits.{words_groups}
use Rattle.rows.proofs.RowLaws.{length_rows_before, bits_place, in_group_bit, in_group_none, Stands}
use Rattle.columns.specs.Columns.{ColumnsFilled, column_digit, column_words}
use Rattle.columns.specs.ColumnSteps.{Put, Empty, Cleared}
use Rattle.columns.proofs.ColumnLaws.{digit_bit}
use Rattle.tiles.specs.TileSteps.{all_digits, of_member, MemberPut, RoomMade, TilePut, first_bits, RowPut}
use Rattle.tiles.proofs.TileLaws.{first_groups_law, cleared_of}

-- the columns and the tile have a digit for each of the n members of the rows, in the groups of all its rows, and no others
pub record TilesFilled (groups : ℕ) (rs : List Row) (n : ℕ) (c t : List ℕ) (w : ℕ) : Type 0 where
  pub number : n ≡ length (members rs)
  pub each : (g i : ℕ) → 1 ≤ g → g ≤ groups → i < row_limit → all_digits c t w g i ≡ bit (member_in rs i g)

-- a row of member m is put into the tile that has it
member_put : (f : ℕ → ℕ) (m w : ℕ) {t u : List ℕ} (c : List ℕ) → word_bits * w ≤ m → m < word_bits * w + word_bits
    → MemberPut f (m - word_bits * w) t u → Put row_limit (of_member m f) (all_digits c t w) (all_digits c u w)
member_put f m w c a b p =
    record {
      each = λ g i x y l.
          compare_eq (i / word_bits) w
          (λ e. let z = p.put.each g (i % word_bits) x y (omega arith) in
          rw (eq-eqb (i / word_bits) w e, z)
          (compare_eq i m
          (λ s. rw (eq-eqb i m s, eq-eqb (i % word_bits) (m - word_bits * w) (omega arith)) (omega arith))
          (λ s. rw (ne_eqb i m s, ne_eqb (i % word_bits) (m - word_bits * w) (λ o. s (omega arith))) (omega arith))))
          (λ e. rw (ne_eqb (i / word_bits) w e, ne_eqb i m (λ s. e (omega arith))) (omega arith));
    }

-- the digits stay the members' where room is made, and where the last tile is put
filled_room : {rs : List Row} {words n w v m : ℕ} {c t d u : List ℕ} → TilesFilled (word_bits * words) rs n c t w → RoomMade words m c t w d u v
    → TilesFilled (word_bits * words) rs n d u v
filled_room f r = record { number = f.number; each = λ g i a b l. r.same g i a b l ∙ f.each g i a b l }

pub filled_columns : (words : ℕ) {rs : List Row} {size n w : ℕ} {c t d : List ℕ} → size ≤ word_bits * words → word_bits * words ≤ group_capacity
    → TilesFilled (word_bits * words) rs n c t w → TilePut t words w c d → ColumnsFilled size rs n d
filled_columns words {w = w} {t = t} y z f p =
    record {
      number = f.number;
      each = λ g i a b l. p.put.each g i a (omega arith) l ∙ (rw (first_groups_law t words w g i a (omega arith)) (f.each g i a (omega arith) l));
    }

-- the columns of no row
filled_none : (groups : ℕ) → groups ≤ group_capacity → (ed : Edition) (b c t : List ℕ) (w : ℕ) → Empty c → Cleared group_capacity t
    → TilesFilled groups (rows_before ed b 0) 0 c t w
unfolding column_digit rows_before members
filled_none groups z ed b c t w e x =
    record {
      number = refl;
      each = λ g i a y l. rw (le-ltb i 0 (omega arith), e.each _, digit_of_zero (i % word_bits), cleared_of w x g i a (omega arith)) (omega arith);
    }

-- no more members than rows
pub members_within : (ed : Edition) (b : List ℕ) (row : ℕ) {n : ℕ} → n ≡ length (members (rows_before ed b row)) → n ≤ row
members_within ed b row e = omega (arith, members_few (rows_before ed b row), length_rows_before ed b row)

pub with_row_most : (joined : Bool) (n : ℕ) → cond joined n (n + 1) ≤ n + 1
with_row_most true n = omega arith
with_row_most false n = omega arith

-- a row more, v, behind rows that do not fall: it is joined to the row before, or its member is the next
module _ {ed : Edition} {b : List ℕ} {row : ℕ} {v : RowFound} (s : Stands ed b row v) (o : Ordered (rows_before ed b row)) where
  abbrev rs : List Row
  rs = rows_before ed b row

  abbrev r : Row
  r = row_of ed (from_row ed b row)

  rows_after : rows_before ed b (row + 1) ≡ rs ++ (r ∷ [])
  unfolding rows_before
  rows_after = rw (add-one row)

  -- the row's bits
  bit_of : (g : ℕ) → 1 ≤ g → bit (in_group r g) ≡ first_bits b v.bits (row_words ed) g
  unfolding bit_at
  bit_of g a =
      compare_le g (group_limit ed)
      (λ l. rw (lt-ltb (g - 1) (word_bits * row_words ed) (omega (arith, words_groups ed)), in_group_bit ed b (row_bytes ed * row) g l, s.bits)
      (digit_bit (bit_at b (bits_place ed row) (g - 1)) (digit_le (get_or b (bits_place ed row + (g - 1) / 8) 0) ((g - 1) % 8))))
      (λ l. rw (le-ltb (g - 1) (word_bits * row_words ed) (omega (arith, words_groups ed)), in_group_none ed b (row_bytes ed * row) g l))

  is_joined : v.joined ≡ true → last_member rs ≡ r.member
  is_joined e = sym (one_same r.member (last_member rs) (sym s.joined ∙ e))

  is_new : v.joined ≡ false → precedes (last_member rs) r.member ≡ true
  is_new e = rises_or_one (last_member rs) r.member s.follows (sym s.joined ∙ e)

  ordered_more : Ordered (rows_before ed b (row + 1))
  ordered_more = rw rows_after (ordered_after rs r o s.some s.follows)

  -- a member is there once a row is
  members_some : {n : ℕ} → n ≡ length (members rs) → 1 ≤ cond v.joined n (n + 1)
  members_some e =
      split v.joined (λ j. rw j (omega (arith, o.some (rw (is_joined j) s.some)))) (λ j. rw j (omega arith))

  filled_more : {groups n m w : ℕ} {c t u : List ℕ} → groups ≤ group_capacity → TilesFilled groups rs n c t w → m
      ≡ cond v.joined n (n + 1) → word_bits * w < m → m ≤ word_bits * w + word_bits
      → RowPut ed b v.bits (m - 1 - word_bits * w) t u → TilesFilled groups (rows_before ed b (row + 1)) m c u w
  filled_more {groups} {n} {m} {w} {c} z f e x y q =
      let p = member_put (first_bits b v.bits (row_words ed)) (m - 1) w c (omega arith) (omega arith) q in
      rw rows_after
      (split v.joined
      (λ j. let same : m ≡ length (members rs) = e ∙ (rw j f.number) in
      record {
        number = rw (members_joined rs r (is_joined j) s.some) same;
        each = λ g i x y l.
            p.each g i x (omega arith) l
            ∙ (rw (f.each g i x y l, same, ← bit_of g x) (sym (joined_in rs r o (is_joined j) s.some i g)));
      })
      (λ j. let more : m ≡ length (members rs) + 1 = e ∙ (rw (j, f.number)) in
      let index : length (members rs) + 1 - 1 ≡ length (members rs) = omega arith in
      record {
        number = rw (members_new rs r (is_new j), length-append (members rs) (r.member ∷ [])) more;
        each = λ g i x y l.
            p.each g i x (omega arith) l
            ∙ (rw (f.each g i x y l, more, index, ← bit_of g x) (sym (new_in rs r o (is_new j) i g)));
      }))

-- the rows before row `row` do not fall; their members are in the columns and in the tile, which has the last of them
pub record RowsPut (ed : Edition) (b : List ℕ) (words row n : ℕ) (c t : List ℕ) (w : ℕ) : Type 0 where
  pub ordered : Ordered (rows_before ed b row)
  pub within_groups : word_bits * words ≤ group_capacity
  pub filled : TilesFilled (word_bits * words) (rows_before ed b row) n c t w
  pub from : word_bits * w ≤ n
  pub begun : 1 ≤ n → word_bits * w < n
  pub within : n ≤ word_bits * w + word_bits

pub rows_put_none : (ed : Edition) (b : List ℕ) (words : ℕ) → word_bits * words ≤ group_capacity → (c t : List ℕ) → Empty c
    → Cleared group_capacity t → RowsPut ed b words 0 0 c t 0
unfolding rows_before
rows_put_none ed b words z c t e x =
    record {
      ordered = ordered_none;
      within_groups = z;
      filled = filled_none (word_bits * words) z ed b c t 0 e x;
      from = omega arith;
      begun = λ l. absurd (omega arith);
      within = omega arith;
    }

-- a column has a word for the tile
pub tiles_within : {ed : Edition} {b : List ℕ} {words row n w : ℕ} {c t : List ℕ} → RowsPut ed b words row n c t w → n ≤ row_limit
    → w < column_words
tiles_within {n = n} p l = compare_le 1 n (λ o. omega (arith, p.begun o)) (λ o. omega (arith, p.from))

-- room is wanted for the member of one row more, and with room the row is put
module _ {ed : Edition} {b : List ℕ} {row : ℕ} {v : RowFound} (s : Stands ed b row v) {words n m w : ℕ} {c t : List ℕ}
    (p : RowsPut ed b words row n c t w)
    (e : m ≡ cond v.joined n (n + 1)) where
  pub room_wanted : (word_bits * w < m) × (m ≤ word_bits * w + word_bits + 1)
  room_wanted =
      split v.joined
      (λ j. let z = rw j at e in let y = rw j at (members_some s p.ordered p.filled.number) in
      (omega (arith, p.begun (omega arith)), omega (arith, p.within)))
      (λ j. let z = rw j at e in (omega (arith, p.from), omega (arith, p.within)))

  pub rows_put_more : {x : ℕ} {d u u' : List ℕ} → RoomMade words m c t w d u x → RowPut ed b v.bits (m - 1 - word_bits * x) u u'
      → RowsPut ed b words (row + 1) m d u' x
  rows_put_more r q =
      record {
        ordered = ordered_more s p.ordered;
        within_groups = p.within_groups;
        filled = filled_more s p.ordered p.within_groups (filled_room p.filled r) e r.begun r.within q;
        from = omega (arith, r.begun);
        begun = λ l. r.begun;
        within = r.within;
      }
