-- A row goes into a tile word by word; a tile goes into the columns 64 groups at a time, or member by member.
use Prim.Native.Nat.{ℕ, ◌+◌, ◌-◌, ◌*◌, ◌/◌, ◌%◌, ◌^◌, ◌≤◌, ◌<◌, max}
use mathlib.Core.Path.{◌≡◌}
use mathlib.Core.Bool.{cond}
use mathlib.Core.List.{List}
use native.Mathlib.Omega.{arith}
use borrow.Author.Tests.{le-leb, lt-leb, eq-eqb, ne_eqb, le-ltb, lt-ltb}
use lib.ListN.{length, get_or, set}
use lib.Seq.{get_or-set_same, get_or-set_other}
use lib.Dec.{eqb, ltb}
use lib.Bits.{bit_or}
use Rattle.laws.specs.Digit.{digit}
use Rattle.laws.proofs.Cases.{compare_le, compare_eq, split}
use Rattle.laws.proofs.Digits.{digit_or, digit_beyond, digit_of_zero}
use Rattle.wire.specs.Capacity.{group_capacity}
use Rattle.rows.specs.RowsRead.{word_bits, WordAt}
use Rattle.bit_matrix.specs.Matrix.{Transposed}
use Rattle.columns.specs.Columns.{column_digit}
use Rattle.columns.specs.ColumnSteps.{ColumnPut, MembersPut, of_word, Cleared}
use Rattle.columns.proofs.PutLaws.{put_none, put_then, put_as}
use Rattle.tiles.specs.TileSteps.{tile_digit, WordPut, MemberPut, first_bits, word_bit, next_groups, ColumnsPut, first_groups, of_member, GroupsPut}
use Rattle.tiles.specs.TileSteps.{TilePut, RoomMade}

-- a word of a member is put into a tile
pub word_put : (t : List ℕ) (k m word : ℕ) → word < 2 ^ 64 → word_bits * (k + 1) ≤ group_capacity → m < word_bits → group_capacity ≤ length t
    → WordPut word (word_bits * k) m t (set t (word_bits * k + m) (bit_or (get_or t (word_bits * k + m) 0) word))
unfolding tile_digit
word_put t k m word z a b c =
    record {
      put = record {
        each = λ g i x y l.
            compare_eq (word_bits * ((g - 1) / word_bits) + i) (word_bits * k + m)
            (λ e. let s : i ≡ m = omega arith in
            let q : (g - 1) % word_bits ≡ g - 1 - word_bits * k = omega arith in
            rw (
              e,
              get_or-set_same t (word_bits * k + m) (bit_or (get_or t (word_bits * k + m) 0) word) 0 (omega arith),
              eq-eqb i m s,
              le-leb
                  (word_bits * k + 1) g (omega arith),
              q,
            )
            (digit_or (get_or t (word_bits * k + m) 0) word (g - 1 - word_bits * k)))
            (λ e. rw (get_or-set_other t (word_bits * k + m) (word_bits * ((g - 1) / word_bits) + i) (bit_or (get_or t (word_bits * k + m) 0) word) 0 e)
            (compare_eq i m
            (λ s. rw (eq-eqb i m s)
            (compare_le (word_bits * k + 1) g
            (λ o. rw (le-leb (word_bits * k + 1) g o) (omega (arith, digit_beyond 64 word (g - 1 - word_bits * k) z (omega arith))))
            (λ o. rw (lt-leb (word_bits * k + 1) g o) (omega arith))))
            (λ s. rw (ne_eqb i m s) (omega arith))));
      };
    }

-- the first k words of a row are put
pub bits_none : (b : List ℕ) (offset m : ℕ) (t : List ℕ) → MemberPut (first_bits b offset 0) m t t
bits_none b offset m t =
    record { put = put_none (tile_digit t) (λ g i. rw (le-ltb (g - 1) (word_bits * 0) (omega arith)) (split (eqb i m) (λ e. rw e) (λ e. rw e))) }

pub bits_more : {b : List ℕ} {offset k m word : ℕ} {t u v : List ℕ} → MemberPut (first_bits b offset k) m t u → WordAt b offset k word
    → word < 2 ^ 64 → WordPut word (word_bits * k) m u v → MemberPut (first_bits b offset (k + 1)) m t v
bits_more {b} {offset} {k} {m} {word} p w l q =
    record { put = put_then p.put q.put (λ g i x y o. split (eqb i m) (λ e. rw e (step g x)) (λ e. rw e (omega arith))) }
  where
    step : (g : ℕ) → 1 ≤ g → max (first_bits b offset k g) (word_bit word (word_bits * k) g) ≡ first_bits b offset (k + 1) g
    step g x =
        compare_le (word_bits * k + 1) g
        (λ o. compare_le (word_bits * (k + 1)) (g - 1)
        (λ z. rw (le-leb (word_bits * k + 1) g o, le-ltb (g - 1) (word_bits * k) (omega arith), le-ltb (g - 1) (word_bits * (k + 1)) z)
        (omega (arith, digit_beyond 64 word (g - 1 - word_bits * k) l (omega arith))))
        (λ z. let e : word_bits * k + (g - 1 - word_bits * k) ≡ g - 1 = omega arith in
        let d = rw e at (w.each (g - 1 - word_bits * k) (omega arith)) in
        rw (le-leb (word_bits * k + 1) g o, le-ltb (g - 1) (word_bits * k) (omega arith), lt-ltb (g - 1) (word_bits * (k + 1)) z, d)
        (omega arith)))
        (λ o. rw (lt-leb (word_bits * k + 1) g o, lt-ltb (g - 1) (word_bits * k) (omega arith), lt-ltb (g - 1) (word_bits * (k + 1)) (omega arith))
        (omega arith))

-- the words of the next n groups are put, word w of their columns
pub columns_put_none : (l : List ℕ) (before w : ℕ) (t : List ℕ) → ColumnsPut l before 0 w t t
unfolding next_groups
columns_put_none l before w t =
    record {
      put = put_none (column_digit t) (λ g i. split (eqb (i / word_bits) w)
          (λ e. rw e
          (compare_le (before + 1) g
          (λ o. rw (le-leb (before + 1) g o, lt-leb g (before + 0) (omega arith)))
          (λ o. rw (lt-leb (before + 1) g o))))
          (λ e. rw e));
    }

pub columns_put_more : (l : List ℕ) (before n : ℕ) {w : ℕ} {t u v : List ℕ} → ColumnsPut l before n w t u
    → ColumnPut (before + n + 1) w (get_or l n 0) u v → ColumnsPut l before (n + 1) w t v
unfolding next_groups
columns_put_more l before n {w} p q =
    record { put = put_then p.put q.put (λ g i x y o. split (eqb (i / word_bits) w) (λ e. rw e (step g (i % word_bits))) (λ e. rw e (omega arith))) }
  where
    step : (g j : ℕ) → max (next_groups l before n g j) (cond (eqb g (before + n + 1)) (digit (get_or l n 0) j) 0) ≡ next_groups l before (n + 1) g j
    step g j =
        compare_le (before + 1) g
        (λ o. compare_eq g (before + n + 1)
        (λ e. let at : g - 1 - before ≡ n = omega arith in
        rw (eq-eqb g (before + n + 1) e, le-leb (before + 1) g o, lt-leb g (before + n) (omega arith), le-leb g (before + (n + 1)) (omega arith), at)
        (omega arith))
        (λ e. compare_le g (before + n)
        (λ z. rw (ne_eqb g (before + n + 1) e, le-leb (before + 1) g o, le-leb g (before + n) z, le-leb g (before + (n + 1)) (omega arith)) (omega arith))
        (λ z. rw (ne_eqb g (before + n + 1) e, le-leb (before + 1) g o, lt-leb g (before + n) z, lt-leb g (before + (n + 1)) (omega arith)) (omega arith))))
        (λ o. rw (ne_eqb g (before + n + 1) (λ e. omega arith), lt-leb (before + 1) g o) (omega arith))

-- the groups of the first k words of a tile are put, word w of their columns
pub tile_put_none : (t : List ℕ) (w : ℕ) (c : List ℕ) → MembersPut (first_groups t 0) w c c
unfolding first_groups
tile_put_none t w c =
    record {
      put = put_none (column_digit c) (λ g i. rw (le-ltb (g - 1) (word_bits * 0) (omega arith))
          (split (eqb (i / word_bits) w) (λ e. rw e) (λ e. rw e)));
    }

pub tile_put_more : (t : List ℕ) {l : List ℕ} (k : ℕ) {w : ℕ} {c d e : List ℕ} → MembersPut (first_groups t k) w c d
    → Transposed t (word_bits * k) l
    → ColumnsPut l (word_bits * k) word_bits w d e → MembersPut (first_groups t (k + 1)) w c e
unfolding first_groups next_groups tile_digit
tile_put_more t {l} k {w} p x q =
    record {
      put = put_then p.put q.put (λ g i a b o. split (eqb (i / word_bits) w) (λ e. rw e (step g (i % word_bits) a (omega arith)))
          (λ e. rw e (omega arith)));
    }
  where
    step : (g j : ℕ) → 1 ≤ g → j < word_bits → max (first_groups t k g j) (next_groups l (word_bits * k) word_bits g j) ≡ first_groups t (k + 1) g j
    step g j a o =
        compare_le (word_bits * k + 1) g
        (λ y. compare_le g (word_bits * k + word_bits)
        (λ z. let q : (g - 1) / word_bits ≡ k = omega arith in
        let r : (g - 1) % word_bits ≡ g - 1 - word_bits * k = omega arith in
        rw (
          le-leb (word_bits * k + 1) g y,
          le-leb g (word_bits * k + word_bits) z,
          le-ltb (g - 1) (word_bits * k) (omega arith),
          lt-ltb (g - 1)
              (word_bits * (k + 1)) (omega arith),
          q,
          r,
          x.each (g - 1 - word_bits * k) j (omega arith) o,
        )
        (omega arith))
        (λ z. rw (
          le-leb (word_bits * k + 1) g y,
          lt-leb g (word_bits * k + word_bits) z,
          le-ltb (g - 1) (word_bits * k) (omega arith),
          le-ltb (g - 1)
              (word_bits * (k + 1)) (omega arith),
        )
        (omega arith)))
        (λ y. rw (lt-leb (word_bits * k + 1) g y, lt-ltb (g - 1) (word_bits * k) (omega arith), lt-ltb (g - 1) (word_bits * (k + 1)) (omega arith)) (omega arith))

-- for the groups of its first k words they are the tile's
pub first_groups_law : (t : List ℕ) (k w g i : ℕ) → 1 ≤ g → g ≤ word_bits * k → of_word w (first_groups t k) g i ≡ of_word w (tile_digit t) g i
unfolding first_groups
first_groups_law t k w g i a b = rw (lt-ltb (g - 1) (word_bits * k) (omega arith))

-- the groups of the first k words of one member of a tile are put
abbrev pub MemberGroups : List ℕ → ℕ → ℕ → ℕ → List ℕ → List ℕ → Type 0
MemberGroups t k w m = MembersPut (of_member m (λ g. first_groups t k g m)) w

pub member_none : (t : List ℕ) (w m : ℕ) (c : List ℕ) → MemberGroups t 0 w m c c
unfolding first_groups
member_none t w m c =
    record {
      put = put_none (column_digit c) (λ g i. rw (le-ltb (g - 1) (word_bits * 0) (omega arith)) (split (eqb (i / word_bits) w)
          (λ e. rw e (split (eqb (i % word_bits) m) (λ x. rw x) (λ x. rw x))) (λ e. rw e)));
    }

pub member_more : (t : List ℕ) (k m : ℕ) {w word : ℕ} {c d e : List ℕ} → MemberGroups t k w m c d → word ≡ get_or t (word_bits * k + m) 0
    → word < 2 ^ 64
    → GroupsPut word (word_bits * k) w m d e → MemberGroups t (k + 1) w m c e
unfolding first_groups tile_digit
member_more t k m {w} {word} p x z q =
    record {
      put = put_then p.put q.put (λ g i a b o. split (eqb (i / word_bits) w)
          (λ e. rw e (split (eqb (i % word_bits) m) (λ x. rw x (step g a)) (λ x. rw x (omega arith)))) (λ e. rw e (omega arith)));
    }
  where
    step : (g : ℕ) → 1 ≤ g → max (first_groups t k g m) (word_bit word (word_bits * k) g) ≡ first_groups t (k + 1) g m
    step g a =
        compare_le (word_bits * k + 1) g
        (λ y. compare_le (word_bits * (k + 1)) (g - 1)
        (λ o. rw (le-leb (word_bits * k + 1) g y, le-ltb (g - 1) (word_bits * k) (omega arith), le-ltb (g - 1) (word_bits * (k + 1)) o)
        (omega (arith, digit_beyond 64 word (g - 1 - word_bits * k) z (omega arith))))
        (λ o. let q : (g - 1) / word_bits ≡ k = omega arith in
        let r : (g - 1) % word_bits ≡ g - 1 - word_bits * k = omega arith in
        rw (le-leb (word_bits * k + 1) g y, le-ltb (g - 1) (word_bits * k) (omega arith), lt-ltb (g - 1) (word_bits * (k + 1)) o, q, r, x)
        (omega arith)))
        (λ y. rw (lt-leb (word_bits * k + 1) g y, lt-ltb (g - 1) (word_bits * k) (omega arith), lt-ltb (g - 1) (word_bits * (k + 1)) (omega arith)) (omega arith))

-- the groups of the first m members of a tile are put
abbrev pub FirstMembers : List ℕ → ℕ → ℕ → ℕ → List ℕ → List ℕ → Type 0
FirstMembers t k m w = MembersPut (λ g j. cond (ltb j m) (first_groups t k g j) 0) w

pub members_none : (t : List ℕ) (k w : ℕ) (c : List ℕ) → FirstMembers t k 0 w c c
members_none t k w c =
    record { put = put_none (column_digit c) (λ g i. rw (le-ltb (i % word_bits) 0 (omega arith)) (split (eqb (i / word_bits) w) (λ e. rw e) (λ e. rw e))) }

pub members_more : (t : List ℕ) (k m : ℕ) {w : ℕ} {c d e : List ℕ} → FirstMembers t k m w c d → MemberGroups t k w m d e
    → FirstMembers t k (m + 1) w c e
members_more t k m {w} p q =
    record { put = put_then p.put q.put (λ g i a b o. split (eqb (i / word_bits) w) (λ e. rw e (step g (i % word_bits))) (λ e. rw e (omega arith))) }
  where
    step : (g j : ℕ) → max (cond (ltb j m) (first_groups t k g j) 0) (cond (eqb j m) (first_groups t k g m) 0)
        ≡ cond (ltb j (m + 1)) (first_groups t k g j) 0
    step g j =
        compare_eq j m
        (λ e. rw (eq-eqb j m e, le-ltb j m (omega arith), lt-ltb j (m + 1) (omega arith), e) (omega arith))
        (λ e. compare_le m j
        (λ o. rw (ne_eqb j m e, le-ltb j m o, le-ltb j (m + 1) (omega arith)) (omega arith))
        (λ o. rw (ne_eqb j m e, lt-ltb j m o, lt-ltb j (m + 1) (omega arith)) (omega arith)))

pub members_all : (t : List ℕ) (k : ℕ) {w : ℕ} {c d : List ℕ} → FirstMembers t k word_bits w c d → MembersPut (first_groups t k) w c d
members_all t k {w} p =
    record { put = put_as (λ g i a b l. rw (lt-ltb (i % word_bits) word_bits (omega arith))) p.put }

-- an empty tile
cleared_tile : {t : List ℕ} → Cleared group_capacity t → (g i : ℕ) → 1 ≤ g → g ≤ group_capacity → i < word_bits → tile_digit t g i ≡ 0
unfolding tile_digit
cleared_tile {t} c g i a b l = rw (c.each (word_bits * ((g - 1) / word_bits) + i) (omega arith)) (digit_of_zero ((g - 1) % word_bits))

pub cleared_of : {t : List ℕ} (w : ℕ) → Cleared group_capacity t → (g i : ℕ) → 1 ≤ g → g ≤ group_capacity → of_word w (tile_digit t) g i ≡ 0
cleared_of {t} w c g i a b = split (eqb (i / word_bits) w) (λ e. rw e (cleared_tile c g (i % word_bits) a b (omega arith))) (λ e. rw e)

-- a tile that is full is put, and the next one is begun
pub room_made : {words members w : ℕ} {c t d u : List ℕ} → word_bits * words ≤ group_capacity → TilePut t words w c d → Cleared group_capacity u
    → members ≡ word_bits * w + word_bits + 1 → RoomMade words members c t w d u (w + 1)
room_made {words} {members} {w} {c} {t} {d} {u} z p x e =
    record {
      same = λ g i a b l.
          rw (cleared_of (w + 1) x g i a (omega arith), ← first_groups_law t words w g i a b) (let y = p.put.each g i a (omega arith) l in omega arith);
      begun = omega arith;
      within = omega arith;
    }
