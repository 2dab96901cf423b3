-- The groups of a word are put into the columns one by one, the lowest first.
use Prim.Native.Nat.{ℕ, ◌/◌, ◌%◌, ◌^◌, ◌+◌, ◌-◌, ◌≤◌, max, zero, suc, ◌<◌}
use mathlib.Core.Path.{◌≡◌, sym, refl}
use mathlib.Core.Bool.{cond}
use mathlib.Core.List.{List}
use native.Mathlib.Omega.{arith}
use borrow.Author.Tests.{eq-eqb, ne_eqb, le-leb, lt-leb}
use lib.Dec.{eqb}
use lib.Bits.{bit_and}
use lib.Count.{ones}
use Rattle.laws.specs.Sum.{bit}
use Rattle.laws.specs.Digit.{digit}
use Rattle.laws.proofs.Cases.{compare_eq, split, compare_le}
use Rattle.laws.proofs.Digits.{digit_pow, digit_le, digit_of_zero, lowest, ones_of_zero}
use Rattle.rows.specs.RowsRead.{word_bits}
use Rattle.columns.specs.Columns.{column_digit}
use Rattle.columns.specs.ColumnSteps.{ColumnPut, MembersPut}
use Rattle.columns.proofs.PutLaws.{put_as, put_none, put_then}
use Rattle.tiles.specs.TileSteps.{GroupPut, word_bit, of_member, LowestGroup, GroupsPut}

-- one digit of word w of a group's column is put
pub group_put : (h m : ℕ) {w : ℕ} {t u : List ℕ} → ColumnPut h w (2 ^ m) t u → GroupPut h w m t u
group_put h m {w} p = record { put = put_as (λ g i a b l. split (eqb (i / word_bits) w) (λ e. rw e (step g (i % word_bits))) (λ e. rw e)) p.put }
  where
    step : (g j : ℕ) → cond (eqb g h) (digit (2 ^ m) j) 0 ≡ cond (eqb j m) (bit (eqb g h)) 0
    step g j =
        rw (digit_pow m j)
        (compare_eq j m
        (λ e. rw (eq-eqb j m e, eq-eqb m j (sym e)) (split (eqb g h) (λ x. rw x) (λ x. rw x)))
        (λ e. rw (ne_eqb j m e, ne_eqb m j (λ o. e (sym o))) (split (eqb g h) (λ x. rw x) (λ x. rw x))))

-- the bits of a word
word_bit_le : (word before g : ℕ) → word_bit word before g ≤ 1
word_bit_le word before g =
    compare_le (before + 1) g
    (λ l. rw (le-leb (before + 1) g l) (digit_le word (g - 1 - before)))
    (λ l. rw (lt-leb (before + 1) g l) (omega arith))

word_bit_zero : (before g : ℕ) → word_bit 0 before g ≡ 0
word_bit_zero before g =
    compare_le (before + 1) g
    (λ l. rw (le-leb (before + 1) g l) (digit_of_zero (g - 1 - before)))
    (λ l. rw (lt-leb (before + 1) g l))

-- of a word the groups that are not left are put
pub record GroupsTaken (word before w m : ℕ) (t : List ℕ) (left : ℕ) (u : List ℕ) : Type 0 where
  pub within : (g : ℕ) → word_bit left before g ≤ word_bit word before g
  pub put : MembersPut (of_member m (λ g. word_bit word before g - word_bit left before g)) w t u

pub groups_none_taken : (word before w m : ℕ) (t : List ℕ) → GroupsTaken word before w m t word t
groups_none_taken word before w m t =
    record {
      within = λ g. omega arith;
      put = record {
        put = put_none (column_digit t) (λ g i. split (eqb (i / word_bits) w)
            (λ e. rw e (split (eqb (i % word_bits) m) (λ x. rw x (omega arith)) (λ x. rw x))) (λ e. rw e));
      };
    }

module _ {before left g : ℕ} (w : LowestGroup before left g) where
  lowest_bit : word_bit left before g ≡ 1
  lowest_bit =
      let e : g - 1 - before ≡ w.low_bit = omega arith in
      rw (le-leb (before + 1) g (omega arith), e) w.lowest.set

  rest_bit : word_bit (bit_and left (left - 1)) before g ≡ 0
  rest_bit =
      let e : g - 1 - before ≡ w.low_bit = omega arith in
      rw (le-leb (before + 1) g (omega arith), e) w.lowest.cleared

  other_bits : (h : ℕ) → (h ≡ g → ⊥) → word_bit (bit_and left (left - 1)) before h ≡ word_bit left before h
  other_bits h n =
      compare_le (before + 1) h
      (λ l. rw (le-leb (before + 1) h l) (w.lowest.others (h - 1 - before) (λ e. n (omega arith))))
      (λ l. rw (lt-leb (before + 1) h l))

  -- the lowest group is put, and no longer left
  pub groups_more_taken : {word v m : ℕ} {t u x : List ℕ} → GroupsTaken word before v m t left u → GroupPut g v m u x
      → GroupsTaken word before v m t (bit_and left (left - 1)) x
  groups_more_taken {word} {v} {m} k p =
      record {
        within = λ h.
            compare_eq h g
            (λ e. rw (e, rest_bit) (omega arith))
            (λ e. rw (other_bits h e) (k.within h));
        put = record {
          put = put_then k.put.put p.put (λ h i a b l. split (eqb (i / word_bits) v)
              (λ e. rw e (split (eqb (i % word_bits) m) (λ x. rw x (step h)) (λ x. rw x (omega arith))))
              (λ e. rw e (omega arith)));
        };
      }
    where
      step : (h : ℕ) → max (word_bit word before h - word_bit left before h) (bit (eqb h g))
          ≡ word_bit word before h - word_bit (bit_and left (left - 1)) before h
      step h =
          compare_eq h g
          (λ e. rw (e, eq-eqb g g refl, lowest_bit, rest_bit)
          (let z = rw (e, lowest_bit) at (k.within h) in omega (arith, word_bit_le word before g)))
          (λ e. rw (ne_eqb h g e, other_bits h e) (omega arith))

-- where nothing is left, the word is put
pub groups_all_taken : {word before w m : ℕ} {t u : List ℕ} → GroupsTaken word before w m t 0 u → GroupsPut word before w m t u
groups_all_taken {word} {before} {w} {m} k =
    record {
      put = put_as (λ g i a b l. split (eqb (i / word_bits) w)
          (λ e. rw e (split (eqb (i % word_bits) m) (λ x. rw (x, word_bit_zero before g) (omega arith)) (λ x. rw x)))
          (λ e. rw e)) k.put.put;
    }

-- a word with a one is not 0, and one without is 0
pub ones_left : (m : ℕ) → 0 < ones m → 0 < m
ones_left zero l = absurd (omega (arith, ones_of_zero))
ones_left (suc m) l = omega arith

pub no_ones_left : (m : ℕ) → m < 2 ^ 64 → ones m ≡ 0 → m ≡ 0
no_ones_left m l e = compare_eq m 0 (λ z. z) (λ z. absurd (omega (arith, (lowest 64 m (omega arith) l).1.fewer)))
