-- The columns of a register that was read show the sets that its rows list; what a reading gives is what the check answers, and
-- the ones of the columns are the counts.
use Prim.Native.Nat.{ℕ, ◌≤◌, ◌<◌, ◌*◌}
use mathlib.Core.Path.{◌≡◌, ◌∙◌}
use mathlib.Core.List.{List}
use native.Mathlib.Omega.{arith}
use borrow.Author.Tests.{le-ltb, lt-ltb}
use lib.ListN.{length}
use Rattle.std.proofs.Common.{Result, Option}
use Rattle.wire.specs.declared.refusals.Fault.{Fault}
use Rattle.registers.specs.declared.check.Broken.{Broken}
use Rattle.laws.proofs.SumLaws.{bit_eq}
use Rattle.wire.specs.Limits.{row_limit}
use Rattle.wire.specs.Edition.{Edition}
use Rattle.wire.specs.Record.{read}
use Rattle.wire.specs.RegisterFormat.{Row, read_register}
use Rattle.meaning.specs.Sheet.{Sheet}
use Rattle.meaning.specs.Tree.{Tree}
use Rattle.meaning.specs.OfRecords.{members, listed_sets}
use Rattle.meaning.specs.MemberIn.{member_in}
use Rattle.meaning.proofs.ReadableRows.{distinct_of_readable}
use Rattle.rows.specs.RowsRead.{word_bits, rows_before}
use Rattle.rows.proofs.RowLaws.{rows_most}
use Rattle.columns.specs.Columns.{column_digit, ColumnsFilled, column_sets, WordsFor, in_column}
use Rattle.columns.specs.Counts.{ColumnsCounted}
use Rattle.columns.proofs.ColumnLaws.{columns_distinct, bit_column}
use Rattle.columns.proofs.CountLaws.{column_count}
use Rattle.tiles.proofs.FillLaws.{members_within}
use Rattle.registers.specs.Tallies.{Counted}
use Rattle.registers.specs.Checked.{Checked, Tallied, AnswerTo}
use Rattle.registers.proofs.Agree.{Agree, answered_agree, count_agree}

-- no digit is set from member n on
pub others_none : {size : ℕ} {rs : List Row} {t : List ℕ} {n : ℕ} → ColumnsFilled size rs n t → (g i : ℕ) → 1 ≤ g → g ≤ size
    → n ≤ i → i < row_limit
    → column_digit t g i ≡ 0
others_none {rs = rs} {n = n} f g i a c o l = f.each g i a c l ∙ (rw (le-ltb i (length (members rs)) (omega (arith, f.number))))

-- the counts that were read off are those of the sets
pub columns_counted : {size : ℕ} {rs : List Row} {t u : List ℕ} {n words : ℕ} (s : Sheet) → s.size ≤ size → ColumnsFilled size rs n t
    → WordsFor n words
    → ColumnsCounted t s.size words u → Counted s (column_sets t n) u
columns_counted {t = t} {n = n} {words = words} s z f w c =
    record {
      each = λ g k.
          c.each g k.first k.last
          ∙ column_count t g n (word_bits * words) w.enough
          (λ i o l. others_none f g i k.first (omega (arith, k.last)) o (omega (arith, w.most)));
    }

-- the members of a register that was read are no more than the most rows
pub members_most : (ed : Edition) (groups : ℕ) (b : List ℕ) (rows : ℕ) → read (rows_before ed b rows) ≡ read_register ed groups b
    → {size : ℕ} {t : List ℕ} {n : ℕ} → ColumnsFilled size (rows_before ed b rows) n t → n ≤ row_limit
members_most ed groups b rows w f = omega (arith, members_within ed b rows f.number, rows_most ed groups b rows w)

-- a register whose rows were read, and the columns of its n members
module _ (s : Sheet) {size : ℕ} (z : s.size ≤ size) (ed : Edition) (groups : ℕ) (b : List ℕ) (rows : ℕ)
    (w : read (rows_before ed b rows) ≡ read_register ed groups b) {t : List ℕ} {n : ℕ} (f : ColumnsFilled size (rows_before ed b rows) n t) where
  columns_agree : (rs : List Row) → rows_before ed b rows ≡ rs → Agree s (column_sets t n) (listed_sets rs)
  columns_agree rs e =
      let f' = rw e at f in
      record {
        bound = f'.number;
        groups = λ i g l y.
            let here = f'.each g i y.first (omega (arith, y.last)) (omega (arith, members_most ed groups b rows w f)) in
            bit_eq (in_column t g i) (member_in rs i g) (bit_column t g i ∙ here)
            ∙ (rw (lt-ltb i (length (members rs)) (omega (arith, f'.number))));
      }

  -- the answer to the columns is the answer to the rows
  pub checked_columns : (r : Result (Option Broken) Fault) → Tree s → AnswerTo s (column_sets t n) r → Checked s (read_register ed groups b) r
  checked_columns r y v =
      record {
        refusal = λ m j e. absurd (let x = w ∙ e in let o : ◌≡◌ {A = ℕ} 0 1 = cc in omega arith);
        answer = λ rs e.
            let same : rows_before ed b rows ≡ rs = (let x = w ∙ e in cc) in
            record {
              names = v.names;
              gives = v.gives;
              answered = answered_agree s (column_sets t n) (listed_sets rs) y (columns_agree rs same) (columns_distinct t n)
                  (distinct_of_readable ed groups b rs e) _ _ v.answered;
            };
      }

  -- and so are the counts
  pub tallied_columns : (v u : List ℕ) → Counted s (column_sets t n) u → Tallied s (read_register ed groups b) v u
  tallied_columns v u c =
      record {
        counts = λ rs e.
            let same : rows_before ed b rows ≡ rs = (let x = w ∙ e in cc) in
            record { each = λ g k. c.each g k ∙ count_agree s (column_sets t n) (listed_sets rs) g (columns_agree rs same) k };
        kept = λ m j e. absurd (let x = w ∙ e in let o : ◌≡◌ {A = ℕ} 0 1 = cc in omega arith);
      }
