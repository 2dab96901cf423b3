-- Laws of the question whether some sets fit: measured tables hold every group's span, and the root's answers it.
use Prim.Native.Nat.{ℕ, ◌≤◌}
use mathlib.Core.Path.{◌≡◌, refl, sym, ◌∙◌}
use mathlib.Core.Bool.{Bool, false, true, not, false≢true}
use lib.Dec.{ltb}
use lib.ListN.{get_or}
use mathlib.Core.List.{List}
use mathlib.Core.Logic.{◌↔◌}
use native.Mathlib.Omega.{arith}
use borrow.Author.Tests.{le-ltb}
use Rattle.laws.proofs.Cases.{compare_le}
use Rattle.meaning.specs.Sheet.{Sheet, Group}
use Rattle.meaning.specs.Tree.{Tree, Rooted}
use Rattle.meaning.specs.Fits.{Possible}
use Rattle.sizes.specs.Span.{none, Span}
use Rattle.sizes.specs.Fold.{Measured, own}
use Rattle.sizes.specs.Ranged.{free}
use Rattle.sizes.proofs.MeasuredLaws.{spans_measured}
use Rattle.sizes.proofs.RangeExact.{possible_sets}
use Rattle.tables.specs.declared.groups.Group.{Group as TableGroup}
use Rattle.tables.specs.SheetIn.{sheet_in, Tabled}
use Rattle.tables.proofs.SheetInLaws.{few_groups_law}
use Rattle.spans.specs.Held.{span_of}
use Rattle.spans.specs.declared.pair.Pair.{Pair}
use Rattle.spans.proofs.HeldLaws.{none_of, some_of, some_by}
use Rattle.measuring.specs.Tables.{may_in, spans_in}
use Rattle.measuring.specs.Pairs.{no_pair, pair_in}
use Rattle.measuring.specs.Done.{AllDone}
use Rattle.measuring.specs.Fitting.{Measures, Arrangeable}
use Rattle.measuring.proofs.TablesLaws.{free_table, free_flag}

-- a span of two numbers is not empty where the first does not pass the second
pub some_iff : (l m : ℕ) → (l ≤ m) ↔ (span_of l m ≡ none → ⊥)
some_iff l m = (
  λ h e. let s = some_of h in
      let z : ◌≡◌ {A = ℕ} 0 1 = cc in
      omega arith,
  λ n. compare_le l m (λ h. h) (λ h. absurd (n (none_of h))),
)

-- the root's span tells whether some sets fit
pub possible_told : {s : Sheet} {z : ℕ → Bool → Span} → Tree s → Rooted s → Measured s free z → (a : Span) → a ≡ z 1 false
    → (a ≡ none → ⊥) ↔ Possible s
possible_told t r m a e =
    let w = possible_sets t r m in
    (λ n. w.1 (λ o. n (e ∙ o)), λ k o. w.0 k (sym e ∙ o))

-- .. by a test of the table's first entry
pub root_possible : {s : Sheet} {z : ℕ → Bool → Span} {b : Bool} → Tree s → Rooted s → Measured s free z → (spans : List Pair)
    → pair_in spans 1 false ≡ z 1 false → b ≡ ltb (get_or spans 0 no_pair).out.most (get_or spans 0 no_pair).out.least
    → (not b ≡ true) ↔ Possible s
unfolding pair_in
root_possible {b = b} t r m spans e h =
    let u = (get_or spans 0 no_pair).out in
    let i = some_iff u.least u.most in
    let w = possible_told t r m _ e in (
      λ n. w.0 (i.0 (some_by u.least u.most h (off b n))),
      λ k. let l = i.1 (w.1 k) in rw (h, le-ltb u.most u.least l),
    )
  where
    off : (b : Bool) → not b ≡ true → b ≡ false
    off true e = absurd (false≢true e)
    off false e = refl

-- what measuring leaves
pub measures_done : {s : Sheet} {z : ℕ → Bool → Span} {spans after : List Pair} → AllDone s z spans after → Measures s z spans after
measures_done w = record {
  spanned = λ g q. w.spanned g q false;
  followed = λ p g k. rw k.under at (w.followed p g k false);
}

-- flags that forbid nothing
pub measured_free : {s : Sheet} {may : ℕ → Bool → Bool} {z : ℕ → Bool → Span}
    → ((g : ℕ) → Group s g → (c : Bool) → may g c ≡ true) → Measured s may z → Measured s free z
unfolding own
measured_free f m = record { at = λ p q c. m.at p q c ∙ rw (f p q c) }

-- the tables that measuring with free flags leaves
module _ {t : List TableGroup} {spans after : List Pair} {n : ℕ} (k : Tabled t n) (w : AllDone (sheet_in t n) (spans_in t n free_table) spans after) where
  free_measured : Measured (sheet_in t n) free (spans_in t n free_table)
  free_measured =
      measured_free (λ g q c. free_flag g q.first (omega (arith, q.last, few_groups_law k)) c)
      (spans_measured (sheet_in t n) (may_in free_table) k.tree)

  pub root_told : (b : Bool)
      → ((s : Sheet) (z : ℕ → Bool → Span) → Tree s → Rooted s → Measured s free z → pair_in spans 1 false ≡ z 1 false
      → (b ≡ true) ↔ Possible s) → (b ≡ true) ↔ Possible (sheet_in t n)
  root_told b h =
      h (sheet_in t n) _ k.tree k.rooted free_measured (w.spanned 1 k.rooted.one false)

  pub arrangeable : Possible (sheet_in t n) → Arrangeable t n spans after
  arrangeable p = record {
    tabled = k;
    z = spans_in t n free_table;
    measured = free_measured;
    measures = measures_done w;
    fit = p;
  }
