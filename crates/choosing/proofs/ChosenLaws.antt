-- Laws of what is found under flags: sizes and marks that are divided are a choice, and there is none where the root's span is empty.
use Prim.Native.Nat.{ℕ, zero, suc, ◌-◌, ◌≤◌, ◌<◌}
use mathlib.Core.Path.{sym, ◌∙◌, ◌≡◌, ap}
use mathlib.Core.Bool.{Bool, true, false, true≢false, false≢true}
use mathlib.Core.List.{List}
use native.Mathlib.Omega.{arith}
use native.Mathlib.Nat.{le_refl}
use Rattle.laws.proofs.Cases.{split}
use Rattle.wire.specs.Limits.{no_greatest}
use Rattle.meaning.specs.Sheet.{Sheet, Son, Group}
use Rattle.meaning.specs.Tree.{Tree}
use Rattle.meaning.specs.Sons.{is_son}
use Rattle.meaning.proofs.SonLaws.{son_of_law}
use Rattle.sizes.specs.Span.{Span, none, meet, In}
use Rattle.sizes.specs.Fold.{join_kind, later, own, Measured}
use Rattle.sizes.specs.Bounds.{weight}
use Rattle.sizes.proofs.LaterLaws.{later_none, later_son, later_skip}
use Rattle.sizes.proofs.Exact.{sound}
use Rattle.sizes.proofs.BoundsLaws.{weight_least}
use Rattle.tables.specs.SheetIn.{size_limit}
use Rattle.spans.specs.declared.pair.Pair.{Pair}
use Rattle.spans.specs.Held.{AlikeBoth, top_of, span_of}
use Rattle.spans.proofs.HeldLaws.{none_of, some_of}
use Rattle.measuring.specs.Pairs.{pair_in}
use Rattle.measuring.specs.Done.{AllDone}
use Rattle.measuring.proofs.DoneLaws.{joined_alike}
use Rattle.choosing.specs.Divided.{Folded, Dividend}
use Rattle.choosing.specs.Chosen.{Chose}
use Rattle.choosing.proofs.PartsLaws.{in_some}

-- the fold depends on the spans of the sons only
later_eq : (s : Sheet) (z y : ℕ → Bool → Span) (p : ℕ) → ((g : ℕ) → Son s p g → AlikeBoth (z g) (y g)) → (k : ℕ)
    → AlikeBoth (later s z p k) (later s y p k)
later_eq s z y p h zero c = later_none s z p c ∙ sym (later_none s y p c)
later_eq s z y p h (suc k) c =
    split (is_son s p (s.size - k))
    (λ e. later_son s z p k c e
    ∙ joined_alike (join_kind s p) (later_eq s z y p h k) (h (s.size - k) (son_of_law s p (s.size - k) (omega arith) e)) c
    ∙ sym (later_son s y p k c e))
    (λ e. later_skip s z p k c e ∙ later_eq s z y p h k c ∙ sym (later_skip s y p k c e))

module _ {s : Sheet} {may : ℕ → Bool → Bool} {z : ℕ → Bool → Span} {spans after : List Pair} (m : Measured s may z)
    (w : AllDone s z spans after) where
  -- the spans in the table are measured
  pub measured_table : Measured s may (pair_in spans)
  measured_table = record {
    at = λ p q c.
        w.spanned p q c ∙ m.at p q c
        ∙ ap (λ u. meet u (own s may p c))
        (sym (later_eq s (pair_in spans) z p (λ g k. w.spanned g k.group) s.size c));
  }

  pub folded_table : Folded s spans after
  folded_table = record {
    may = may;
    measured = measured_table;
    followed = λ p g j c.
        w.followed p g j c ∙ ap (λ i. later s z i (s.size - g) c) j.under
        ∙ sym (later_eq s (pair_in spans) z p (λ h o. w.spanned h o.group) (s.size - g) c);
  }

  -- no number for the root, no choice
  pub chose_none : Tree s → Group s 1 → (c : Bool) (l u : ℕ) (sizes marks : List ℕ) → u < l → span_of l u ≡ pair_in spans 1 c
      → Chose s may c sizes marks false
  chose_none t q c l u sizes marks h e = record {
    found = λ o. absurd (false≢true o);
    lacking = λ o f M i k.
        let n : z 1 (M 1) ≡ none = ap (z 1) k ∙ sym (w.spanned 1 q c) ∙ sym e ∙ none_of h in
        rw n at (sound s may z t m f M i 1 q);
  }

  -- the least number for the root gives a choice
  pub chose_some : (c : Bool) (l u : ℕ) (sizes marks : List ℕ) → Group s 1 → l ≤ u → span_of l u ≡ pair_in spans 1 c
      → weight (z 1 c) ≤ size_limit
      → Dividend s (pair_in spans) l c sizes marks → Chose s may c sizes marks true
  chose_some c l u sizes marks q h e b d = record {
    found = λ o. record {
      choice = d.choice may measured_table;
      top = rw d.root (weight_least l (top_of u) size_limit (rw (sym (w.spanned 1 q c) ∙ sym e ∙ some_of h) at b));
      state = d.state;
      bits = d.bits;
    };
    lacking = λ o. absurd (true≢false o);
  }

-- the least number is in the span
pub least_in_law : (l u : ℕ) → l ≤ u → u ≤ no_greatest → In l (span_of l u)
least_in_law l u h k = (in_some l u l (omega arith)).0 (le_refl l, h)
