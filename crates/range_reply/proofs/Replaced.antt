-- The replaced records (`specs/Planning`): as many, with the same parents and modes, and with the ranges as bounds. They are
-- within the limits, and their sheet is the sheet with other bounds.
use Prim.Native.Nat.{ℕ, zero, suc, ◌+◌, ◌≤◌, ◌<◌, ◌-◌}
use mathlib.Core.Path.{◌≡◌, refl, ap, ◌∙◌}
use mathlib.Core.List.{List, [], ◌∷◌, ◌++◌}
use mathlib.Core.Logic.{◌⊎◌, inl, inr, ⊎_elim}
use native.Mathlib.Omega.{arith}
use native.Mathlib.Nat.{add-zero}
use borrow.Author.Tests.{eqb-true, eqb-false, ne_eqb}
use lib.Dec.{eqb}
use lib.ListN.{length, get_or, length-append}
use Rattle.laws.specs.Digit.{digit}
use Rattle.laws.proofs.Cases.{split}
use Rattle.wire.specs.Limits.{bound_limit, no_end, no_greatest}
use Rattle.wire.specs.SheetFormat.{GroupRecord, Records}
use Rattle.wire.specs.Encoding.{Each, none, more, GroupRight, SheetWithin}
use Rattle.meaning.specs.Sheet.{Sheet, Group, end_of}
use Rattle.meaning.specs.OfRecords.{sheet_of, group_at}
use Rattle.sizes.proofs.Rebound.{rebound}
use Rattle.sizes.proofs.RangesAsBounds.{RangeEnds}
use Rattle.range_reply.specs.RangesReply.{range_greatest, RangesIn}
use Rattle.range_reply.specs.Planning.{range_lo, range_hi, replaced_group, replaced_from, EndsWithin, replaced}

module _ (out : List ℕ) where
  pub replaced_length : (n : ℕ) (gs : List GroupRecord) → length (replaced_from out n gs) ≡ length gs
  unfolding replaced_from
  replaced_length n [] = refl
  replaced_length n (r ∷ gs) = ap suc (replaced_length (suc n) gs)

  -- a field that is neither lo nor hi
  field_same : (f : GroupRecord → ℕ) → ((g : ℕ) (r : GroupRecord) → f (replaced_group out g r) ≡ f r)
      → (n : ℕ) (gs : List GroupRecord) (i : ℕ) (z : GroupRecord) → f (get_or (replaced_from out n gs) i z) ≡ f (get_or gs i z)
  unfolding replaced_from
  field_same f h n [] i z = refl
  field_same f h n (r ∷ gs) zero z = h n r
  field_same f h n (r ∷ gs) (suc i) z = field_same f h (suc n) gs i z

  replaced_bounds : (n : ℕ) (gs : List GroupRecord) (i : ℕ) (z : GroupRecord) → i < length gs
      → ((get_or (replaced_from out n gs) i z).lo ≡ range_lo out (n + i)) × ((get_or (replaced_from out n gs) i z).hi ≡ range_hi out (n + i))
  unfolding replaced_from
  replaced_bounds n [] i z l = absurd (omega arith)
  replaced_bounds n (r ∷ gs) zero z l = rw (add-zero n) (refl, refl)
  replaced_bounds n (r ∷ gs) (suc i) z l =
      let s : n + suc i ≡ suc n + i = omega arith in
      rw s (replaced_bounds (suc n) gs i z (omega arith))

  -- they are right where the records were and the ends are within
  replaced_right : (n : ℕ) (xs ys gs : List GroupRecord) → length xs ≡ length ys
      → ((g : ℕ) → n ≤ g → g < n + length gs → (range_lo out g ≤ bound_limit) × (range_hi out g ≤ no_end))
      → Each GroupRight xs gs
      → Each GroupRight ys (replaced_from out n gs) × Each (λ us g. g.hi ≤ no_end) ys (replaced_from out n gs)
  unfolding replaced_from
  replaced_right n xs ys [] e b none = (none, none)
  replaced_right n xs ys (r ∷ gs) e b (more p w) =
      let own = b n (omega arith) (omega arith) in
      let m = replaced_group out n r in
      let rest = replaced_right (suc n) (xs ++ (r ∷ [])) (ys ++ (m ∷ [])) gs
      (omega (arith, length-append xs (r ∷ []), length-append ys (m ∷ []))) (λ g l k. b g (omega arith) (omega arith)) w in (
        more {y = m} (record { parent = rw e at p.parent; lo = own.0; mode = p.mode }) rest.0,
        more {y = m} own.1 rest.1,
      )

-- the sheet of the replaced records
abbrev pub replaced_sheet : List ℕ → List GroupRecord → Sheet
replaced_sheet out gs = sheet_of (replaced_from out 1 gs)

-- it is the sheet with other bounds
module _ (out : List ℕ) (gs : List GroupRecord) where
  parent_same : (g : ℕ) → (group_at (replaced_from out 1 gs) g).parent ≡ (group_at gs g).parent
  parent_same g = field_same out (λ r. r.parent) (λ g r. refl) 1 gs (g - 1) _

  mode_same : (g : ℕ) → (group_at (replaced_from out 1 gs) g).mode ≡ (group_at gs g).mode
  mode_same g = field_same out (λ r. r.mode) (λ g r. refl) 1 gs (g - 1) _

  pub replaced_sheet_law : replaced_sheet out gs ≡ rebound (sheet_of gs) (replaced_sheet out gs).lo (replaced_sheet out gs).hi
  replaced_sheet_law = λ i. record {
    size = replaced_length out 1 gs i;
    parent = λ g. parent_same g i;
    lo = (replaced_sheet out gs).lo;
    hi = (replaced_sheet out gs).hi;
    disjoint = λ g. eqb (digit (mode_same g i) 0) 1;
    cover = λ g. eqb (digit (mode_same g i) 1) 1;
    same = λ g. eqb (digit (mode_same g i) 2) 1;
  }

-- the bounds of the replaced records are the ends of the ranges
module _ (gs : List GroupRecord) (out : List ℕ) (b : EndsWithin (sheet_of gs) out) where
  hi_is : (g : ℕ) → Group (sheet_of gs) g → ((range_greatest out g ≡ no_greatest) × (range_hi out g ≡ no_end))
      ⊎ ((range_greatest out g ≤ bound_limit) × (range_hi out g ≡ range_greatest out g))
  hi_is g q =
      let n = range_greatest out g in
      split (eqb n no_greatest)
      (λ e. inl (eqb-true n no_greatest e, rw e (omega arith)))
      (λ e. inr (b.greatest g q (eqb-false n no_greatest e), rw e (omega arith)))

  hi_stands : (g : ℕ) → Group (sheet_of gs) g → end_of no_end (range_hi out g) ≡ end_of no_greatest (range_greatest out g)
  unfolding end_of
  hi_stands g q =
      let n = range_greatest out g in
      ⊎_elim (λ w. rw (w.1, w.0)) (λ w. rw (w.1, ne_eqb n no_end (omega arith), ne_eqb n no_greatest (omega arith))) (hi_is g q)

  bounds_at : (g : ℕ) → Group (sheet_of gs) g
      → ((replaced_sheet out gs).lo g ≡ range_lo out g) × ((replaced_sheet out gs).hi g ≡ end_of no_end (range_hi out g))
  bounds_at g q =
      let w = replaced_bounds out 1 gs (g - 1) (group_at [] 1) (omega arith) in
      let n : 1 + (g - 1) ≡ g = omega arith in
      (w.0 ∙ ap (range_lo out) n, ap (end_of no_end) (w.1 ∙ ap (range_hi out) n))

  pub replaced_ends : RangesIn (sheet_of gs) out → RangeEnds (sheet_of gs) (replaced_sheet out gs).lo (replaced_sheet out gs).hi
  replaced_ends v = record {
    counts = λ g q k.
        let w = bounds_at g q in
        rw (w.0, w.1, hi_stands g q) (v.range g q k);
  }

  -- they are within the limits of their fields
  pub fields_within : (g : ℕ) → 1 ≤ g → g < 1 + length gs → (range_lo out g ≤ bound_limit) × (range_hi out g ≤ no_end)
  fields_within g l k =
      let q : Group (sheet_of gs) g = omega arith in
      (omega (arith, b.least g q), ⊎_elim (λ w. omega (arith, w.1)) (λ w. omega (arith, w.0, w.1)) (hi_is g q))

pub replaced_within : (d : Records) (out : List ℕ) → EndsWithin (sheet_of d.groups) out → SheetWithin d → SheetWithin (replaced out d)
replaced_within d out b w =
    let n = replaced_length out 1 d.groups in
    let R = w.right in
    let g = replaced_right out 1 [] [] d.groups refl (fields_within d.groups out b) R.groups in
    record {
      right = record {
        some_group = rw n R.some_group;
        group_count = rw n R.group_count;
        name_count = R.name_count;
        claim_count = R.claim_count;
        groups = g.0;
        names = rw n R.names;
        claims = R.claims;
      };
      group_ends = g.1;
      claim_ends = w.claim_ends;
    }
