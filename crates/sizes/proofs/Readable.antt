-- What the contracts of the operations leave to be said of readable sheets.
use Prim.Native.Nat.{ℕ, zero-le, ◌-◌, ◌≤◌, max}
use mathlib.Core.Path.{◌≡◌, refl}
use mathlib.Core.List.{List}
use mathlib.Core.Logic.{◌⊎◌}
use native.Mathlib.Omega.{arith}
use native.Mathlib.Nat.{mul-le-mul_left}
use borrow.Author.Tests.{eqb-false}
use lib.Dec.{eqb}
use lib.ListN.{length}
use Rattle.laws.proofs.Cases.{split}
use Rattle.wire.specs.Limits.{bound_limit, no_end}
use Rattle.wire.specs.Edition.{group_limit, edition1, edition2}
use Rattle.wire.specs.Record.{read}
use Rattle.wire.specs.SheetFormat.{Records, read_sheet}
use Rattle.wire.specs.Encoding.{SheetWithin, Bytes}
use Rattle.wire.proofs.EditionFacts.{groups_many}
use Rattle.wire.proofs.Facts.{read_right, read_within}
use Rattle.meaning.specs.Sheet.{Group, end_of}
use Rattle.meaning.specs.Fits.{Possible}
use Rattle.meaning.specs.Arranged.{ArrangedBottomUp}
use Rattle.meaning.specs.OfRecords.{sheet_of, claim_at, group_at}
use Rattle.meaning.proofs.Readable.{tree_of_readable, root_under_none, tree_of_right, rooted_of_right, lo_most, hi_most}
use Rattle.sizes.specs.Witness.{HasWitness}
use Rattle.sizes.specs.EndLimit.{end_limit}
use Rattle.sizes.proofs.BoundsLaws.{Small}
use Rattle.sizes.proofs.ArrangedOnce.{arrangement_once}
use Rattle.sizes.proofs.Ends.{End, end_limit_law}
use Rattle.sizes.proofs.Decidable.{possible_or_not, witness_or_not}

-- Every readable sheet falls under one case of the contracts: some sets fit or none do (8); some sets that fit are a witness
-- (shown with the verdict) or none are.
pub readable_possible_or_not : (b : List ℕ) (d : Records) → read_sheet b ≡ read d
    → Possible (sheet_of d.groups) ⊎ (Possible (sheet_of d.groups) → ⊥)
readable_possible_or_not b d e = possible_or_not (tree_of_readable b d e)

pub readable_witness_or_not : (b : List ℕ) (d : Records) → read_sheet b ≡ read d → (k : ℕ)
    → HasWitness (sheet_of d.groups) (claim_at d k) ⊎ (HasWitness (sheet_of d.groups) (claim_at d k) → ⊥)
readable_witness_or_not b d e k = witness_or_not (tree_of_readable b d e) (claim_at d k)

-- The arrangement of a reply to ranges is settled: there is one only.
pub readable_arrangement_once : (b : List ℕ) (d : Records) → read_sheet b ≡ read d → Possible (sheet_of d.groups)
    → {first size first' size' : ℕ → ℕ} → ArrangedBottomUp (sheet_of d.groups) first size
    → ArrangedBottomUp (sheet_of d.groups) first' size' → (g : ℕ) → Group (sheet_of d.groups) g
    → (first g ≡ first' g) × (size g ≡ size' g)
readable_arrangement_once b d e =
    let R = read_right b d e in
    arrangement_once (tree_of_right R) (rooted_of_right R) (root_under_none R)

-- bounds within the limits
small_of_within : {d : Records} → SheetWithin d → Small (sheet_of d.groups) bound_limit
unfolding end_of
small_of_within {d} w = record {
  lo = λ g q. lo_most w.right g q;
  hi = λ g q.
      let h = (group_at d.groups g).hi in
      split (eqb h no_end)
      (λ e. rw e zero-le)
      (λ e. let n : h ≡ no_end → ⊥ = eqb-false h no_end e in rw e (omega (arith, hi_most w g q)));
}

pub end_limits : (end_limit edition1 ≡ 8322818) × (end_limit edition2 ≡ 16711170)
unfolding group_limit
end_limits = (refl, refl)

pub readable_end_limit : (b : List ℕ) → Bytes b → (d : Records) → read_sheet b ≡ read d → (g n : ℕ) → Group (sheet_of d.groups) g
    → End (sheet_of d.groups) g n → n ≤ end_limit d.edition
readable_end_limit b k d e g n q w =
    let R = read_right b d e in
    let few : max 1 (length d.groups - 1) ≤ group_limit d.edition - 1 = omega (arith, R.group_count, groups_many d.edition) in
    omega (
      arith,
      end_limit_law (tree_of_right R) (rooted_of_right R) (small_of_within (read_within b k d e)) g n q w,
      mul-le-mul_left bound_limit few,
    )
