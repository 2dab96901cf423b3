-- Laws of the claim that a record carries: it is the record's, and what holds of it where the tests passed.
use Prim.Native.Nat.{ℕ, zero, suc, ◌+◌, ◌*◌, ◌≤◌, ◌<◌}
use mathlib.Core.Path.{◌≡◌, ◌∙◌, sym}
use mathlib.Core.Bool.{true, ◌&&◌}
use mathlib.Core.List.{List, [], ◌∷◌}
use native.Mathlib.Omega.{arith}
use native.Mathlib.Nat.{add_assoc}
use borrow.Author.Tests.{leb-true}
use lib.ListN.{length, drop, length-drop}
use lib.Dec.{leb}
use Rattle.claim_records.specs.declared.claim.ListKind.{ListKind}
use Rattle.laws.proofs.Cases.{and_true}
use Rattle.wire.specs.Bytes.{u16_at}
use Rattle.wire.specs.Record.{refusal, kind_of}
use Rattle.wire.specs.SheetFormat.{u16s, all_within, claim_tests, list_number, left_of, right_of}
use Rattle.wire.proofs.Passing.{passed, Pass}
use Rattle.wire.proofs.Sorts.{claim_nonzero, claim_frame, claim_cases, list_within, claim_count_law, ListsFrame, claim_lists}
use Rattle.wire.proofs.Facts.{within_at}
use Rattle.wire.proofs.Fields.{field_at, read_at, fields_at}
use Rattle.claim_records.specs.ClaimHeld.{list_as, ListsHeld}
use Rattle.claim_records.specs.Body.{ClaimTaken}
use Rattle.claim_records.specs.declared.claim.Claim.TheVariants as claim-of

-- numbers that are all from 1 to `names`
all_within_law : (s : List ℕ) (names i n : ℕ) → all_within names (u16s s i n) ≡ true → (j : ℕ) → j < n →
    (1 ≤ u16_at s (i + 2 * j)) × (u16_at s (i + 2 * j) ≤ names)
unfolding all_within u16s
all_within_law s names i zero e j l = absurd (omega arith)
all_within_law s names i (suc n) e zero l =
    let a = and_true (leb 1 (u16_at s i) && leb (u16_at s i) names) (all_within names (u16s s (i + 2) n)) e in
    let b = and_true (leb 1 (u16_at s i)) (leb (u16_at s i) names) a.0 in
    let o : i + 2 * 0 ≡ i = omega arith in
    rw o (leb-true _ _ b.0, leb-true _ _ b.1)
all_within_law s names i (suc n) e (suc j) l =
    let a = and_true (leb 1 (u16_at s i) && leb (u16_at s i) names) (all_within names (u16s s (i + 2) n)) e in
    let o : i + 2 * suc j ≡ i + 2 + 2 * j = omega arith in
    rw o (all_within_law s names (i + 2) n a.1 j (omega arith))

pub claim_room_law : (s : List ℕ) (at names : ℕ) → refusal (claim_tests names [] (drop at s)) ≡ 0 → at + 10 ≤ length s
claim_room_law s at names e =
    let p = passed _ (claim_nonzero names [] (drop at s)) e in
    let w = claim_frame names [] (drop at s) p in
    claim_cases names [] (drop at s) p (λ k f. omega (arith, length-drop at s))
    (λ k e f. omega (arith, length-drop at s))

-- a count
pub count_taken : (s : List ℕ) (at name lo hi : ℕ) → u16_at s (at + 2) ≡ 4 → name ≡ u16_at s (at + 4) → lo ≡ u16_at s (at + 6) →
    hi ≡ u16_at s (at + 8) → ClaimTaken s at (claim-of.Count (record { name = record { 0 = name }; lo = lo; hi = hi }))
count_taken s at name lo hi k a b c =
    let kind : kind_of (drop at s) ≡ 4 = field_at s at 2 ∙ k in
    record {
      kind = sym kind;
      carries = rw (claim_count_law (drop at s) kind, read_at s at 4 name a, read_at s at 6 lo b, read_at s at 8 hi c);
      held = λ names p. claim_cases names [] (drop at s) (passed _ (claim_nonzero names [] (drop at s)) p)
          (λ four f. rw (read_at s at 4 name a) at (within_at names (u16_at (drop at s) 4 ∷ []) f.name 0 0 (omega arith)))
          (λ k e f. absurd (omega (arith, list_within k)));
    }

-- lists
module _ (s : List ℕ) (at : ℕ) (k : ListKind) (m n : ℕ) (a : m ≡ u16_at s (at + 4)) (b : n ≡ u16_at s (at + 6)) where
  left_at : left_of (drop at s) ≡ u16s s (at + 8) m
  unfolding left_of
  left_at = rw (read_at s at 4 m a) (fields_at s at 8 m)

  right_at : right_of (drop at s) ≡ u16s s (at + 8 + 2 * m) n
  unfolding right_of
  right_at = rw (read_at s at 4 m a, read_at s at 6 n b, fields_at s at (8 + 2 * m) n, add_assoc at 8 (2 * m))

  list_pair_held : (names : ℕ) → Pass (claim_tests names [] (drop at s)) → ListsFrame names (drop at s) →
      ListsHeld s names (record { kind = k; m = m; n = n; at = at + 8 })
  list_pair_held names p f =
      let w = claim_frame names [] (drop at s) p in
      let x = read_at s at 4 m a in
      let y = read_at s at 6 n b in
      record {
        long = omega (arith, length-drop at s);
        some_left = omega arith;
        few_left = omega arith;
        some_right = omega arith;
        few_right = omega arith;
        left = all_within_law s names (at + 8) m (rw left_at at f.left_names);
        right = all_within_law s names (at + 8 + 2 * m) n (rw right_at at f.right_names);
      }

  lists_held : (u16_at s (at + 2) ≡ 4 → ⊥) → (names : ℕ) → refusal (claim_tests names [] (drop at s)) ≡ 0 →
      ListsHeld s names (record { kind = k; m = m; n = n; at = at + 8 })
  lists_held o names e =
      let p = passed _ (claim_nonzero names [] (drop at s)) e in
      claim_cases names [] (drop at s) p (λ four f. absurd (o (sym (field_at s at 2) ∙ four)))
      (λ j e f. list_pair_held names p f)

  pub lists_taken : u16_at s (at + 2) ≡ list_number (list_as k)
      → ClaimTaken s at (claim-of.Lists (record { kind = k; m = m; n = n; at = at + 8 }))
  lists_taken e =
      let kind : kind_of (drop at s) ≡ list_number (list_as k) = field_at s at 2 ∙ e in
      record {
        kind = sym kind;
        carries = rw (claim_lists (drop at s) (list_as k) kind, left_at, right_at);
        held = lists_held (λ z. omega (arith, list_within (list_as k)));
      }
