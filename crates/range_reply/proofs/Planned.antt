-- The arrangement of every reply is the smallest clinic that fits, and the ranges of every reply serve as bounds: document 02,
-- card 13, as `specs/Planning` states it.
use Prim.Native.Nat.{ℕ, ◌*◌, ◌≤◌, ◌<◌}
use mathlib.Core.Path.{◌≡◌, refl, sym, subst, subst⁻¹}
use mathlib.Core.List.{List}
use mathlib.Core.Logic.Iff
use mathlib.Core.Logic.{⊎_elim, ◌↔◌}
use native.Mathlib.Omega.{arith}
use lib.ListN.{length}
use Rattle.laws.proofs.Cases.{compare_le}
use Rattle.wire.specs.Limits.{range_bytes}
use Rattle.wire.specs.Record.{Reading, read, refused}
use Rattle.wire.specs.SheetFormat.{Records, read_sheet}
use Rattle.wire.specs.Encoding.{Bytes, encode_sheet}
use Rattle.wire.proofs.Facts.{sheet_positive, read_right, read_within}
use Rattle.wire.proofs.RoundTripSheet.{read_encoded_sheet}
use Rattle.meaning.specs.Sheet.{Sheet, Group, Top}
use Rattle.meaning.specs.Tree.{Tree, Rooted}
use Rattle.meaning.specs.Sets.{count, Sets}
use Rattle.meaning.specs.Fits.{Possible, Fits, Attains}
use Rattle.meaning.specs.OfRecords.{sheet_of}
use Rattle.meaning.proofs.Readable.{root_under_none, tree_of_right, rooted_of_right}
use Rattle.sizes.proofs.RunsLaws.{run_of, in_run_law, above_runs}
use Rattle.sizes.proofs.Possible.{sizes_count}
use Rattle.sizes.proofs.Rebound.{rebound, group_rebound}
use Rattle.sizes.proofs.ArrangedOnce.{arrangement_runs}
use Rattle.sizes.proofs.Smallest.{arrangement_least, runs_in_root}
use Rattle.sizes.proofs.RangesAsBounds.{RangeEnds, same_ranges, same_arrangement, same_sets}
use Rattle.sizes.proofs.Readable.{readable_possible_or_not}
use Rattle.replies.specs.Reply.{Call, Replied, packed}
use Rattle.range_reply.specs.RangesReply.{RangesIn, RangesCall, run_first, run_count, range_least, range_greatest}
use Rattle.range_reply.specs.Planning.{Answerable, Smallest, SameNumbers, replaced, EndsWithin, RangesAsBounds}
use Rattle.range_reply.proofs.RangesOnce.{range_once}
use Rattle.range_reply.proofs.Replaced.{replaced_length, replaced_sheet_law, replaced_ends, replaced_within}
use Rattle.range_reply.proofs.InPlace.{written_over_law}

-- the reply to a readable sheet that some sets fit, in a buffer with room
given : (sheet : List ℕ) (c : Call) → RangesCall sheet c → (d : Records) → Answerable sheet d c
    → Replied (range_bytes * length d.groups) c × RangesIn (sheet_of d.groups) c.after
given sheet c v d a = ((v.passed d a.readable).possible a.possible).replied a.room

-- A call whose first number is 0 (it returned less than 4,294,967,296) is such a call: the sheet is readable, some sets fit it, and the
-- buffer has room.
pub not_refused : (sheet : List ℕ) (c : Call) → RangesCall sheet c → c.returned < packed 1 0 → (d : Records) × Answerable sheet d c
not_refused sheet c v l = cases (read_sheet sheet) refl
  where
    cases : (x : Reading Records) → read_sheet sheet ≡ x → (d : Records) × Answerable sheet d c
    cases (refused n k) e =
        let p : 1 ≤ n = rw e at (sheet_positive sheet) in
        absurd (omega (arith, (v.turned n k e).returned))
    cases (read d) e =
        let w = v.passed d e in
        ⊎_elim
        (λ p. compare_le (range_bytes * length d.groups) (length c.before)
        (λ h. (d, record { readable = e; possible = p; room = h }))
        (λ h. absurd (omega (arith, ((w.possible p).short h).returned))))
        (λ p. absurd (omega (arith, (w.impossible p).returned)))
        (readable_possible_or_not sheet d e)

-- The smallest clinic.
pub smallest : (sheet : List ℕ) (c : Call) → RangesCall sheet c → (d : Records) → Answerable sheet d c
    → Smallest (sheet_of d.groups) c.after
smallest sheet c v d k =
    let R = read_right sheet d k.readable in
    let t = tree_of_right R in
    let r = rooted_of_right R in
    let o = root_under_none R in
    let a = (given sheet c v d k).1.arranged in
    let w = arrangement_runs t r o k.possible a in
    let first = run_first c.after in
    let size = run_count c.after in
    record {
      counts = sizes_count t w.0 w.1 _ (λ g q. above_runs (length d.groups) first size g q.last);
      least = λ X A. arrangement_least t r o a;
      inside = λ g x q h.
          let n = run_of (first g) (size g) x h in
          let i = runs_in_root t r w.0.balanced w.1 g q in
          in_run_law (first 1) (size 1) x (omega arith) (omega arith);
    }

-- replies to a sheet and to the sheet with its ranges as bounds
same_numbers : {s : Sheet} {l : ℕ → ℕ} {u : ℕ → Top} {out out' : List ℕ} → RangeEnds s l u → Tree s → Rooted s → s.parent 0 ≡ 0
    → Possible s → RangesIn s out → RangesIn (rebound s l u) out' → SameNumbers s out out'
same_numbers {s} {l} {u} {out} {out'} ends t r o p v w =
    let e : (g : ℕ) → Group s g → (range_least out' g ≡ range_least out g) × (range_greatest out' g ≡ range_greatest out g) =
    λ g q. range_once (range_least out' g) (range_least out g) (range_greatest out' g) (range_greatest out g)
    (λ k. Iff.trans (w.range g (group_rebound s _ l _ u q) k) (Iff.symm (same_ranges ends g k))) (v.range g q)
    (count p.0 g) (p.0, p.1, refl) in
    let a = same_arrangement ends t r o p v.arranged w.arranged in
    record {
      least = λ g q. (e g q).0;
      greatest = λ g q. (e g q).1;
      first = λ g q. sym (a g q).0;
      counted = λ g q. sym (a g q).1;
    }

-- Ranges as bounds.
pub ranges_as_bounds : (sheet : List ℕ) → Bytes sheet → (c : Call) → RangesCall sheet c → (d : Records) → Answerable sheet d c
    → EndsWithin (sheet_of d.groups) c.after → RangesAsBounds sheet d c.after
ranges_as_bounds sheet k c v d a b =
    let e = a.readable in
    let p = a.possible in
    let out = c.after in
    let s = sheet_of d.groups in
    let t = sheet_of (replaced out d).groups in
    let is : t ≡ rebound s t.lo t.hi = replaced_sheet_law out d.groups in
    let R = read_right sheet d e in
    let own = (given sheet c v d a).1 in
    let ends : RangeEnds s t.lo t.hi = replaced_ends d.groups out b own in
    let read_back = read_encoded_sheet (replaced out d) (replaced_within d out b (read_within sheet k d e)) in
    let sets : (X : Type 0) (A : Sets X) → Fits s A ↔ Fits t A = λ X A. subst⁻¹ (λ x. Fits s A ↔ Fits x A) is (same_sets ends X A) in
    record {
      written = written_over_law sheet k d e out b;
      readable = read_back;
      sets = sets;
      ranges = λ g n. subst⁻¹ (λ x. Attains s g n ↔ Attains x g n) is (same_ranges ends g n);
      reply = λ c' v' l'.
          let w = given (encode_sheet (replaced out d)) c' v' (replaced out d) (record {
            readable = read_back;
            possible = (p.0, (sets ℕ p.0).0 p.1);
            room = rw (replaced_length out 1 d.groups) l';
          }) in (
            rw (replaced_length out 1 d.groups) at w.0,
            same_numbers ends (tree_of_right R) (rooted_of_right R) (root_under_none R) p own
                (subst (λ x. RangesIn x c'.after) is w.1),
          );
    }
