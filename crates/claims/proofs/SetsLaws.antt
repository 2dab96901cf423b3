-- The verdict on a claim, put together: from what the tables show to the sets read back from the reply.
use Prim.Native.Nat.{ℕ, ◌-◌, ◌≤◌}
use mathlib.Core.Path.{◌≡◌, sym, ap, subst}
use mathlib.Core.List.{List}
use native.Mathlib.Omega.{arith}
use lib.Dec.{eqb}
use Rattle.replies.specs.declared.verdict.Verdict.{Verdict}
use Rattle.meaning.specs.Sheet.{Sheet}
use Rattle.meaning.specs.Tree.{Tree}
use Rattle.meaning.specs.Place.{Question}
use Rattle.sizes.specs.Witness.{ShownWitness, HasWitness}
use Rattle.sizes.proofs.WitnessLaws.{witness_at}
use Rattle.tables.specs.Numbers.{number_in}
use Rattle.choosing.specs.Divided.{marked_in}
use Rattle.replies.specs.Written.{ShownAt, SetsPut}
use Rattle.replies.specs.Shown.{VerdictIn, shown_at, shown_first, shown_count, shown_mark, SetsIn}
use Rattle.claims.specs.Decided.{Shows}
use Rattle.claims.proofs.NamedLaws.{SpeaksUpTo}
use Rattle.claims.proofs.ShownAlike.{shown_fits_alike, shown_witness_alike}

-- the records of a reply show what the tables show
module _ {s : Sheet} {q : Question} {d : Verdict} {firsts sizes marks out : List ℕ} {n : ℕ} (t : Tree s) (size : s.size ≡ n) (some : 1 ≤ n)
    (known : SpeaksUpTo n q) (w : Shows s q firsts sizes marks) (v : VerdictIn d out) (p : SetsPut out n firsts sizes marks) where
  -- number 0 stands for group 1 in the tables and in the reply alike
  at : (g : ℕ) → g ≤ s.size → ShownAt out (shown_at g) (number_in firsts g) (number_in sizes g) (number_in marks g)
  at g l = p (g - 1) (omega arith)

  pub sets_in : SetsIn s d (λ A. ShownWitness q A) out
  sets_in =
      let first : (g : ℕ) → g ≤ s.size → number_in firsts g ≡ shown_first out g = λ g l. sym (at g l).first in
      let count : (g : ℕ) → g ≤ s.size → number_in sizes g ≡ shown_count out g = λ g l. sym (at g l).count in
      let mark : (g : ℕ) → g ≤ s.size → marked_in marks g ≡ eqb (shown_mark out g) 1 = λ g l. ap (λ m. eqb m 1) (sym (at g l).mark) in
      record {
        verdict = v;
        records = λ g q. record {
          sized = (at g q.last).sized;
          kind = (at g q.last).kind;
          first = rw (at g q.last).first (w.first g q);
          mark = rw (at g q.last).mark (w.mark g q);
        };
        fits = shown_fits_alike s first count mark t w.fits;
        shows = shown_witness_alike s first count mark q (subst (λ j. SpeaksUpTo j q) (sym size) known) w.shows;
      }

-- sets that a table shows answer the question
pub shows_witness : {s : Sheet} {q : Question} {firsts sizes marks : List ℕ} → Shows s q firsts sizes marks → HasWitness s q
shows_witness {q = q} w = (_, w.fits, witness_at q _ 0 w.shows)
