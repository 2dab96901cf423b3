-- The two numbers of a range are settled by the counts in it.
use Prim.Native.Nat.{ℕ, ◌≤◌}
use mathlib.Core.Path.{◌≡◌, sym, ap, ◌∙◌}
use mathlib.Core.Logic.{◌↔◌}
use borrow.Author.Tests.{eqb-true}
use lib.Dec.{eqb}
use Rattle.laws.proofs.Cases.{split}
use Rattle.wire.specs.Limits.{no_greatest}
use Rattle.meaning.specs.Sheet.{Top, fin, inf, end_of, AtMost}
use Rattle.sizes.proofs.ArrangedOnce.{ends_once}

-- the number that stands for an upper end
number_of : Top → ℕ
number_of (fin n) = n
number_of inf = no_greatest

number_greatest : (n : ℕ) → number_of (end_of no_greatest n) ≡ n
unfolding number_of end_of
number_greatest n = split (eqb n no_greatest) (λ e. rw e (sym (eqb-true n no_greatest e))) (λ e. rw e)

pub range_once : {P : ℕ → Type 0} (l m u v : ℕ) → ((k : ℕ) → ((l ≤ k) × AtMost k (end_of no_greatest u)) ↔ P k)
    → ((k : ℕ) → ((m ≤ k) × AtMost k (end_of no_greatest v)) ↔ P k) → (n : ℕ) → P n → (l ≡ m) × (u ≡ v)
range_once l m u v a b n h =
    let e = ends_once l m (end_of no_greatest u) (end_of no_greatest v) a b n h in
    (e.0, sym (number_greatest u) ∙ ap number_of e.1 ∙ number_greatest v)
