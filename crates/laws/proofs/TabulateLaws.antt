-- Laws of lists of first values: their length, the value at a place, and a list as that of its own values.
use Prim.Native.Nat.{ℕ, zero, suc, ◌<◌}
use mathlib.Core.Path.{◌≡◌, refl, ◌∙◌}
use mathlib.Core.List.{List, [], ◌∷◌}
use mathlib.Core.Logic.{⊎_elim}
use native.Mathlib.Omega.{arith}
use native.Mathlib.Nat.{eq-or-lt_of_le}
use lib.ListN.{length, get_or, length-append, get_or-append}
use lib.Seq.{get_or_at, ext_get_or}
use Rattle.laws.specs.Tabulate.{tabulate}

module _ {A : Type 0} (f : ℕ → A) where
  pub length_tabulate : (n : ℕ) → length (tabulate f n) ≡ n
  length_tabulate zero = refl
  length_tabulate (suc n) = simp (length-append, length_tabulate n) (omega arith)

  pub get_d_tabulate : (n i : ℕ) (d : A) → i < n → get_or (tabulate f n) i d ≡ f i
  get_d_tabulate zero i d l = absurd (omega arith)
  get_d_tabulate (suc n) i d l =
      ⊎_elim
      (λ (e : suc i ≡ suc n). let same : i ≡ n = omega arith in rw same (get_or_at (tabulate f n) (f n) [] d n (length_tabulate n)))
      (λ (k : suc i < suc n). get_or-append (tabulate f n) (f n ∷ []) d i
      (let z : i < n = omega arith in rw (length_tabulate n) z) ∙ get_d_tabulate n i d (omega arith))
      (eq-or-lt_of_le l)

  pub tabulate_same : (g : ℕ → A) (n : ℕ) → ((i : ℕ) → i < n → f i ≡ g i) → tabulate f n ≡ tabulate g n
  tabulate_same g zero h = refl
  tabulate_same g (suc n) h = rw (tabulate_same g n (λ i k. h i (omega arith)), h n (omega arith))

pub tabulate_get_d : {A : Type 0} (l : List A) (d : A) → tabulate (λ i. get_or l i d) (length l) ≡ l
tabulate_get_d l d =
    let size = length_tabulate (λ i. get_or l i d) (length l) in
    ext_get_or d (tabulate (λ i. get_or l i d) (length l)) l size
    (λ i k. get_d_tabulate (λ j. get_or l j d) (length l) i d (rw size at k))
