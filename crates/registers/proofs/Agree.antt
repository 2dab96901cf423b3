-- Sets whose members, one by one, are in the same groups break the same rules.
use Prim.Native.Nat.{ℕ, ◌<◌}
use mathlib.Core.Path.{◌≡◌, sym, ap, ◌∙◌}
use Rattle.laws.specs.Sum.{sum, bit}
use Rattle.laws.proofs.SumLaws.{sum_eq}
use Rattle.meaning.specs.Sheet.{Sheet, Group}
use Rattle.meaning.specs.Tree.{Tree}
use Rattle.meaning.specs.Sets.{Sets, count, Distinct}
use Rattle.meaning.specs.Fits.{groups_of, Fits}
use Rattle.meaning.specs.Rule.{Rule, outside, lacking, uncovered, shared, below, above, Broken, FirstBroken, Answered}
use Rattle.meaning.proofs.SonLaws.{son_parent}
use Rattle.registers.proofs.Unbroken.{unbroken_fits, fits_unbroken}

pub record Agree {X Y : Type 0} (s : Sheet) (A : Sets X) (B : Sets Y) : Type 0 where
  pub bound : A.bound ≡ B.bound
  pub groups : (i g : ℕ) → i < A.bound → Group s g → groups_of A i g ≡ groups_of B i g

pub agree_sym : {X Y : Type 0} {s : Sheet} {A : Sets X} {B : Sets Y} → Agree s A B → Agree s B A
agree_sym {X} {Y} {s} {A} {B} h =
    record { bound = sym h.bound; groups = λ i g l k. sym (h.groups i g (rw h.bound l) k) }

pub count_agree : {X Y : Type 0} (s : Sheet) (A : Sets X) (B : Sets Y) (g : ℕ) → Agree s A B → Group s g → count A g ≡ count B g
unfolding count
count_agree s A B g h k =
    sum_eq (λ i. bit (groups_of A i g)) (λ i. bit (groups_of B i g)) A.bound (λ i l. ap bit (h.groups i g l k))
    ∙ ap (λ (n : ℕ). sum (λ i. bit (groups_of B i g)) n) h.bound

broken_agree : {X Y : Type 0} (s : Sheet) (A : Sets X) (B : Sets Y) (g : ℕ) → Tree s → Agree s A B → Group s g → (q : Rule)
    → Broken s A g q → Broken s B g q
broken_agree s A B g t h k outside (p, i, c, l, a, b) =
    (p, i, c, rw h.bound at l, sym (h.groups i g l k) ∙ a, sym (h.groups i p l (son_parent t c)) ∙ b)
broken_agree s A B g t h k lacking (p, i, c, m, l, a, b) =
    (p, i, c, m, rw h.bound at l, sym (h.groups i p l (son_parent t c)) ∙ a, sym (h.groups i g l k) ∙ b)
broken_agree s A B g t h k uncovered (i, m, l, a, f) =
    (i, m, rw h.bound at l, sym (h.groups i g l k) ∙ a, λ j c. sym (h.groups i j l c.group) ∙ f j c)
broken_agree s A B g t h k shared (j, o, i, m, c, d, e, l, a, b) =
    (j, o, i, m, c, d, e, rw h.bound at l, sym (h.groups i j l c.group) ∙ a, sym (h.groups i o l d.group) ∙ b)
broken_agree s A B g t h k below b = rw (← count_agree s A B g h k) b
broken_agree s A B g t h k above b = rw (← count_agree s A B g h k) b

-- so they have the same answers
module _ {X Y : Type 0} (s : Sheet) (A : Sets X) (B : Sets Y) (t : Tree s) (h : Agree s A B) where
  fits_agree : Distinct B → Fits s A → Fits s B
  fits_agree d f = unbroken_fits s B t d (λ g k q b. fits_unbroken s A f g k q (broken_agree s B A g t (agree_sym h) k q b))

  first_agree : (g : ℕ) (q : Rule) → FirstBroken s A g q → FirstBroken s B g q
  first_agree g q v =
      record {
        group = v.group;
        broken = broken_agree s A B g t h v.group q v.broken;
        lowest = λ j y l p b. v.lowest j y l p (broken_agree s B A j t (agree_sym h) y p b);
        first = λ p l b. v.first p l (broken_agree s B A g t (agree_sym h) v.group p b);
      }

pub answered_agree : {X Y : Type 0} (s : Sheet) (A : Sets X) (B : Sets Y) → Tree s → Agree s A B → Distinct A → Distinct B
    → (g n : ℕ) → Answered s A g n → Answered s B g n
answered_agree s A B t h a b g n v =
    record {
      fits = (λ e. fits_agree s A B t h b (v.fits.0 e), λ f. v.fits.1 (fits_agree s B A t (agree_sym h) a f));
      breaks = λ u. let w = v.breaks (λ f. u (fits_agree s A B t h b f)) in (w.0, w.1, first_agree s A B t h g w.0 w.2);
    }
