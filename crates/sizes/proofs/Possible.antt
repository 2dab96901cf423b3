-- Sets that fit, as numbers: some sets fit exactly when balanced numbers within the bounds exist, and some sets that fit
-- have a member in the allowed groups exactly when a choice exists.
use Prim.Native.Nat.{ℕ, ◌+◌, ◌≤◌, ◌<◌}
use mathlib.Core.Path.{◌≡◌, ap, refl, ◌∙◌}
use mathlib.Core.Bool.{Bool, false, true}
use mathlib.Core.Logic.{◌↔◌}
use native.Mathlib.Omega.{arith}
use native.Mathlib.Nat.{add-zero}
use Rattle.laws.specs.Sum.{bit}
use Rattle.meaning.specs.Sheet.{Sheet, Group}
use Rattle.meaning.specs.Tree.{Tree}
use Rattle.meaning.specs.Sets.{Sets, count}
use Rattle.meaning.specs.Fits.{Fits, Possible, Attains, groups_of}
use Rattle.meaning.specs.Shown.{shown, above}
use Rattle.sizes.specs.Balanced.{Sizes, Choice}
use Rattle.sizes.specs.Ranged.{free}
use Rattle.sizes.specs.Runs.{Starts}
use Rattle.sizes.proofs.Members.{count_balanced, balanced_eq, others, balanced_zero, balanced_add, meets_balanced, others_count}
use Rattle.sizes.proofs.Members.{others_balanced}
use Rattle.sizes.proofs.RunsLaws.{shown_fits, shown_fits_above, runs_first, shown_count_law, starts, starts_are, above_runs, choice_fits}

-- the counts of sets that fit
pub fits_sizes : {X : Type 0} {s : Sheet} {A : Sets X} → Fits s A → Sizes s (count A)
fits_sizes {A = A} w = record { balanced = count_balanced A w.rules; least = w.least; most = w.most }

-- the one member in no group
abbrev pub nowhere : ℕ → Bool
nowhere g = false

-- only the numbers and marks at groups matter
pub choice_eq : {s : Sheet} {may : ℕ → Bool → Bool} {f h : ℕ → ℕ} {M N : ℕ → Bool} → ((g : ℕ) → Group s g → f g ≡ h g)
    → ((g : ℕ) → Group s g → M g ≡ N g) → Choice s may f M → Choice s may h N
choice_eq e i c = record {
  others = balanced_eq e c.others;
  one = balanced_eq (λ g q. ap bit (i g q)) c.one;
  least = λ g q. rw (← e g q, ← i g q) (c.least g q);
  most = λ g q. rw (← e g q, ← i g q) (c.most g q);
  allowed = λ g q. rw (← i g q) (c.allowed g q);
}

-- sizes as a choice in which the one member is nowhere, and a choice as sizes
pub sizes_choice : {s : Sheet} {f : ℕ → ℕ} (may : ℕ → Bool → Bool) → ((g : ℕ) → Group s g → may g false ≡ true) → Sizes s f
    → Choice s may f nowhere
sizes_choice {s} {f} may a z = record {
  others = z.balanced;
  one = balanced_zero;
  least = λ g q. omega (arith, z.least g q);
  most = λ g q. rw (add-zero (f g)) (z.most g q);
  allowed = a;
}

pub choice_sizes : {s : Sheet} {may : ℕ → Bool → Bool} {f : ℕ → ℕ} {M : ℕ → Bool} → Choice s may f M
    → Sizes s (λ g. f g + bit (M g))
choice_sizes c = record { balanced = balanced_add c.others c.one; least = c.least; most = c.most }

-- sizes, with starts for them, show sets that fit and have these counts
pub sizes_fits : {s : Sheet} {f st : ℕ → ℕ} → Tree s → Sizes s f → Starts s f st → (n : ℕ)
    → ((g : ℕ) → Group s g → st g + f g ≤ n) → Fits s (shown st f nowhere n)
sizes_fits t z h n l = shown_fits t (sizes_choice free (λ g q. refl) z) h n l

pub sizes_fits_above : {s : Sheet} {f st : ℕ → ℕ} → Tree s → Sizes s f → Starts s f st
    → Fits s (shown st f nowhere (above s.size st f))
sizes_fits_above t z h = shown_fits_above t (sizes_choice free (λ g q. refl) z) h

pub sizes_count : {s : Sheet} {f st : ℕ → ℕ} → Tree s → Sizes s f → Starts s f st → (n : ℕ)
    → ((g : ℕ) → Group s g → st g + f g ≤ n) → (g : ℕ) → Group s g → count (shown st f nowhere n) g ≡ f g
sizes_count {s} {f} {st} t z h n l g q =
    shown_count_law st f nowhere n g (runs_first t z.balanced h g q) (l g q) ∙ add-zero (f g)

-- some sets that fit have these counts
pub sizes_sets : {s : Sheet} {f : ℕ → ℕ} → Tree s → Sizes s f
    → (A : Sets ℕ) × Fits s A × ((g : ℕ) → Group s g → count A g ≡ f g)
sizes_sets {s} {f} t z =
    let st = starts s f in
    let n = above s.size st f in
    let l : (g : ℕ) → Group s g → st g + f g ≤ n = λ g q. above_runs s.size st f g q.last in
    (shown st f nowhere n, sizes_fits t z (starts_are t f) n l, sizes_count t z (starts_are t f) n l)

pub possible : {s : Sheet} → Tree s → Possible s ↔ ((f : ℕ → ℕ) × Sizes s f)
possible t = (λ w. (count w.0, fits_sizes w.1), λ w. let v = sizes_sets t w.1 in (v.0, v.1))

pub attains : {s : Sheet} → Tree s → (g k : ℕ) → Group s g → Attains s g k ↔ ((f : ℕ → ℕ) × Sizes s f × (f g ≡ k))
attains t g k q =
    (λ w. (count w.0, fits_sizes w.1, w.2), λ w. let v = sizes_sets t w.1 in (v.0, v.1, v.2 g q ∙ w.2))

-- A member of sets that fit gives a choice: the counts without it, and its groups.
pub member_choice : {X : Type 0} {s : Sheet} (may : ℕ → Bool → Bool) {A : Sets X} → Fits s A → (j : ℕ) → j < A.bound
    → ((g : ℕ) → Group s g → may g (groups_of A j g) ≡ true) → Choice s may (others A j) (groups_of A j)
member_choice {s = s} may {A} w j l a = record {
  others = others_balanced A j w.rules;
  one = meets_balanced (w.rules j l);
  least = λ g q. rw (others_count A j g l) at (w.least g q);
  most = λ g q. rw (others_count A j g l) at (w.most g q);
  allowed = a;
}

-- A choice gives sets that fit, shown by runs and marks, with member 0 in the groups chosen.
pub choice_member : {s : Sheet} {may : ℕ → Bool → Bool} {f : ℕ → ℕ} {M : ℕ → Bool} → Tree s → Choice s may f M
    → (A : Sets ℕ) × Fits s A × (j : ℕ) × (j < A.bound) × ((g : ℕ) → Group s g → may g (groups_of A j g) ≡ true)
unfolding above
choice_member {s} {may} {f} {M} t c =
    (shown (starts s f) f M (above s.size (starts s f) f), choice_fits t c, 0, omega arith, c.allowed)

pub placed : {s : Sheet} (may : ℕ → Bool → Bool) → Tree s
    → ((A : Sets ℕ) × Fits s A × (j : ℕ) × (j < A.bound) × ((g : ℕ) → Group s g → may g (groups_of A j g) ≡ true))
    ↔ ((f : ℕ → ℕ) × (M : ℕ → Bool) × Choice s may f M)
placed may t = (
  λ w. (others w.0 w.2, groups_of w.0 w.2, member_choice may w.1 w.2 w.3 w.4),
  λ w. choice_member t w.2,
)
