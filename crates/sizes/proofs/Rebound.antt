-- A sheet with other bounds: the tree and the rules are the same, and so are the sets, sizes and choices that keep the bounds.
use Prim.Native.Nat.{ℕ, ◌≤◌, ◌+◌}
use mathlib.Core.Bool.{Bool}
use Rattle.laws.specs.Sum.{bit}
use Rattle.meaning.specs.Sheet.{Sheet, Top, Group, Son, AtMost}
use Rattle.meaning.specs.Tree.{Tree, Rooted}
use Rattle.meaning.specs.Sons.{is_son, sons}
use Rattle.meaning.specs.Sets.{Sets, count}
use Rattle.meaning.specs.Fits.{Meets, Fits}
use Rattle.sizes.specs.Balanced.{Balanced, Sizes, Choice}

-- the sheet with other bounds
abbrev pub rebound : Sheet → (ℕ → ℕ) → (ℕ → Top) → Sheet
rebound s l h = record {
  size = s.size;
  parent = s.parent;
  lo = l;
  hi = h;
  disjoint = s.disjoint;
  cover = s.cover;
  same = s.same;
}

-- the bounds bear neither on the tree nor on the rules
pub group_rebound : (s : Sheet) (l l' : ℕ → ℕ) (h h' : ℕ → Top) {g : ℕ} → Group (rebound s l h) g → Group (rebound s l' h') g
group_rebound s l l' h h' q = record { first = q.first; last = q.last }

pub son_rebound : (s : Sheet) (l l' : ℕ → ℕ) (h h' : ℕ → Top) {p g : ℕ} → Son (rebound s l h) p g → Son (rebound s l' h') p g
son_rebound s l l' h h' k = record { above = k.above; group = group_rebound s l l' h h' k.group; under = k.under }

pub tree_rebound : (s : Sheet) (l l' : ℕ → ℕ) (h h' : ℕ → Top) → Tree (rebound s l h) → Tree (rebound s l' h')
tree_rebound s l l' h h' t = record { before = λ g q. t.before g (group_rebound s l' l h' h q) }

-- a sheet with one root has one root
pub rooted_rebound : (s : Sheet) (l l' : ℕ → ℕ) (h h' : ℕ → Top) → Rooted (rebound s l h) → Rooted (rebound s l' h')
rooted_rebound s l l' h h' r = record {
  one = group_rebound s l l' h h' r.one;
  top = r.top;
  rest = λ g q. r.rest g (group_rebound s l' l h' h q);
}

balanced_rebound : (s : Sheet) (l l' : ℕ → ℕ) (h h' : ℕ → Top) {f : ℕ → ℕ} → Balanced (rebound s l h) f
    → Balanced (rebound s l' h') f
unfolding sons is_son
balanced_rebound s l l' h h' b = record {
  at = λ p q.
      let r = b.at p (group_rebound s l' l h' h q) in
      record {
        inside = λ g k. r.inside g (son_rebound s l' l h' h k);
        equal = λ g k e. r.equal g (son_rebound s l' l h' h k) e;
        apart = r.apart;
        covered = r.covered;
      };
}

pub sizes_rebound : (s : Sheet) (l l' : ℕ → ℕ) (h h' : ℕ → Top) {f : ℕ → ℕ} → Sizes (rebound s l h) f
    → ((g : ℕ) → Group s g → l' g ≤ f g) → ((g : ℕ) → Group s g → AtMost (f g) (h' g)) → Sizes (rebound s l' h') f
sizes_rebound s l l' h h' z least most = record {
  balanced = balanced_rebound s l l' h h' z.balanced;
  least = λ g q. least g (group_rebound s l' s.lo h' s.hi q);
  most = λ g q. most g (group_rebound s l' s.lo h' s.hi q);
}

pub choice_rebound : (s : Sheet) (l l' : ℕ → ℕ) (h h' : ℕ → Top) {may : ℕ → Bool → Bool} {f : ℕ → ℕ} {M : ℕ → Bool}
    → Choice (rebound s l h) may f M → Sizes (rebound s l' h') (λ g. f g + bit (M g)) → Choice (rebound s l' h') may f M
choice_rebound s l l' h h' c z = record {
  others = balanced_rebound s l l' h h' c.others;
  one = balanced_rebound s l l' h h' c.one;
  least = z.least;
  most = z.most;
  allowed = λ g q. c.allowed g (group_rebound s l' l h' h q);
}

meets_rebound : (s : Sheet) (l l' : ℕ → ℕ) (h h' : ℕ → Top) {M : ℕ → Bool} → Meets (rebound s l h) M → Meets (rebound s l' h') M
meets_rebound s l l' h h' m = record {
  inside = λ p g k. m.inside p g (son_rebound s l' l h' h k);
  equal = λ p g k. m.equal p g (son_rebound s l' l h' h k);
  covered = λ p q e x.
      let w = m.covered p (group_rebound s l' l h' h q) e x in
      (w.0, son_rebound s l l' h h' w.1, w.2);
  apart = λ p g i k o. m.apart p g i (son_rebound s l' l h' h k) (son_rebound s l' l h' h o);
}

pub fits_rebound : (s : Sheet) (l l' : ℕ → ℕ) (h h' : ℕ → Top) {X : Type 0} {A : Sets X} → Fits (rebound s l h) A
    → ((g : ℕ) → Group s g → (l' g ≤ count A g) × AtMost (count A g) (h' g)) → Fits (rebound s l' h') A
fits_rebound s l l' h h' w bounds = record {
  distinct = w.distinct;
  rules = λ i k. meets_rebound s l l' h h' (w.rules i k);
  least = λ g q. (bounds g (group_rebound s l' s.lo h' s.hi q)).0;
  most = λ g q. (bounds g (group_rebound s l' s.lo h' s.hi q)).1;
}
