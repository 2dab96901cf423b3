-- A sheet with more groups, of which nothing is asked: the same sets fit. So what is shown of claims on groups of the sheet
-- serves for any claim.
use Prim.Native.Nat.{ℕ, ◌+◌, ◌≤◌, zero-le}
use mathlib.Core.Path.{◌≡◌}
use mathlib.Core.Bool.{cond, ◌&&◌, Bool, true}
use mathlib.Core.Logic.{◌↔◌}
use native.Mathlib.Omega.{arith}
use borrow.Author.Tests.{leb-true, le-leb}
use lib.Dec.{leb}
use Rattle.laws.proofs.Cases.{split, and_true}
use Rattle.meaning.specs.Sheet.{Sheet, inf, Group, Son}
use Rattle.meaning.specs.Tree.{Tree}
use Rattle.meaning.specs.Sets.{Sets}
use Rattle.meaning.specs.Fits.{Fits}
use Rattle.meaning.proofs.SonLaws.{son_parent}

-- k more groups: nobody's sons, without modes, of any count
unfoldable pub widened : Sheet → ℕ → Sheet
widened s k = record {
  size = s.size + k;
  parent = λ g. cond (leb g s.size) (s.parent g) 0;
  lo = λ g. cond (leb g s.size) (s.lo g) 0;
  hi = λ g. cond (leb g s.size) (s.hi g) inf;
  disjoint = λ g. leb g s.size && s.disjoint g;
  cover = λ g. leb g s.size && s.cover g;
  same = λ g. leb g s.size && s.same g;
}

module _ {s : Sheet} (t : Tree s) (k : ℕ) where
  inner : (g : ℕ) → 1 ≤ g → leb g s.size ≡ true → Group s g
  inner g l e = record { first = l; last = leb-true g s.size e }

  pub widened_tree : Tree (widened s k)
  unfolding widened
  widened_tree = record {
    before = λ g q. split (leb g s.size) (λ e. rw e (t.before g (inner g q.first e))) (λ e. rw e q.first);
  }

  widened_group : {g : ℕ} → Group s g → Group (widened s k) g
  unfolding widened
  widened_group q = omega arith

  widened_son : {p g : ℕ} → Son s p g ↔ Son (widened s k) p g
  unfolding widened
  widened_son {p} {g} = (
    λ o. record {
      above = o.above;
      group = widened_group o.group;
      under = rw (le-leb g s.size o.group.last) o.under;
    },
    λ o. split (leb g s.size)
        (λ e. record { above = o.above; group = inner g o.group.first e; under = rw e at o.under })
        (λ e. absurd (let z = rw e at o.under in omega (arith, o.above))),
  )

  -- a mode b of group p
  widened_mode : (p : ℕ) (b : Bool) → 1 ≤ p → ((leb p s.size && b) ≡ true) ↔ (Group s p × (b ≡ true))
  widened_mode p b l = (
    λ e. let a = and_true (leb p s.size) b e in (inner p l a.0, a.1),
    λ a. rw (le-leb p s.size a.0.last) a.1,
  )

  pub widened_fits : {A : Sets ℕ} → Fits s A ↔ Fits (widened s k) A
  unfolding widened
  widened_fits = (
    λ w. record {
      distinct = w.distinct;
      rules = λ i l. let m = w.rules i l in record {
        inside = λ p g o. m.inside p g (widened_son.1 o);
        equal = λ p g o e. m.equal p g (widened_son.1 o) ((widened_mode p (s.same p) o.above).0 e).1;
        covered = λ p q e x.
            let a = (widened_mode p (s.cover p) q.first).0 e in
            let c = m.covered p a.0 a.1 x in
            (c.0, widened_son.0 c.1, c.2);
        apart = λ p g h o j e.
            m.apart p g h (widened_son.1 o) (widened_son.1 j) ((widened_mode p (s.disjoint p) o.above).0 e).1;
      };
      least = λ g q. split (leb g s.size) (λ e. rw e (w.least g (inner g q.first e))) (λ e. rw e zero-le);
      most = λ g q. split (leb g s.size) (λ e. rw e (w.most g (inner g q.first e))) (λ e. rw e tt);
    },
    λ w. record {
      distinct = w.distinct;
      rules = λ i l. let m = w.rules i l in record {
        inside = λ p g o. m.inside p g (widened_son.0 o);
        equal = λ p g o e.
            m.equal p g (widened_son.0 o) ((widened_mode p (s.same p) o.above).1 (son_parent t o, e));
        covered = λ p q e x.
            let c = m.covered p (widened_group q) ((widened_mode p (s.cover p) q.first).1 (q, e)) x in
            (c.0, widened_son.1 c.1, c.2);
        apart = λ p g h o j e.
            m.apart p g h (widened_son.0 o) (widened_son.0 j)
            ((widened_mode p (s.disjoint p) o.above).1 (son_parent t o, e));
      };
      least = λ g q. rw (le-leb g s.size q.last) at (w.least g (widened_group q));
      most = λ g q. rw (le-leb g s.size q.last) at (w.most g (widened_group q));
    },
  )
