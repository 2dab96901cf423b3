-- Laws of narrowing: one more group gets its range, and what is left to the later sons.
use Prim.Native.Nat.{ℕ, suc, ◌≤◌, ◌-◌, zero, ◌<◌}
use mathlib.Core.Path.{◌≡◌, refl, sym, ap, ◌∙◌}
use mathlib.Core.Bool.{Bool, false}
use mathlib.Core.List.{List}
use native.Mathlib.Omega.{arith}
use native.Mathlib.Nat.{le_refl}
use lib.ListN.{length, set, length-set}
use lib.Seq.{get_or-set_same, get_or-set_other}
use Rattle.laws.proofs.Cases.{compare_eq}
use Rattle.meaning.specs.Sheet.{Sheet, Group, Son}
use Rattle.meaning.specs.Tree.{Tree, Rooted}
use Rattle.meaning.proofs.SonLaws.{no_son_before, son_is, son_parent, one_parent}
use Rattle.sizes.specs.Span.{Span, meet, pull, Kind}
use Rattle.sizes.specs.Fold.{join_kind, later}
use Rattle.sizes.specs.Ranged.{held, son_range, Ranged}
use Rattle.sizes.proofs.RangedExists.{held_eq}
use Rattle.sizes.proofs.RangeExact.{held_son, held_skip}
use Rattle.tables.specs.declared.groups.Group.{Group as TableGroup}
use Rattle.tables.specs.Groups.{group_in}
use Rattle.tables.specs.SheetIn.{sheet_in, Tabled}
use Rattle.spans.specs.declared.span.Span.{Span as SpanCode}
use Rattle.spans.specs.declared.pair.Pair.{Pair as PairCode}
use Rattle.spans.specs.Held.{span_held, mode_kind}
use Rattle.measuring.specs.Pairs.{pair_in}
use Rattle.measuring.specs.Fitting.{Measures}
use Rattle.measuring.proofs.TablesLaws.{kind_in_law}
use Rattle.ranging.specs.Table.{no_span, span_in}

-- the groups up to i have their ranges R, and T is what the sons after i must make up
pub record Narrowed (s : Sheet) (z : ℕ → Bool → Span) (R T : ℕ → Span) (i : ℕ) : Type 0 where
  pub root : R 1 ≡ z 1 false
  pub son : (p g : ℕ) → Son s p g → g ≤ i → R g ≡ son_range s z (held s z R p g) p g
  pub rest : (p : ℕ) → Group s p → p ≤ i → T p ≡ held s z R p (suc i)

-- one more group, g, a son of p: what changes in the two tables
pub record Narrowing (s : Sheet) (z : ℕ → Bool → Span) (R T R' T' : ℕ → Span) (p g : ℕ) : Type 0 where
  pub range : R' g ≡ son_range s z (T p) p g
  pub ranges : (h : ℕ) → 1 ≤ h → (h ≡ g → ⊥) → R' h ≡ R h
  pub own : T' g ≡ R' g
  pub last : T' p ≡ meet (later s z p (s.size - g) false) (pull (join_kind s p) (T p) (z g false))
  pub rest : (h : ℕ) → 1 ≤ h → (h ≡ g → ⊥) → (h ≡ p → ⊥) → T' h ≡ T h

-- no son of p comes before p
held_own : {s : Sheet} → Tree s → (z : ℕ → Bool → Span) (R : ℕ → Span) (p n : ℕ) → n ≤ suc p → p ≤ s.size
    → held s z R p n ≡ R p
unfolding held
held_own t z R p zero l h = refl
held_own t z R p (suc n) l h = rw (no_son_before t p n (omega arith) h) (held_own t z R p n (omega arith) h)

module _ {s : Sheet} {z : ℕ → Bool → Span} (t : Tree s) (r : Rooted s) where
  -- the root alone
  pub narrowed_root : {R T : ℕ → Span} → R 1 ≡ z 1 false → T 1 ≡ z 1 false → Narrowed s z R T 1
  narrowed_root {R} {T} e o = record {
    root = e;
    son = λ p g k l. let one : g ≡ 1 = omega (arith, k.group.first) in
        absurd (omega (arith, r.top, rw one at k.under, k.above));
    rest = λ p q l. let one : p ≡ 1 = omega arith in
        rw one (o ∙ sym (held_own t z R 1 2 (omega arith) r.one.last ∙ e));
  }

  -- one more group
  pub narrowed_more : {R T R' T' : ℕ → Span} (p i : ℕ) → Son s p (suc i) → Narrowed s z R T i
      → Narrowing s z R T R' T' p (suc i) → Narrowed s z R' T' (suc i)
  narrowed_more {R} {T} {R'} {T'} p i k w v =
      let q = son_parent t k in
      let below : p < suc i = omega (arith, t.before (suc i) k.group) in
      let same : (h : ℕ) → 1 ≤ h → h < suc i → R' h ≡ R h = λ h a l. v.ranges h a (λ e. omega arith) in
      let up : T p ≡ held s z R' p (suc i) =
      w.rest p q (omega arith) ∙ sym (held_eq s z R' R p (suc i) (same p q.first below)) in
      record {
        root = v.ranges 1 (omega arith) (λ e. omega (arith, q.first)) ∙ w.root;
        son = λ a h j l. compare_eq h (suc i)
            (λ e. let o : a ≡ p = sym j.under ∙ ap s.parent e ∙ k.under in rw (e, o, ← up) v.range)
            (λ n. let b = t.before h j.group in
            rw (same h j.group.first (omega arith), held_eq s z R' R a h (same a j.above (omega arith)))
            (w.son a h j (omega arith)));
        rest = λ a j l. compare_eq a (suc i)
            (λ e. rw e (v.own ∙ sym (held_own t z R' (suc i) (suc (suc i)) (le_refl _) k.group.last)))
            (λ n. compare_eq a p
            (λ e. rw (e, held_son s z R' p (suc i) (son_is k), ← up) v.last)
            (λ o. v.rest a j.first n o ∙ w.rest a j (omega arith)
            ∙ sym (held_skip s z R' a (suc i) (one_parent k a o)
            ∙ held_eq s z R' R a (suc i) (same a j.first (omega arith)))));
      }

  -- all groups
  pub narrowed_all : {R T : ℕ → Span} → Narrowed s z R T s.size → Ranged s z R
  narrowed_all w = record { root = w.root; son = λ p g k. w.son p g k k.group.last }

-- a store at group g
span_same : (t : List SpanCode) (g : ℕ) (x : SpanCode) → 1 ≤ g → g ≤ length t → span_in (set t (g - 1) x) g ≡ span_held x
unfolding span_in
span_same t g x a l = ap span_held (get_or-set_same t (g - 1) x no_span (omega arith))

span_other : (t : List SpanCode) (g h : ℕ) (x : SpanCode) → 1 ≤ g → 1 ≤ h → (h ≡ g → ⊥) → span_in (set t (g - 1) x) h ≡ span_in t h
unfolding span_in
span_other t g h x a b n = ap span_held (get_or-set_other t (g - 1) (h - 1) x no_span (λ e. n (omega arith)))

-- one turn, x and y being what the parent's other sons leave for g and for those after it
pub narrow_step : {groups : List TableGroup} {n : ℕ} {spans after : List PairCode} (ranges rest : List SpanCode) {q : Kind}
    {x y : Span} (range left : SpanCode) → Tabled groups n → (g p : ℕ) → Son (sheet_in groups n) p g
    → q ≡ mode_kind (group_in groups (p - 1)).mode
    → x ≡ pull q (span_in rest p) (pair_in after g false) → span_held range ≡ meet (pair_in spans g false) x
    → y ≡ pull q (span_in rest p) (pair_in spans g false) → span_held left ≡ meet (pair_in after g false) y
    → g ≤ length ranges → g ≤ length rest
    → (z : ℕ → Bool → Span) → Measures (sheet_in groups n) z spans after
    → Narrowed (sheet_in groups n) z (span_in ranges) (span_in rest) (g - 1)
    → Narrowed (sheet_in groups n) z (span_in (set ranges (g - 1) range)) (span_in (set (set rest (g - 1) range) (p - 1) left)) g
narrow_step ranges rest range left k zero p j f x e y o a b z m w = absurd (omega (arith, j.group.first))
narrow_step {groups} {n} ranges rest range left k (suc i) p j f x e y o a b z m w =
    let d : suc i - 1 ≡ i = omega arith in
    let s = sheet_in groups n in
    let q = son_parent k.tree j in
    let below : p < suc i = omega (arith, k.tree.before (suc i) j.group, j.under) in
    let long : p ≤ length (set rest i range) = simp length-set (omega arith) in
    let kind = kind_in_law groups n p q in
    let mine = m.spanned (suc i) j.group in
    let late = m.followed p (suc i) j in
    let mid = set rest (suc i - 1) range in
    narrowed_more k.tree k.rooted p i j (rw d at w)
    (record {
      range = span_same ranges (suc i) range (omega arith) a ∙ e ∙ rw (x, mine, late, kind, f);
      ranges = λ h c n. span_other ranges (suc i) h range (omega arith) c n;
      own = span_other mid p (suc i) left q.first (omega arith) (λ r. omega arith) ∙ span_same rest (suc i) range (omega arith) b
          ∙ sym (span_same ranges (suc i) range (omega arith) a);
      last = span_same mid p left q.first (rw d long) ∙ o ∙ rw (y, mine, late, kind, f);
      rest = λ h c n r. span_other mid p h left q.first c r ∙ span_other rest (suc i) h range (omega arith) c n;
    })
