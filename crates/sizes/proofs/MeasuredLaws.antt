-- Spans that meet the equation of the fold exist, and those of a group depend only on the groups at and below it.
use Prim.Native.Nat.{ℕ, zero, suc, ◌-◌, ◌≤◌, ◌+◌, ◌<◌}
use mathlib.Core.Path.{◌≡◌, refl, ap, ◌∙◌, fun_ext, sym}
use mathlib.Core.Bool.{Bool}
use native.Mathlib.Omega.{arith}
use native.Mathlib.Nat.{le_refl}
use Rattle.laws.specs.Sum.{sum, bit}
use Rattle.laws.proofs.Cases.{split}
use Rattle.laws.proofs.SumLaws.{sum_eq}
use Rattle.meaning.specs.Sheet.{Sheet, Group, Son}
use Rattle.meaning.specs.Tree.{Tree}
use Rattle.meaning.specs.Sons.{is_son, sons}
use Rattle.meaning.specs.SonList.{son_count}
use Rattle.meaning.proofs.SonLaws.{no_son}
use Rattle.sizes.specs.Span.{Span, Kind, meet}
use Rattle.sizes.specs.Fold.{joined, join_kind, shut, start, later, own, Measured, spans_by, spans_of}
use Rattle.sizes.proofs.RuleStepsLaws.{Lasts, lasts_less, all_lasts}
use Rattle.sizes.proofs.LaterLaws.{later_none, later_son, later_skip}

-- two sheets with flags say the same of group p and its sons
pub record AlikeAt (s r : Sheet) (may can : ℕ → Bool → Bool) (p : ℕ) : Type 0 where
  pub sons : (g : ℕ) → Group s g → is_son s p g ≡ is_son r p g
  pub lo : s.lo p ≡ r.lo p
  pub hi : s.hi p ≡ r.hi p
  pub disjoint : s.disjoint p ≡ r.disjoint p
  pub cover : s.cover p ≡ r.cover p
  pub same : s.same p ≡ r.same p
  pub flags : (c : Bool) → may p c ≡ can p c

pub alike_self : (s : Sheet) (may : ℕ → Bool → Bool) (p : ℕ) → AlikeAt s s may may p
alike_self s may p =
    record {
      sons = λ g k. refl;
      lo = refl;
      hi = refl;
      disjoint = refl;
      cover = refl;
      same = refl;
      flags = λ c. refl;
    }

joined_eq : (q : Kind) (a b z y : Bool → Span) → ((c : Bool) → a c ≡ b c) → ((c : Bool) → z c ≡ y c) → (c : Bool)
    → joined q a z c ≡ joined q b y c
joined_eq q a b z y h k c = ap (λ u. joined q u z c) (fun_ext h) ∙ ap (λ u. joined q b u c) (fun_ext k)

module _ (s r : Sheet) (may can : ℕ → Bool → Bool) (z : s.size ≡ r.size) (p : ℕ) (a : AlikeAt s r may can p) where
  son_alike : (g : ℕ) → g ≤ s.size → is_son s p g ≡ is_son r p g
  son_alike zero l = no_son s p ∙ sym (no_son r p)
  son_alike (suc g) l = a.sons (suc g) (omega arith)

  kind_alike : join_kind s p ≡ join_kind r p
  unfolding join_kind
  kind_alike = rw (a.same, a.disjoint)

  count_alike : son_count s p ≡ son_count r p
  unfolding sons
  count_alike =
      sum_eq _ (λ g. bit (is_son r p g)) (suc s.size) (λ g l. ap bit (son_alike g (omega arith)))
      ∙ ap (λ n. sum (λ g. bit (is_son r p g)) (suc n)) z

  shut_alike : shut s p ≡ shut r p
  unfolding shut
  shut_alike = rw (a.same, a.disjoint, a.cover, count_alike)

  own_alike : (c : Bool) → own s may p c ≡ own r can p c
  unfolding own
  own_alike c = rw (a.flags c, a.lo, a.hi)

  later_alike : (y x : ℕ → Bool → Span) (k : ℕ) → Lasts s p (λ g. (c : Bool) → y g c ≡ x g c) k → (c : Bool)
      → later s y p k c ≡ later r x p k c
  later_alike y x zero w c = later_none s y p c ∙ ap (λ b. start b c) shut_alike ∙ sym (later_none r x p c)
  later_alike y x (suc k) w c =
      let before = later_alike y x k (lasts_less s p (λ g. (c : Bool) → y g c ≡ x g c) k w) in
      let i : r.size - k ≡ s.size - k = rw z in
      let same = son_alike (s.size - k) (omega arith) in
      split (is_son s p (s.size - k))
      (λ e. later_son s y p k c e
      ∙ joined_eq (join_kind s p) _ _ _ _ before (w k (le_refl (suc k)) e) c
      ∙ rw (kind_alike, ← i) (sym (later_son r x p k c (rw (i, ← same) e))))
      (λ e. later_skip s y p k c e ∙ before c ∙ sym (later_skip r x p k c (rw (i, ← same) e)))

-- Spans of two sheets that say the same of the groups of Q, where Q has the sons of its groups, are the same there.
alike_down : (s r : Sheet) (may can : ℕ → Bool → Bool) (y x : ℕ → Bool → Span) → Tree s → Measured s may y → Measured r can x
    → s.size ≡ r.size → (Q : ℕ → Type 0) → ((p g : ℕ) → Q p → Son s p g → Q g)
    → ((p : ℕ) → Group s p → Q p → AlikeAt s r may can p) → (d g : ℕ) → Group s g → Q g → s.size < g + d → (c : Bool)
    → y g c ≡ x g c
alike_down s r may can y x t m n e Q q a zero g k i l c = absurd (omega arith)
alike_down s r may can y x t m n e Q q a (suc d) g k i l c =
    let j : Group r g = omega arith in
    let b = a g k i in
    let sons = later_alike s r may can e g b y x s.size
    (all_lasts s g (λ h. (c : Bool) → y h c ≡ x h c) s.size
    (λ h o. alike_down s r may can y x t m n e Q q a d h o.group (q g h i o) (omega (arith, t.before h o.group)))) c in
    m.at g k c
    ∙ ap (λ u. meet u (own s may g c)) (sons ∙ ap (λ k. later r x g k c) e)
    ∙ ap (λ u. meet (later r x g r.size c) u) (own_alike s r may can e g b c)
    ∙ sym (n.at g j c)

pub measured_alike : (s r : Sheet) (may can : ℕ → Bool → Bool) (y x : ℕ → Bool → Span) → Tree s → Measured s may y
    → Measured r can x → s.size ≡ r.size → (Q : ℕ → Type 0) → ((p g : ℕ) → Q p → Son s p g → Q g)
    → ((p : ℕ) → Group s p → Q p → AlikeAt s r may can p) → (g : ℕ) → Group s g → Q g → (c : Bool) → y g c ≡ x g c
measured_alike s r may can y x t m n e Q q a g k i c =
    alike_down s r may can y x t m n e Q q a s.size g k i (omega arith) c

-- often enough is enough
spans_by_enough : (s : Sheet) (may : ℕ → Bool → Bool) → Tree s → (d e g : ℕ) → Group s g → s.size < g + d → s.size < g + e
    → (c : Bool) → spans_by s may d g c ≡ spans_by s may e g c
unfolding spans_by
spans_by_enough s may t zero e g k l h c = absurd (omega arith)
spans_by_enough s may t (suc d) zero g k l h c = absurd (omega arith)
spans_by_enough s may t (suc d) (suc e) g k l h c =
    ap (λ u. meet u (own s may g c))
    (later_alike s s may may refl g (alike_self s may g) (spans_by s may d) (spans_by s may e) s.size
    (all_lasts s g (λ i. (c : Bool) → spans_by s may d i c ≡ spans_by s may e i c) s.size
    (λ i o. spans_by_enough s may t d e i o.group
    (omega (arith, t.before i o.group)) (omega (arith, t.before i o.group)))) c)

pub spans_measured : (s : Sheet) (may : ℕ → Bool → Bool) → Tree s → Measured s may (spans_of s may)
unfolding spans_of spans_by
spans_measured s may t =
    record { at = λ p g c. spans_by_enough s may t s.size (suc s.size) p g (omega arith) (omega arith) c }
