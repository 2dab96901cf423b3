-- The fold over the whole tree is exact: the spans of a group hold the numbers that choices give it, and no others.
use Prim.Native.Nat.{ℕ, ◌+◌, ◌≤◌, ◌<◌, suc, zero, ◌-◌, max}
use mathlib.Core.Path.{◌≡◌, sym, ◌∙◌, refl, ap}
use mathlib.Core.Bool.{Bool, true, cond}
use mathlib.Core.Logic.{◌↔◌}
use native.Mathlib.Omega.{arith}
use native.Mathlib.Nat.{le_refl}
use Rattle.laws.specs.Sum.{bit}
use Rattle.laws.proofs.Cases.{split, compare_le, below_suc}
use Rattle.meaning.specs.Sheet.{Sheet, AtMost, Group, Son}
use Rattle.meaning.specs.Tree.{Tree}
use Rattle.meaning.specs.Sons.{is_son}
use Rattle.meaning.proofs.SonLaws.{son_is, son_of_law}
use Rattle.sizes.specs.Balanced.{RuleAt, Choice}
use Rattle.sizes.specs.Span.{Span, In, eq, Makes, join}
use Rattle.sizes.specs.Fold.{join_kind, own, later, Measured}
use Rattle.sizes.specs.RuleSteps.{Upto}
use Rattle.sizes.proofs.SpanLaws.{Proper, in_meet, meet_join, near_join, near_proper}
use Rattle.sizes.proofs.JoinedLaws.{Nears, in_own, near_own}
use Rattle.sizes.proofs.RuleStepsLaws.{all_lasts, rule_upto, upto_eq, Lasts, lasts_all, rule_eq}
use Rattle.sizes.proofs.LaterLaws.{later_of, later_in, near_later, Taken, divide_states}

-- a choice, at one group
pub record ChoiceAt (s : Sheet) (may : ℕ → Bool → Bool) (p : ℕ) (f : ℕ → ℕ) (M : ℕ → Bool) : Type 0 where
  pub others : RuleAt s p f
  pub one : RuleAt s p (λ g. bit (M g))
  pub least : s.lo p ≤ f p + bit (M p)
  pub most : AtMost (f p + bit (M p)) (s.hi p)
  pub allowed : may p (M p) ≡ true

pub choice_at : (s : Sheet) (may : ℕ → Bool → Bool) (f : ℕ → ℕ) (M : ℕ → Bool)
    → Choice s may f M ↔ ((p : ℕ) → Group s p → ChoiceAt s may p f M)
choice_at s may f M = (
  λ h p g. record {
    others = h.others.at p g;
    one = h.one.at p g;
    least = h.least p g;
    most = h.most p g;
    allowed = h.allowed p g;
  },
  λ h. record {
    others = record { at = λ p g. (h p g).others };
    one = record { at = λ p g. (h p g).one };
    least = λ p g. (h p g).least;
    most = λ p g. (h p g).most;
    allowed = λ p g. (h p g).allowed;
  },
)

-- h at the sons of p, f elsewhere
abbrev pub over : {A : Type 0} → Sheet → ℕ → (ℕ → A) → (ℕ → A) → ℕ → A
over s p h f g = cond (is_son s p g) (h g) (f g)

pub over_son : {A : Type 0} (s : Sheet) (p : ℕ) (h f : ℕ → A) (g : ℕ) → Son s p g → over s p h f g ≡ h g
over_son s p h f g k = rw (son_is k)

pub over_other : {A : Type 0} (s : Sheet) (p : ℕ) (h f : ℕ → A) (g : ℕ) → Group s g → (s.parent g ≡ p → ⊥) → over s p h f g ≡ f g
over_other s p h f g k n = split (is_son s p g) (λ e. absurd (n (son_of_law s p g k.last e).under)) (λ e. rw e)

-- the rule at p for numbers F, from totals of p's sons
rule_made : (s : Sheet) (p : ℕ) (h F : ℕ → ℕ) (x : ℕ) → ((g : ℕ) → Son s p g → F g ≡ h g) → F p ≡ x
    → Upto s p h s.size x → RuleAt s p F
rule_made s p h F x w e u =
    (rule_upto s p F).1 (upto_eq s p h F s.size (F p) (all_lasts s p (λ g. h g ≡ F g) s.size (λ g k. sym (w g k))) (rw e u))

-- The rules hold at the groups below n, and every group whose parent is below n has its number in its span.
pub record Grown (s : Sheet) (z : ℕ → Bool → Span) (n : ℕ) (f : ℕ → ℕ) (M : ℕ → Bool) : Type 0 where
  pub others : (p : ℕ) → Group s p → p < n → RuleAt s p f
  pub one : (p : ℕ) → Group s p → p < n → RuleAt s p (λ g. bit (M g))
  pub within : (g : ℕ) → Group s g → s.parent g < n → In (f g) (z g (M g))

-- the same numbers and marks at the groups whose parent is below n
pub record AgreeBelow (s : Sheet) (n : ℕ) (f h : ℕ → ℕ) (M N : ℕ → Bool) : Type 0 where
  pub numbers : (g : ℕ) → Group s g → s.parent g < n → h g ≡ f g
  pub marks : (g : ℕ) → Group s g → s.parent g < n → N g ≡ M g

-- a choice that keeps the numbers and marks of the groups whose parent is below n
abbrev pub KeepingChoice : (s : Sheet) (may : ℕ → Bool → Bool) (n : ℕ) (f : ℕ → ℕ) (M : ℕ → Bool) → Type 0
KeepingChoice s may n f M = (h : ℕ → ℕ) × (N : ℕ → Bool) × Choice s may h N × AgreeBelow s n f h M N

kept_then : (s : Sheet) (may : ℕ → Bool → Bool) (n : ℕ) (f h : ℕ → ℕ) (M N : ℕ → Bool) → AgreeBelow s n f h M N
    → KeepingChoice s may (suc n) h N → KeepingChoice s may n f M
kept_then s may n f h M N a u = (
  u.0,
  u.1,
  u.2,
  record {
    numbers = λ g k l. u.3.numbers g k (omega arith) ∙ a.numbers g k l;
    marks = λ g k l. u.3.marks g k (omega arith) ∙ a.marks g k l;
  },
)

module _ (s : Sheet) (may : ℕ → Bool → Bool) (z : ℕ → Bool → Span) (t : Tree s) (m : Measured s may z) where
  -- a number is in p's span exactly when the fold of p's sons has it and p's own bounds and flag allow it
  pub in_span : (p : ℕ) → Group s p → (c : Bool) (r : ℕ)
      → In r (z p c) ↔ (In r (later s z p s.size c) × In r (own s may p c))
  in_span p g c r = rw (m.at p g c) (in_meet r (later s z p s.size c) (own s may p c))

  -- the two spans of every group are near one number
  near_down : (d g : ℕ) → Group s g → s.size < g + d → (k : ℕ) × Nears k (z g)
  near_down zero g k l = absurd (omega arith)
  near_down (suc d) g k l =
      let w = near_later s z g s.size
      (all_lasts s g (λ h. (k : ℕ) × Nears k (z h)) s.size
      (λ h j. near_down d h j.group (omega (arith, t.before h j.group)))) in (
        max w.0 (s.lo g),
        λ c. rw (m.at g k c, meet_join)
            (near_join eq _ _ (bit c) (bit c) (bit c) w.0 (s.lo g) (refl, refl) (w.1 c) (near_own s may g c)),
      )

  pub near : (g : ℕ) → Group s g → (k : ℕ) × Nears k (z g)
  near g k = near_down s.size g k (omega arith)

  pub near_sons : (p k : ℕ) → Lasts s p (λ g. (n : ℕ) × Nears n (z g)) k
  near_sons p k = all_lasts s p (λ g. (n : ℕ) × Nears n (z g)) k (λ g j. near g j.group)

  -- no span with ends is empty
  pub span_proper : (g : ℕ) → Group s g → (c : Bool) → Proper (z g c)
  span_proper g k c = let w = near g k in near_proper (bit c) w.0 (z g c) (w.1 c)

  pub later_proper : (p k : ℕ) (c : Bool) → Proper (later s z p k c)
  later_proper p k c =
      let w = near_later s z p k (near_sons p k) in
      near_proper (bit c) w.0 (later s z p k c) (w.1 c)

  -- Every choice has its numbers in the spans: also a choice that is one only at the groups of Q, where Q has the sons
  -- of its groups.
  sound_down : (Q : ℕ → Type 0) → ((p g : ℕ) → Q p → Son s p g → Q g) → (f : ℕ → ℕ) (M : ℕ → Bool)
      → ((p : ℕ) → Group s p → Q p → ChoiceAt s may p f M) → (d g : ℕ) → Group s g → Q g → s.size < g + d
      → In (f g) (z g (M g))
  sound_down Q q f M c zero g k i l = absurd (omega arith)
  sound_down Q q f M c (suc d) g k i l =
      let a = c g k i in
      (in_span g k (M g) (f g)).1 (
        later_of s z g f M s.size (f g) (M g)
            ((rule_upto s g f).0 a.others)
            ((rule_upto s g (λ h. bit (M h))).0 a.one)
            (all_lasts s g (λ h. In (f h) (z h (M h))) s.size
            (λ h j. sound_down Q q f M c d h j.group (q g h i j) (omega (arith, t.before h j.group)))),
        (in_own s may g (M g) (f g)).1 (a.allowed, a.least, a.most),
      )

  pub sound_at : (Q : ℕ → Type 0) → ((p g : ℕ) → Q p → Son s p g → Q g) → (f : ℕ → ℕ) (M : ℕ → Bool)
      → ((p : ℕ) → Group s p → Q p → ChoiceAt s may p f M) → (g : ℕ) → Group s g → Q g → In (f g) (z g (M g))
  sound_at Q q f M c g k i = sound_down Q q f M c s.size g k i (omega arith)

  pub sound : (f : ℕ → ℕ) (M : ℕ → Bool) → Choice s may f M → (g : ℕ) → Group s g → In (f g) (z g (M g))
  sound f M c g k = sound_at (λ g. Unit {0}) (λ p g i j. tt) f M (λ p g i. (choice_at s may f M).0 c p g) g k tt

  -- past the last group that is a choice
  grown_choice : (n : ℕ) (f : ℕ → ℕ) (M : ℕ → Bool) → s.size < n → Grown s z n f M → Choice s may f M
  grown_choice n f M l h =
      (choice_at s may f M).1
      (λ p g. let i = h.within p g (omega (arith, t.before p g)) in
      let o = (in_own s may p (M p) (f p)).0 ((in_span p g (M p) (f p)).0 i).1 in
      record { others = h.others p g (omega arith); one = h.one p g (omega arith); least = o.1; most = o.2; allowed = o.0 })

  -- the rules for F up to n, from those for f below n and totals h of the sons of n
  rules_more : (n : ℕ) (f F h : ℕ → ℕ) → Group s n → ((g : ℕ) → Group s g → s.parent g < n → F g ≡ f g)
      → ((g : ℕ) → Son s n g → F g ≡ h g) → Upto s n h s.size (f n) → ((p : ℕ) → Group s p → p < n → RuleAt s p f)
      → (p : ℕ) → Group s p → p < suc n → RuleAt s p F
  rules_more n f F h k a b u w p g l =
      below_suc p n l
      (λ e. rw e (rule_made s n h F (f n) b (a n k (t.before n k)) u))
      (λ i. rule_eq s p f F
      (λ c j. sym (a c j.group (omega arith))) (sym (a p g (omega (arith, t.before p g)))) (w p g i))

  -- the sons of n take the numbers that the fold gives them
  over_agree : (n : ℕ) (f h : ℕ → ℕ) (M N : ℕ → Bool) → AgreeBelow s n f (over s n h f) M (over s n N M)
  over_agree n f h M N =
      record {
        numbers = λ g k l. over_other s n h f g k (λ e. omega arith);
        marks = λ g k l. over_other s n N M g k (λ e. omega arith);
      }

  pub grown_more : (n : ℕ) (f : ℕ → ℕ) (M : ℕ → Bool) (h : ℕ → ℕ) (N : ℕ → Bool) → Group s n → Grown s z n f M
      → Taken s z n s.size (f n) (M n) h N → Grown s z (suc n) (over s n h f) (over s n N M)
  grown_more n f M h N k w v =
      let a = over_agree n f h M N in
      record {
        others = rules_more n f (over s n h f) h k a.numbers (over_son s n h f) v.numbers w.others;
        one = rules_more n (λ g. bit (M g)) (λ g. bit (over s n N M g)) (λ g. bit (N g)) k
            (λ g j l. ap bit (a.marks g j l)) (λ g j. ap bit (over_son s n N M g j)) v.marks w.one;
        within = λ g j l. below_suc (s.parent g) n l
            (λ e. let b : Son s n g = record { above = k.first; group = j; under = e } in
            rw (over_son s n h f g b, over_son s n N M g b) (lasts_all s n (λ b. In (h b) (z b (N b))) v.within g b))
            (λ i. rw (a.numbers g j i, a.marks g j i) (w.within g j i));
      }

  grow_down : (d n : ℕ) → 1 ≤ n → s.size < n + d → (f : ℕ → ℕ) (M : ℕ → Bool) → Grown s z n f M
      → KeepingChoice s may n f M
  grow_down zero n i l f M w =
      (f, M, grown_choice n f M (omega arith) w, record { numbers = λ g k l. refl; marks = λ g k l. refl })
  grow_down (suc d) n i l f M w =
      compare_le n s.size
      (λ j. let k : Group s n = omega arith in
      let b = ((in_span n k (M n) (f n)).0 (w.within n k (t.before n k))).0 in
      let v = later_in s z n s.size (f n) (M n) (near_sons n s.size) b in
      kept_then s may n f (over s n v.0 f) M (over s n v.1 M) (over_agree n f v.0 M v.1)
      (grow_down d (suc n) (omega arith) (omega arith) _ _ (grown_more n f M v.0 v.1 k w v.2)))
      (λ j. (f, M, grown_choice n f M j w, record { numbers = λ g k l. refl; marks = λ g k l. refl }))

  -- Numbers and marks that are right so far can be completed: those of the groups whose parent is below n are kept, and
  -- the sons of n, n + 1, .. are given theirs anew.
  pub grow : (n : ℕ) → 1 ≤ n → (f : ℕ → ℕ) (M : ℕ → Bool) → Grown s z n f M
      → KeepingChoice s may n f M
  grow n i f M w = grow_down s.size n i (omega arith) f M w

  -- numbers and marks of the parentless groups, in their spans, are those of some choice
  pub had : (f : ℕ → ℕ) (M : ℕ → Bool) → ((g : ℕ) → Group s g → s.parent g ≡ 0 → In (f g) (z g (M g)))
      → KeepingChoice s may 1 f M
  had f M w =
      grow 1 (le_refl 1) f M
      (record {
        others = λ p g l. absurd (omega arith);
        one = λ p g l. absurd (omega arith);
        within = λ g k l. w g k (omega arith);
      })

  -- with one parentless group: exactly the numbers in its span are had
  pub had_root : (k : ℕ) (c : Bool) → Group s 1 → ((g : ℕ) → Group s g → s.parent g ≡ 0 → g ≡ 1)
      → In k (z 1 c) ↔ ((f : ℕ → ℕ) × (M : ℕ → Bool) × Choice s may f M × (f 1 ≡ k) × (M 1 ≡ c))
  had_root k c r o = (
    λ h. let w = had (λ g. k) (λ g. c) (λ g j e. rw (o g j e) h) in
        let e : s.parent 1 < 1 = t.before 1 r in
        (w.0, w.1, w.2, w.3.numbers 1 r e, w.3.marks 1 r e),
    λ w. rw (w.3, w.4) at (sound w.0 w.1 w.2 1 r),
  )

  -- a number of the fold at p's son `size - k`: some states of the sons after it and of that son can be joined to it
  pub step_states : (p k x : ℕ) (c : Bool) → is_son s p (s.size - k) ≡ true → In x (later s z p (suc k) c)
      → (b d : Bool) × Makes (join_kind s p) (bit b) (bit d) (bit c)
      × In x (join (join_kind s p) (later s z p k b) (z (s.size - k) d))
  step_states p k x c e h = divide_states s z p k x c (near_sons p (suc k)) e h
