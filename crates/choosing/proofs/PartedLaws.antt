-- Laws of parting a number between one son and the later ones.
use Prim.Native.Nat.{ℕ, ◌-◌, ◌≤◌, zero, suc, ◌+◌}
use mathlib.Core.Path.{◌≡◌, ◌∙◌, subst, refl, sym, ap}
use mathlib.Core.Bool.{Bool, false}
use native.Mathlib.Omega.{arith}
use native.Mathlib.Nat.{le_refl}
use Rattle.laws.specs.Sum.{bit}
use Rattle.laws.proofs.Cases.{compare_eq}
use Rattle.meaning.specs.Sheet.{Sheet, Son, Group}
use Rattle.meaning.specs.Tree.{Tree}
use Rattle.meaning.specs.Sons.{is_son}
use Rattle.meaning.proofs.SonLaws.{no_son_before, son_is, son_parent, one_parent}
use Rattle.sizes.specs.Balanced.{Choice}
use Rattle.sizes.specs.Span.{Span, Makes, In}
use Rattle.sizes.specs.Fold.{join_kind, later, Measured}
use Rattle.sizes.specs.RuleSteps.{Upto}
use Rattle.sizes.proofs.Possible.{choice_eq}
use Rattle.sizes.proofs.JoinedLaws.{start_in}
use Rattle.sizes.proofs.RuleStepsLaws.{upto_skip, upto_son, upto_none, rule_upto}
use Rattle.sizes.proofs.LaterLaws.{later_skip, later_none}
use Rattle.sizes.proofs.Exact.{in_span, step_states, grow}
use Rattle.choosing.specs.Parted.{Shared, Leads, Parted, Divisible}

-- one more group, g, a son of p: what changes in the four tables
pub record Dividing (s : Sheet) (z : ℕ → Bool → Span) (f : ℕ → ℕ) (M : ℕ → Bool) (R : ℕ → ℕ) (C : ℕ → Bool)
    (f' : ℕ → ℕ) (M' : ℕ → Bool) (R' : ℕ → ℕ) (C' : ℕ → Bool) (p g : ℕ) : Type 0 where
  pub share : Shared (join_kind s p) (later s z p (s.size - g)) (z g) (R p) (C p) (R' p) (C' p) (f' g) (M' g)
  pub own_rest : R' g ≡ f' g
  pub own_state : C' g ≡ M' g
  pub numbers : (h : ℕ) → 1 ≤ h → (h ≡ g → ⊥) → f' h ≡ f h
  pub marks : (h : ℕ) → 1 ≤ h → (h ≡ g → ⊥) → M' h ≡ M h
  pub rests : (h : ℕ) → 1 ≤ h → (h ≡ g → ⊥) → (h ≡ p → ⊥) → R' h ≡ R h
  pub states : (h : ℕ) → 1 ≤ h → (h ≡ g → ⊥) → (h ≡ p → ⊥) → C' h ≡ C h

-- the sons after g are all sons of g
upto_own : {s : Sheet} → Tree s → (g : ℕ) (G : ℕ → ℕ) (x : ℕ) → g ≤ s.size → (d : ℕ) → d ≤ g
    → Upto s g G (s.size - g) x → Upto s g G (d + (s.size - g)) x
upto_own {s} t g G x k zero l u = let e : 0 + (s.size - g) ≡ s.size - g = omega arith in rw e u
upto_own {s} t g G x k (suc d) l u =
    let e : suc d + (s.size - g) ≡ suc (d + (s.size - g)) = omega arith in
    rw e
    ((upto_skip s g G (d + (s.size - g)) x (no_son_before t g (s.size - (d + (s.size - g))) (omega arith) k)).1
    (upto_own t g G x k d (omega arith) u))

later_own : {s : Sheet} → Tree s → (z : ℕ → Bool → Span) (g : ℕ) (c : Bool) → g ≤ s.size → (d : ℕ) → d ≤ g
    → later s z g (d + (s.size - g)) c ≡ later s z g (s.size - g) c
later_own {s} t z g c k zero l = let e : 0 + (s.size - g) ≡ s.size - g = omega arith in rw e
later_own {s} t z g c k (suc d) l =
    let e : suc d + (s.size - g) ≡ suc (d + (s.size - g)) = omega arith in
    rw e
    (later_skip s z g (d + (s.size - g)) c (no_son_before t g (s.size - (d + (s.size - g))) (omega arith) k)
    ∙ later_own t z g c k d (omega arith))

leads_own : {s : Sheet} → Tree s → (g : ℕ) (F : ℕ → ℕ) (x : ℕ) → g ≤ s.size → Leads s g F g x x
leads_own {s} t g F x k G w u =
    let e : g + (s.size - g) ≡ s.size = omega arith in
    subst (λ n. Upto s g G n x) e (upto_own t g G x k g (le_refl g) u)

-- the group before: a step over one more group
leads_son : {s : Sheet} (p i : ℕ) (F F' : ℕ → ℕ) (x x' y : ℕ) → Son s p (suc i) → ((h : ℕ) → 1 ≤ h → h ≤ i → F' h ≡ F h)
    → Makes (join_kind s p) x' (F' (suc i)) x → Leads s p F i x y → Leads s p F' (suc i) x' y
leads_son {s} p i F F' x x' y k same m w G a u =
    let e : s.size - i ≡ suc (s.size - suc i) = omega (arith, k.group.last) in
    let o : s.size - (s.size - suc i) ≡ suc i = omega (arith, k.group.last) in
    w G (λ g j l. a g j (omega arith) ∙ same g j.group.first l)
    (rw e ((upto_son s p G (s.size - suc i) x (rw o (son_is k))).1 (x', u, rw (o, a (suc i) k (le_refl (suc i))) m)))

leads_skip : {s : Sheet} (p i : ℕ) (F F' : ℕ → ℕ) (x y : ℕ) → suc i ≤ s.size → is_son s p (suc i) ≡ false
    → ((h : ℕ) → 1 ≤ h → h ≤ i → F' h ≡ F h) → Leads s p F i x y → Leads s p F' (suc i) x y
leads_skip {s} p i F F' x y l n same w G a u =
    let e : s.size - i ≡ suc (s.size - suc i) = omega arith in
    let o : s.size - (s.size - suc i) ≡ suc i = omega arith in
    w G (λ g j k. a g j (omega arith) ∙ same g j.group.first k)
    (rw e ((upto_skip s p G (s.size - suc i) x (rw o n)).1 u))

module _ {s : Sheet} {may : ℕ → Bool → Bool} {z : ℕ → Bool → Span} (t : Tree s) (m : Measured s may z) where
  -- what is left to the sons of a group before any of them
  own_left : (g : ℕ) → Group s g → (x : ℕ) (c : Bool) → In x (z g c) → In x (later s z g (s.size - g) c)
  own_left g q x c h =
      let e : g + (s.size - g) ≡ s.size = omega arith in
      let all = ((in_span s may z t m g q c x).0 h).0 in
      subst (In x) (sym (ap (λ n. later s z g n c) e) ∙ later_own t z g c q.last g (le_refl g)) all

  -- the root alone
  pub parted_root : {f : ℕ → ℕ} {M : ℕ → Bool} {R : ℕ → ℕ} {C : ℕ → Bool} → Group s 1 → In (f 1) (z 1 (M 1))
      → R 1 ≡ f 1 → C 1 ≡ M 1 → Parted s z f M R C 1
  parted_root {f} {M} {R} {C} q h e o =
      let one : (p : ℕ) → Group s p → p ≤ 1 → p ≡ 1 = λ p k l. omega arith in
      record {
        within = λ p k l. rw (one p k l) h;
        left = λ p k l. rw (one p k l, e, o) (own_left 1 q (f 1) (M 1) h);
        numbers = λ p k l. rw (one p k l, e) (leads_own t 1 f (f 1) q.last);
        marks = λ p k l. rw (one p k l, o) (leads_own t 1 (λ g. bit (M g)) (bit (M 1)) q.last);
      }

  -- the number left to a group's later sons can be divided between the first of them and the others
  pub parted_divisible : {f : ℕ → ℕ} {M : ℕ → Bool} {R : ℕ → ℕ} {C : ℕ → Bool} (p i : ℕ) → Son s p (suc i)
      → Parted s z f M R C i
      → Divisible (join_kind s p) (later s z p (s.size - suc i)) (z (suc i)) (R p) (C p)
  parted_divisible {R = R} {C = C} p i k w =
      let q = son_parent t k in
      let e : s.size - i ≡ suc (s.size - suc i) = omega (arith, k.group.last) in
      let o : s.size - (s.size - suc i) ≡ suc i = omega (arith, k.group.last) in
      let h = w.left p q (omega (arith, t.before (suc i) k.group, k.under)) in
      rw o at
      (step_states s may z t m p (s.size - suc i) (R p) (C p) (rw o (son_is k)) (subst (λ n. In (R p) (later s z p n
      (C p))) e h))

  -- one more group
  pub parted_more : {f f' : ℕ → ℕ} {M M' : ℕ → Bool} {R R' : ℕ → ℕ} {C C' : ℕ → Bool} (p i : ℕ) → Son s p (suc i)
      → Parted s z f M R C i → Dividing s z f M R C f' M' R' C' p (suc i) → Parted s z f' M' R' C' (suc i)
  parted_more {f} {f'} {M} {M'} {R} {R'} {C} {C'} p i k w v =
      let q = son_parent t k in
      let up : p ≤ i = omega (arith, t.before (suc i) k.group, k.under) in
      let last = k.group.last in
      let e : s.size - i ≡ suc (s.size - suc i) = omega arith in
      let o : s.size - (s.size - suc i) ≡ suc i = omega arith in
      let same : (h : ℕ) → 1 ≤ h → h ≤ i → f' h ≡ f h = λ h a l. v.numbers h a (λ x. omega arith) in
      let mark : (h : ℕ) → 1 ≤ h → h ≤ i → M' h ≡ M h = λ h a l. v.marks h a (λ x. omega arith) in
      let bits : (h : ℕ) → 1 ≤ h → h ≤ i → bit (M' h) ≡ bit (M h) = λ h a l. ap bit (mark h a l) in
      record {
        within = λ h j l. compare_eq h (suc i)
            (λ x. rw x v.share.son)
            (λ n. rw (same h j.first (omega arith), mark h j.first (omega arith)) (w.within h j (omega arith)));
        left = λ h j l. compare_eq h (suc i)
            (λ x. rw (x, v.own_rest, v.own_state) (own_left (suc i) k.group (f' (suc i)) (M' (suc i)) v.share.son))
            (λ n. compare_eq h p
            (λ x. rw x v.share.rest)
            (λ y. rw (v.rests h j.first n y, v.states h j.first n y)
            (subst (In (R h)) (ap (λ n. later s z h n (C h)) e ∙ later_skip s z h (s.size - suc i) (C h)
            (rw o (one_parent k h y)))
            (w.left h j (omega arith)))));
        numbers = λ h j l. compare_eq h (suc i)
            (λ x. rw (x, v.own_rest) (leads_own t (suc i) f' (f' (suc i)) last))
            (λ n. compare_eq h p
            (λ x. rw (x, same p q.first up)
            (leads_son p i f f' (R p) (R' p) (f p) k same v.share.numbers (w.numbers p q up)))
            (λ y. rw (v.rests h j.first n y, same h j.first (omega arith))
            (leads_skip h i f f' (R h) (f h) last (one_parent k h y) same (w.numbers h j (omega arith)))));
        marks = λ h j l. compare_eq h (suc i)
            (λ x. rw (x, v.own_state) (leads_own t (suc i) (λ g. bit (M' g)) (bit (M' (suc i))) last))
            (λ n. compare_eq h p
            (λ x. rw (x, mark p q.first up)
            (leads_son p i (λ g. bit (M g)) (λ g. bit (M' g)) (bit (C p)) (bit (C' p)) (bit (M p)) k bits v.share.states
            (w.marks p q up)))
            (λ y. rw (v.states h j.first n y, mark h j.first (omega arith))
            (leads_skip h i (λ g. bit (M g)) (λ g. bit (M' g)) (bit (C h)) (bit (M h)) last (one_parent k h y) bits (w.marks h j
            (omega arith)))));
      }

  -- past the last group
  pub parted_choice : {f : ℕ → ℕ} {M : ℕ → Bool} {R : ℕ → ℕ} {C : ℕ → Bool} → Parted s z f M R C s.size → Choice s may f M
  parted_choice {f} {M} {R} {C} w =
      let none : s.size - s.size ≡ 0 = omega arith in
      let ends : (p : ℕ) → Group s p → In (R p) (later s z p 0 (C p)) = λ p q. subst (λ n. In (R p) (later s z p n
      (C p))) none (w.left p q q.last) in
      let v = grow s may z t m (suc s.size) (omega arith) f M
      (record {
        others = λ p q l. (rule_upto s p f).1
            (w.numbers p q q.last f (λ g k j. refl)
            (rw none ((upto_none s p f (R p)).1 (start_in _ (C p) (R p) (rw (later_none s z p (C p)) at (ends p q))).0)));
        one = λ p q l. (rule_upto s p (λ g. bit (M g))).1
            (w.marks p q q.last (λ g. bit (M g)) (λ g k j. refl)
            (rw none ((upto_none s p (λ g. bit (M g)) (bit (C p))).1 (start_in _ (C p) (R p) (rw (later_none s z p (C p)) at
            (ends p q))).1)));
        within = λ g q l. w.within g q q.last;
      }) in
      choice_eq (λ g q. v.3.numbers g q (omega (arith, t.before g q))) (λ g q. v.3.marks g q (omega
      (arith, t.before g q))) v.2
