-- Links after a store, the chain of a group's sons, and the fold over them along the chain.
use Prim.Native.Nat.{ℕ, zero, suc, ◌-◌, ◌≤◌, ◌<◌, ◌+◌}
use mathlib.Core.Path.{◌≡◌, ◌∙◌, refl, sym, ap}
use mathlib.Core.Bool.{true, false, Bool}
use mathlib.Core.List.{List}
use native.Mathlib.Omega.{arith}
use native.Mathlib.Nat.{le_refl}
use Rattle.std.specs.Prelude.{Option, None}
use Rattle.laws.specs.Sum.{sum, bit}
use Rattle.laws.proofs.Cases.{split, compare_le, below_suc, compare_eq, true_not_false}
use Rattle.meaning.specs.Sheet.{Sheet, Group, Son}
use Rattle.meaning.specs.Tree.{Tree, Rooted}
use Rattle.meaning.specs.Sons.{is_son, sons}
use Rattle.meaning.specs.SonList.{son_count}
use Rattle.meaning.proofs.SonLaws.{son_of_law, son_is, son_parent, one_parent, root_no_son, no_son_before, no_son}
use Rattle.sizes.specs.Span.{Span}
use Rattle.sizes.specs.Fold.{join_kind, shut, start, joined, later}
use Rattle.sizes.proofs.LaterLaws.{later_none, later_son, later_skip}
use Rattle.tables.specs.declared.groups.GroupNo.{GroupNo}
use Rattle.tables.specs.Names.{meant_number, Numbered}
use Rattle.measuring.specs.Links.{group_of, link_in, Linked, son_below, Chained}

-- a group by its number
pub meant_group : (n : ℕ) → meant_number (group_of n) ≡ n
meant_group zero = refl
meant_group (suc n) = refl

pub numbered_group : (n : ℕ) → Numbered (group_of n)
numbered_group zero = tt
numbered_group (suc n) = omega arith

-- the greatest son below a number
pub below_hit : (s : Sheet) (p n : ℕ) → is_son s p n ≡ true → son_below s p (suc n) ≡ n
unfolding son_below
below_hit s p n e = rw e

pub below_miss : (s : Sheet) (p n : ℕ) → is_son s p n ≡ false → son_below s p (suc n) ≡ son_below s p n
unfolding son_below
below_miss s p n e = rw e

pub below_none : (s : Sheet) (p : ℕ) → son_below s p 0 ≡ 0
unfolding son_below
below_none s p = refl

-- it is one, unless it is 0
pub below_is : (s : Sheet) (p n : ℕ) → 1 ≤ son_below s p n → (is_son s p (son_below s p n) ≡ true) × (son_below s p n < n)
below_is s p zero l = absurd (omega (arith, below_none s p))
below_is s p (suc n) l =
    split (is_son s p n)
    (λ e. rw (below_hit s p n e) (e, le_refl (suc n)))
    (λ e. let b = below_miss s p n e in
    let w = below_is s p n (rw b at l) in
    rw b (w.0, omega arith))

pub below_most : (s : Sheet) (p n : ℕ) → son_below s p (suc n) ≤ n
below_most s p n =
    compare_le 1 (son_below s p (suc n)) (λ l. omega (arith, (below_is s p (suc n) l).1)) (λ l. omega arith)

pub below_less : (s : Sheet) (p n : ℕ) → 1 ≤ n → son_below s p n < n
below_less s p zero l = absurd (omega arith)
below_less s p (suc n) l = omega (arith, below_most s p n)

-- there is none between it and the number
pub below_gap : (s : Sheet) (p n j : ℕ) → son_below s p n < j → j < n → is_son s p j ≡ false
below_gap s p zero j l k = absurd (omega arith)
below_gap s p (suc n) j l k =
    split (is_son s p n)
    (λ e. absurd (omega (arith, below_hit s p n e)))
    (λ e. below_suc j n k (λ q. rw q e) (λ q. below_gap s p n j (rw (below_miss s p n e) at l) q))

-- where no number below n is a son it is 0
pub below_nil : (s : Sheet) (p n : ℕ) → ((j : ℕ) → j < n → is_son s p j ≡ false) → son_below s p n ≡ 0
below_nil s p zero f = below_none s p
below_nil s p (suc n) f = below_miss s p n (f n (le_refl (suc n))) ∙ below_nil s p n (λ j l. f j (omega arith))

-- the root is linked alone
pub links_one : (s : Sheet) (last prev : List (Option GroupNo)) → Rooted s → link_in last 1 ≡ None → link_in prev 1 ≡ None
    → Chained s last prev 1
links_one s last prev r e f = record {
  sons = λ p a b. let one : p ≡ 1 = omega arith in
      rw one (e ∙ ap group_of (sym (below_miss s 1 1 (root_no_son r 1) ∙ below_miss s 1 0 (no_son s 1) ∙ below_none s 1)));
  brothers = λ g a b. let one : g ≡ 1 = omega arith in
      rw one (f ∙ ap group_of (sym (below_miss s (s.parent 1) 0 (no_son s (s.parent 1)) ∙ below_none s (s.parent 1))));
}

-- one more group is linked
pub links_more : (s : Sheet) (last prev last' prev' : List (Option GroupNo)) (n p : ℕ) → Son s p (suc n) → Tree s
    → Chained s last prev n → Linked last prev (suc n) p last' prev' → Chained s last' prev' (suc n)
links_more s last prev last' prev' n p q t w k =
    let up = son_parent t q in
    record {
      sons = λ o i j.
          compare_eq o (suc n)
          (λ e. rw e (k.own
          ∙ ap group_of (sym (below_nil s (suc n) (suc (suc n)) (λ h l. no_son_before t (suc n) h (omega arith) q.group.last)))))
          (λ d. compare_eq o p
          (λ e. rw e (k.parents ∙ ap group_of (sym (below_hit s p (suc n) (son_is q)))))
          (λ e. k.others o d e ∙ w.sons o i (omega arith) ∙ ap group_of (sym (below_miss s o (suc n) (one_parent q o e)))));
      brothers = λ o i j.
          compare_eq o (suc n)
          (λ e. rw (e, q.under) (k.brother ∙ w.sons p up.first (omega (arith, t.before (suc n) q.group, q.under))))
          (λ e. k.brothers o e ∙ w.brothers o i (omega arith));
    }

pub links_step : (s : Sheet) (last prev last' prev' : List (Option GroupNo)) (n p : ℕ) → Son s p n → Tree s
    → Chained s last prev (n - 1) → Linked last prev n p last' prev' → Chained s last' prev' n
links_step s last prev last' prev' zero p q t w k = absurd (omega (arith, q.group.first))
links_step s last prev last' prev' (suc n) p q t w k =
    let e : suc n - 1 ≡ n = omega arith in links_more s last prev last' prev' n p q t (rw e at w) k

-- along the chain: a brother of a son of p, none after the first son
pub brother_is : (s : Sheet) (last prev : List (Option GroupNo)) (p : ℕ) → Chained s last prev s.size → (i : ℕ) → (1 ≤ i → Son s p i)
    → link_in prev i ≡ group_of (son_below s p i)
brother_is s last prev p w zero f = ap group_of (sym (below_none s p))
brother_is s last prev p w (suc i) f =
    let k = f (omega arith) in
    w.brothers (suc i) (omega arith) k.group.last ∙ (rw k.under)

pub below_son : (s : Sheet) (p n : ℕ) → n ≤ suc s.size → 1 ≤ son_below s p n → Son s p (son_below s p n)
below_son s p n l h = let w = below_is s p n h in son_of_law s p (son_below s p n) (omega arith) w.0

-- how many sons there are below n
count_none : (s : Sheet) (p n : ℕ) → son_below s p n ≡ 0 → sum (λ g. bit (is_son s p g)) n ≡ 0
unfolding sum
count_none s p zero e = refl
count_none s p (suc n) e =
    split (is_son s p n)
    (λ h. let z : n ≡ 0 = sym (below_hit s p n h) ∙ e in absurd (true_not_false (is_son s p 0) (rw z at h) (no_son s p)))
    (λ h. rw h (omega (arith, count_none s p n (sym (below_miss s p n h) ∙ e))))

count_some : (s : Sheet) (p n : ℕ) → (son_below s p n ≡ 0 → ⊥)
    → sum (λ g. bit (is_son s p g)) n ≡ suc (sum (λ g. bit (is_son s p g)) (son_below s p n))
unfolding sum
count_some s p zero e = absurd (e (below_none s p))
count_some s p (suc n) e =
    split (is_son s p n)
    (λ h. rw (below_hit s p n h, h) (omega arith))
    (λ h. let b = below_miss s p n h in rw (b, h) (omega (arith, count_some s p n (λ z. e (b ∙ z)))))

-- no son, one son, or more, by the last son and the one before it
pub count_by : (s : Sheet) (p a b : ℕ) → a ≡ son_below s p (suc s.size) → b ≡ son_below s p a
    → (a ≡ 0 → son_count s p ≡ 0) × ((a ≡ 0 → ⊥) → b ≡ 0 → son_count s p ≡ 1)
    × ((a ≡ 0 → ⊥) → (b ≡ 0 → ⊥) → 1 < son_count s p)
unfolding sons
count_by s p a b d e = (
  λ z. count_none s p (suc s.size) (sym d ∙ z),
  λ n z. count_some s p (suc s.size) (λ h. n (d ∙ h)) ∙ ap suc ((rw (← d)) ∙ count_none s p a (sym e ∙ z)),
  λ n m. omega (arith, count_some s p (suc s.size) (λ h. n (d ∙ h)), rw d at (count_some s p a (λ h. m (e ∙ h)))),
)

-- The fold along the chain.
module _ (s : Sheet) (z : ℕ → Bool → Span) (p : ℕ) where
  -- over numbers that are no sons it does not change
  later_gap : (d i : ℕ) → i + d ≤ s.size → ((j : ℕ) → i < j → j ≤ i + d → is_son s p j ≡ false) → (c : Bool)
      → later s z p (s.size - i) c ≡ later s z p (s.size - (i + d)) c
  later_gap zero i l f c = let e : i + 0 ≡ i = omega arith in rw e
  later_gap (suc d) i l f c =
      let e : s.size - i ≡ suc (s.size - suc i) = omega arith in
      let m : s.size - (s.size - suc i) ≡ suc i = omega arith in
      let q : i + suc d ≡ suc i + d = omega arith in
      rw (e, q)
      (later_skip s z p (s.size - suc i) c (rw m (f (suc i) (le_refl (suc i)) (omega arith)))
      ∙ later_gap d (suc i) (omega arith) (λ j a b. f j (omega arith) (omega arith)) c)

  later_same : (a b : ℕ) (c : Bool) → a ≡ b → later s z p a c ≡ later s z p b c
  later_same a b c e = rw e

  -- at the last son nothing is joined
  pub later_last : (c : Bool) → later s z p (s.size - son_below s p (suc s.size)) c ≡ start (shut s p) c
  later_last c =
      let b = below_most s p s.size in
      later_gap (s.size - son_below s p (suc s.size)) (son_below s p (suc s.size)) (omega arith)
      (λ j l h. below_gap s p (suc s.size) j l (omega arith)) c
      ∙ later_same _ 0 c (omega arith)
      ∙ later_none s z p c

  -- at the brother before son i, that son is joined
  pub later_next : (i : ℕ) → Son s p i → (c : Bool)
      → later s z p (s.size - son_below s p i) c ≡ joined (join_kind s p) (later s z p (s.size - i)) (z i) c
  later_next zero k c = absurd (omega arith)
  later_next (suc i) k c =
      let b = below_most s p i in
      let m : s.size - (s.size - suc i) ≡ suc i = omega arith in
      later_gap (i - son_below s p (suc i)) (son_below s p (suc i)) (omega arith)
      (λ j l h. below_gap s p (suc i) j l (omega arith)) c
      ∙ later_same _ (suc (s.size - suc i)) c (omega arith)
      ∙ later_son s z p (s.size - suc i) c (rw m (son_is k))
      ∙ ap (λ j. joined (join_kind s p) (later s z p (s.size - suc i)) (z j) c) m

-- the links of a sheet
module _ (s : Sheet) (last prev : List (Option GroupNo)) (w : Chained s last prev s.size) (g : ℕ) (k : Group s g) where
  pub last_is : link_in last g ≡ group_of (son_below s g (suc s.size))
  last_is = w.sons g k.first k.last

  pub next_is : (i : ℕ) → (1 ≤ i → Son s g i) → link_in prev i ≡ group_of (son_below s g i)
  next_is = brother_is s last prev g w
