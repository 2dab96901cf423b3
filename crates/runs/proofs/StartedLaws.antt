-- Laws of giving starts to groups one after another.
use Prim.Native.Nat.{ℕ, ◌+◌, ◌≤◌, zero, suc, ◌<◌, ◌*◌, ◌-◌}
use mathlib.Core.Path.{◌≡◌, ap, refl, sym, ◌∙◌}
use mathlib.Core.Bool.{Bool, true, false}
use mathlib.Core.List.{List}
use native.Mathlib.Omega.{arith}
use native.Mathlib.Nat.{le_refl}
use lib.ListN.{length, get_or, set, length-set}
use lib.Seq.{get_or-set_same, get_or-set_other}
use Rattle.laws.proofs.Cases.{split, compare_eq}
use Rattle.wire.specs.Capacity.{group_capacity}
use Rattle.meaning.specs.Sheet.{Sheet, Group, Son}
use Rattle.meaning.specs.Tree.{Tree, Rooted}
use Rattle.meaning.specs.Sons.{is_son}
use Rattle.meaning.specs.Arranged.{ended, first_of}
use Rattle.meaning.proofs.SonLaws.{son_of_law, no_son_before, son_parent, son_is, one_parent}
use Rattle.sizes.specs.Balanced.{Balanced}
use Rattle.tables.specs.declared.groups.Group.{Group as TableGroup}
use Rattle.tables.specs.Groups.{group_in}
use Rattle.tables.specs.Modes.{disjoint_mode, cover_mode, same_mode}
use Rattle.tables.specs.SheetIn.{size_limit, sheet_in, Tabled}
use Rattle.tables.specs.Numbers.{number_in}
use Rattle.tables.proofs.SheetInLaws.{size_in, few_groups_law, disjoint_in, cover_in, same_in}
use Rattle.runs.specs.Told.{Told, run_limit, Startable}
use Rattle.runs.specs.Started.{start_by, Started}

-- one more group, g, a son of p: what changes in the two tables
pub record Starting (s : Sheet) (f first end first' end' : ℕ → ℕ) (p g : ℕ) : Type 0 where
  pub start : first' g ≡ start_by (s.same p) (s.disjoint p) (s.cover p) (first p) (end p) (f p) (f g)
  pub firsts : (h : ℕ) → 1 ≤ h → (h ≡ g → ⊥) → first' h ≡ first h
  pub own : end' g ≡ first' g
  pub last : end' p ≡ first' g + f g
  pub ends : (h : ℕ) → 1 ≤ h → (h ≡ g → ⊥) → (h ≡ p → ⊥) → end' h ≡ end h

-- x is the start of the son g of p, and leaves room for its members
pub record StartIs (s : Sheet) (f first end : ℕ → ℕ) (p g x : ℕ) : Type 0 where
  pub start : x ≡ start_by (s.same p) (s.disjoint p) (s.cover p) (first p) (end p) (f p) (f g)
  pub room : x + f g ≤ run_limit

-- only the starts before a group matter to its own
pub ended_eq : (s : Sheet) (first first' f : ℕ → ℕ) (p n : ℕ) → first' p ≡ first p
    → ((h : ℕ) → 1 ≤ h → h < n → first' h ≡ first h) → n ≤ suc s.size → ended s first' f p n ≡ ended s first f p n
unfolding ended
ended_eq s first first' f p zero e h l = e
ended_eq s first first' f p (suc n) e h l =
    split (is_son s p n)
    (λ i. let k = son_of_law s p n (omega arith) i in rw i (ap (λ x. x + f n) (h n k.group.first (le_refl (suc n)))))
    (λ i. rw i (ended_eq s first first' f p n e (λ j a b. h j a (omega arith)) (omega arith)))

pub first_eq : (s : Sheet) (first first' f : ℕ → ℕ) (p g : ℕ) → first' p ≡ first p
    → ((h : ℕ) → 1 ≤ h → h < g → first' h ≡ first h) → g ≤ s.size → first_of s first' f p g ≡ first_of s first f p g
unfolding first_of
first_eq s first first' f p g e h l = rw (e, ended_eq s first first' f p g e h (omega arith))

-- the two forms of a start
first_by : (s : Sheet) (first f : ℕ → ℕ) (p g : ℕ)
    → first_of s first f p g ≡ start_by (s.same p) (s.disjoint p) (s.cover p) (first p) (ended s first f p g) (f p) (f g)
unfolding first_of start_by
first_by s first f p g = refl

-- a start is the parent's or no later than where the previous son ended
start_most : (e d c : Bool) (a w z y n : ℕ) → a ≤ n → w ≤ n → start_by e d c a w z y ≤ n
unfolding start_by
start_most true d c a w z y n h k = h
start_most false true c a w z y n h k = k
start_most false false true a w z y n h k = omega arith
start_most false false false a w z y n h k = h

-- no son of g comes before g
ended_own : (s : Sheet) → Tree s → (first f : ℕ → ℕ) (g n : ℕ) → n ≤ suc g → g ≤ s.size → ended s first f g n ≡ first g
unfolding ended
ended_own s t first f g zero l h = refl
ended_own s t first f g (suc n) l h = rw (no_son_before t g n (omega arith) h) (ended_own s t first f g n (omega arith) h)

ended_son : (s : Sheet) (first f : ℕ → ℕ) (p n : ℕ) → is_son s p n ≡ true → ended s first f p (suc n) ≡ first n + f n
unfolding ended
ended_son s first f p n e = rw e

ended_skip : (s : Sheet) (first f : ℕ → ℕ) (p n : ℕ) → is_son s p n ≡ false → ended s first f p (suc n) ≡ ended s first f p n
unfolding ended
ended_skip s first f p n e = rw e

-- sizes do not pass the root's
pub size_most : {s : Sheet} {f : ℕ → ℕ} → Tree s → Rooted s → Balanced s f → (d g : ℕ) → g ≤ d → Group s g → f g ≤ f 1
size_most t r b zero g l q = absurd (omega arith)
size_most {s} {f} t r b (suc d) g l q =
    compare_eq g 1
    (λ e. rw e (le_refl (f 1)))
    (λ n. let k : Son s (s.parent g) g = record { above = r.rest g q (omega arith); group = q; under = refl } in
    let up = (b.at (s.parent g) (son_parent t k)).inside g k in
    let high = size_most t r b d (s.parent g) (omega (arith, t.before g q)) (son_parent t k) in
    omega arith)

module _ {s : Sheet} {f : ℕ → ℕ} (t : Tree s) (r : Rooted s) (b : Balanced s f) (top : f 1 ≤ size_limit) where
  pub size_limit_law : (g : ℕ) → Group s g → f g ≤ size_limit
  size_limit_law g q = omega (arith, size_most t r b g g (le_refl g) q)

  -- the root alone
  pub started_root : {first end : ℕ → ℕ} → first 1 ≡ 1 → end 1 ≡ 1 → Started s f first end 1
  started_root {first} {end} e o = record {
    root = e;
    son = λ p g k l. absurd (let one : g ≡ 1 = omega (arith, k.group.first) in omega (
      arith,
      r.top,
      rw one at
          k.under,
      k.above,
    ));
    last = λ p q l. let one : p ≡ 1 = omega arith in rw one (o ∙ sym (ended_own s t first f 1 2 (omega arith) r.one.last
        ∙ e));
    near = λ g q l. let one : g ≡ 1 = omega arith in rw (one, e) (omega arith);
    close = λ g q l. let one : g ≡ 1 = omega arith in rw (one, o) (omega arith);
  }

  -- one more group
  pub started_more : {first end first' end' : ℕ → ℕ} (p i : ℕ) → Son s p (suc i) → Started s f first end i
      → Starting s f first end first' end' p (suc i) → Started s f first' end' (suc i)
  started_more {first} {end} {first'} {end'} p i k w v =
      let g : ℕ = suc i in
      let q = son_parent t k in
      let below : p < suc i = omega (arith, t.before (suc i) k.group) in
      let same : (h : ℕ) → 1 ≤ h → h < suc i → first' h ≡ first h = λ h a l. v.firsts h a (λ e. omega arith) in
      let up = same p q.first below in
      let starts : first' (suc i) ≡ first_of s first' f p (suc i) =
      v.start ∙ ap (λ x. start_by (s.same p) (s.disjoint p) (s.cover p) (first p) x (f p) (f (suc i))) (w.last p q
      (omega arith))
      ∙ sym (first_by s first f p (suc i)) ∙ sym (first_eq s first first' f p (suc i) up same k.group.last) in
      let late : first' (suc i) ≤ 1 + size_limit * i =
      rw v.start (start_most (s.same p) (s.disjoint p) (s.cover p) (first p) (end p) (f p) (f (suc i)) (1 + size_limit * i)
      (omega (arith, w.near p q (omega arith))) (w.close p q (omega arith))) in
      let small = size_limit_law (suc i) k.group in
      record {
        root = v.firsts 1 (omega arith) (λ e. omega arith) ∙ w.root;
        son = λ a h j l. compare_eq h (suc i)
            (λ e. let o : a ≡ p = sym j.under ∙ ap s.parent e ∙ k.under in rw (e, o) starts)
            (λ n. let before = t.before h j.group in
            same h j.group.first (omega arith) ∙ w.son a h j (omega arith)
            ∙ sym (first_eq s first first' f a h (same a j.above (omega arith)) (λ x y z. same x y (omega arith))
            j.group.last));
        last = λ a j l. compare_eq a (suc i)
            (λ e. rw e (v.own ∙ sym (ended_own s t first' f (suc i) (suc (suc i)) (le_refl _) k.group.last)))
            (λ n. compare_eq a p
            (λ e. rw e (v.last ∙ sym (ended_son s first' f p (suc i) (son_is k))))
            (λ o. v.ends a j.first n o ∙ w.last a j (omega arith)
            ∙ sym (ended_skip s first' f a (suc i) (one_parent k a o)
            ∙ ended_eq s first first' f a (suc i) (same a j.first (omega arith)) same (omega arith))));
        near = λ h j l. compare_eq h (suc i)
            (λ e. rw e (omega arith))
            (λ n. rw (same h j.first (omega arith)) (w.near h j (omega arith)));
        close = λ h j l. compare_eq h (suc i)
            (λ e. rw (e, v.own) (omega arith))
            (λ n. compare_eq h p
            (λ e. rw (e, v.last) (omega arith))
            (λ o. rw (v.ends h j.first n o) (omega (arith, w.close h j (omega arith)))));
      }

  pub started_all : {first end : ℕ → ℕ} → Started s f first end s.size → Told s f first
  started_all w = record { root = w.root; son = λ p g k. w.son p g k k.group.last }

-- one more son, in a table of groups
module _ {t : List TableGroup} {n : ℕ} {f first end : ℕ → ℕ} (h : Tabled t n) (b : Balanced (sheet_in t n) f) (top : f 1 ≤ size_limit)
    (p g : ℕ) (k : Son (sheet_in t n) p g) (w : Started (sheet_in t n) f first end (g - 1)) where
  abbrev s : Sheet
  s = sheet_in t n

  parent : Group s p
  parent = son_parent h.tree k

  below : p < g
  below = omega (arith, h.tree.before g k.group)

  few : g ≤ group_capacity
  few = omega (arith, k.group.last, few_groups_law h)

  -- its start, by its parent's mode, start and size, and the end of the son before it
  pub start_is : (x : ℕ) → x ≡ start_by (same_mode (group_in t (p - 1)).mode) (disjoint_mode (group_in t (p - 1)).mode)
      (cover_mode (group_in t (p - 1)).mode) (first p) (end p) (f p) (f g)
      → StartIs s f first end p g x
  start_is x e =
      let here : x ≡ start_by (s.same p) (s.disjoint p) (s.cover p) (first p) (end p) (f p) (f g) =
      rw (same_in t n p parent, disjoint_in t n p parent, cover_in t n p parent) e in
      let late = start_most (s.same p) (s.disjoint p) (s.cover p) (first p) (end p) (f p) (f g) (1 + size_limit * (g - 1))
      (omega (arith, w.near p parent (omega (arith, below)), below)) (w.close p parent (omega (arith, below))) in
      record { start = here; room = omega (arith, size_limit_law h.tree h.rooted b top g k.group, below, few) }

  -- the sum that it takes
  pub start_room : (f g ≤ f p) × (first p + f p ≤ run_limit)
  start_room = ((b.at p parent).inside g k, omega (arith, w.near p parent (omega (arith, below)), below, few))

-- the stores for one more group
pub started_by : {s : Sheet} {f : ℕ → ℕ} (firsts ends : List ℕ) (p g x : ℕ) → Tree s → Rooted s → Balanced s f → f 1 ≤ size_limit
    → s.size ≤ length firsts → s.size ≤ length ends → Son s p g → Started s f (number_in firsts) (number_in ends) (g - 1)
    → StartIs s f (number_in firsts) (number_in ends) p g x
    → Started s f (number_in (set firsts (g - 1) x)) (number_in (set (set ends (g - 1) x) (p - 1) (x + f g))) g
started_by firsts ends p zero x tr r b top u v k w z = absurd (omega (arith, k.group.first))
started_by {s} {f} firsts ends p (suc i) x tr r b top u v k w z =
    let e : suc i - 1 ≡ i = omega arith in
    let q = son_parent tr k in
    let first = q.first in
    let before = tr.before (suc i) k.group in
    let under = k.under in
    let last = k.group.last in
    let at : get_or (set firsts i x) i 0 ≡ x = get_or-set_same firsts i x 0 (omega arith) in
    let long : i < length (set ends i x) = simp length-set (omega arith) in
    rw e
    (started_more tr r b top p i k (rw e at w)
    (record {
      start = rw (e, at) z.start;
      firsts = λ h a n. get_or-set_other firsts i (h - 1) x 0 (λ o. n (omega arith));
      own = rw (e, at) (get_or-set_other (set ends i x) (p - 1) i (x + f (suc i)) 0 (λ o. omega arith)
          ∙ get_or-set_same ends i x 0 (omega arith));
      last = rw (e, at) (get_or-set_same (set ends i x) (p - 1) (x + f (suc i)) 0 (simp length-set (omega arith)));
      ends = λ h a n o. get_or-set_other (set ends i x) (p - 1) (h - 1) (x + f (suc i)) 0 (λ m. o (omega arith))
          ∙ get_or-set_other ends i (h - 1) x 0 (λ m. n (omega arith));
    }))

-- all groups, in a table of groups
pub started_told : {t : List TableGroup} {n i : ℕ} {sizes firsts ends : List ℕ} {first end : ℕ → ℕ} → Tabled t n
    → Startable t n sizes firsts ends → Started (sheet_in t n) (number_in sizes) first end i → i ≡ n
    → Told (sheet_in t n) (number_in sizes) first
started_told {t} {n} k w v e = started_all k.tree k.rooted w.balanced w.top (rw (e ∙ sym (size_in t n)) at v)
