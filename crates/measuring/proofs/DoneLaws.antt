-- What one more son measured adds, and what it takes to have all groups measured.
use Prim.Native.Nat.{ℕ, zero, suc, ◌≤◌, ◌-◌, ◌<◌}
use mathlib.Core.Path.{ap, ◌∙◌, fun_ext, refl, ◌≡◌, sym}
use mathlib.Core.Bool.{Bool, true, false, false≢true, true≢false}
use mathlib.Core.List.{List}
use native.Mathlib.Omega.{arith}
use borrow.Author.Tests.{ne_eqb, lt-ltb}
use lib.ListN.{get_or}
use Rattle.std.specs.Prelude.{Option, Some, None, is_some}
use Rattle.laws.proofs.Cases.{compare_eq, true_not_false, compare_le}
use Rattle.wire.specs.Limits.{no_end}
use Rattle.meaning.specs.Sheet.{Sheet, Group, Son, end_of}
use Rattle.meaning.specs.Tree.{Tree, Rooted}
use Rattle.meaning.specs.SonList.{son_count}
use Rattle.meaning.proofs.SonLaws.{son_is}
use Rattle.sizes.specs.Span.{Span, Kind, meet}
use Rattle.sizes.specs.Fold.{joined, later, shut, Measured, join_kind, start, own}
use Rattle.sizes.specs.Bounds.{top_weight}
use Rattle.sizes.proofs.BoundsLaws.{Small, span_small, later_small}
use Rattle.tables.specs.declared.groups.Group.{Group as TableGroup}
use Rattle.tables.specs.declared.groups.GroupNo.{GroupNo}
use Rattle.tables.specs.Entry.{no_group}
use Rattle.tables.specs.Groups.{group_in}
use Rattle.tables.specs.Names.{meant_number}
use Rattle.tables.specs.SheetIn.{sheet_in, Tabled}
use Rattle.tables.proofs.SheetInLaws.{lo_in_law, hi_in_law, few_groups_law}
use Rattle.spans.specs.declared.pair.Pair.{Pair}
use Rattle.spans.specs.Held.{AlikeBoth, Room}
use Rattle.measuring.specs.Links.{group_of, son_below, link_in, Chained}
use Rattle.measuring.specs.Pairs.{PairPut, pair_in}
use Rattle.measuring.specs.Done.{Within, here, below, Spanned, Followed, UnderLater, Done, AllDone}
use Rattle.measuring.proofs.LinksLaws.{meant_group, below_gap, below_less, count_by, last_is, next_is, below_son, later_last, later_next}

pub joined_alike : (q : Kind) {a b z y : Bool → Span} → AlikeBoth a b → AlikeBoth z y → AlikeBoth (joined q a z) (joined q b y)
joined_alike q {a} {b} {z} {y} h k c = ap (λ u. joined q u z c) (fun_ext h) ∙ ap (λ u. joined q b u c) (fun_ext k)

pub within_group : {s : Sheet} {g h : ℕ} → Group s g → Within s g h → Group s h
within_group k here = k
within_group k (below i w) = within_group i.group w

pub within_more : {s : Sheet} {g p h : ℕ} → Within s g p → Son s p h → Within s g h
within_more here k = below k here
within_more (below i w) k = below i (within_more w k)

-- a group is the first one or is below it
within_first : (s : Sheet) → Tree s → Rooted s → (d h : ℕ) → h ≤ d → Group s h → Within s 1 h
within_first s t r zero h l k = absurd (omega arith)
within_first s t r (suc d) h l k =
    compare_eq h 1
    (λ e. rw e here)
    (λ n. let p = r.rest h k (omega arith) in
    let b = t.before h k in
    within_more (within_first s t r d (s.parent h) (omega arith) (omega arith))
    (record { above = p; group = k; under = refl }))

-- the spans put at i are those that belong there
module _ (s : Sheet) (z : ℕ → Bool → Span) where
  pub put_spanned : {t u : List Pair} {i : ℕ} → PairPut t i (z i) u → (h : ℕ) → Group s h → Spanned z t h → Spanned z u h
  put_spanned {t} {u} {i} w h k e =
      compare_eq h i
      (λ q. rw q w.put)
      (λ q c. w.others h k.first q c ∙ e c)

  put_followed : {t u : List Pair} {i : ℕ} → PairPut t i (later s z (s.parent i) (s.size - i)) u → (h : ℕ) → Group s h
      → Followed s z t h → Followed s z u h
  put_followed {t} {u} {i} w h k e =
      compare_eq h i
      (λ q. rw q w.put)
      (λ q c. w.others h k.first q c ∙ e c)

pub put_alike : {t u : List Pair} {i : ℕ} {p q : Bool → Span} → AlikeBoth p q → PairPut t i p u → PairPut t i q u
put_alike e w = record { put = λ c. w.put c ∙ e c; others = w.others }

-- nothing is measured yet
pub done_none : (s : Sheet) (z : ℕ → Bool → Span) (g : ℕ) (spans after : List Pair)
    → Done s z g (son_below s g (suc s.size)) spans after spans after
done_none s z g spans after =
    record {
      spanned = λ h u. absurd (none h u);
      followed = λ h u. absurd (none h u);
      stays = record { spanned = λ h k e. e; followed = λ h k e. e };
    }
  where
    none : (h : ℕ) → UnderLater s g (son_below s g (suc s.size)) h → ⊥
    none h u =
        true_not_false _ (son_is u.is) (below_gap s g (suc s.size) u.son u.after (omega arith))

-- a group at or below i
within_cases {ℓ} : {P : Type ℓ} {s : Sheet} {i h : ℕ} → Within s i h → (h ≡ i → P) → (UnderLater s i 0 h → P) → P
within_cases here a b = a refl
within_cases (below {i = j} k w) a b = b (record { son = j; is = k; after = k.group.first; at = w })

-- a group at or below a son of g from i on: i, one below i, or one at or below a later son
under_cases {ℓ} : {P : Type ℓ} (s : Sheet) (g i h : ℕ) → UnderLater s g (son_below s g i) h → (h ≡ i → P) → (UnderLater s i 0 h → P)
    → (UnderLater s g i h → P) → P
under_cases s g i h u a b c =
    compare_eq u.son i
    (λ e. within_cases (rw e at u.at) a b)
    (λ n. compare_le i u.son
    (λ l. c (record { son = u.son; is = u.is; after = omega arith; at = u.at }))
    (λ l. absurd (true_not_false _ (son_is u.is) (below_gap s g i u.son u.after l))))

-- son i of g is measured, and the sons after it are kept with it
pub done_son : (s : Sheet) (z : ℕ → Bool → Span) (g i : ℕ) (t₀ a₀ t a t' a' a'' : List Pair) → Son s g i → Done s z g i t₀ a₀ t a
    → Done s z i 0 t a t' a' → Spanned z t' i → PairPut a' i (later s z g (s.size - i)) a''
    → Done s z g (son_below s g i) t₀ a₀ t' a''
done_son s z g i t₀ a₀ t a t' a' a'' k d e m w =
    record {
      spanned = λ h u.
          under_cases s g i h u
          (λ q. rw q m)
          (λ v. e.spanned h v)
          (λ v. e.stays.spanned h (group h u) (d.spanned h v));
      followed = λ h u.
          under_cases s g i h u
          (λ q. rw q put.put)
          (λ v. put_followed s z put h (group h u) (e.followed h v))
          (λ v. put_followed s z put h (group h u) (e.stays.followed h (group h u) (d.followed h v)));
      stays = record {
        spanned = λ h j x. e.stays.spanned h j (d.stays.spanned h j x);
        followed = λ h j x. put_followed s z put h j (e.stays.followed h j (d.stays.followed h j x));
      };
    }
  where
    put : PairPut a' i (later s z (s.parent i) (s.size - i)) a''
    put = rw k.under w

    group : (h : ℕ) → UnderLater s g (son_below s g i) h → Group s h
    group h u = within_group u.is.group u.at

-- the spans of g are put when all below it are measured
pub done_put : {s : Sheet} {z : ℕ → Bool → Span} {g : ℕ} {t₀ a₀ t a t' : List Pair} → Done s z g 0 t₀ a₀ t a → PairPut t g (z g) t'
    → Done s z g 0 t₀ a₀ t' a
done_put {s} {z} d w =
    record {
      spanned = λ h u. put_spanned s z w h (within_group u.is.group u.at) (d.spanned h u);
      followed = d.followed;
      stays = record {
        spanned = λ h j x. put_spanned s z w h j (d.stays.spanned h j x);
        followed = d.stays.followed;
      };
    }

-- all groups are at or below the first
pub all_done : (s : Sheet) (z : ℕ → Bool → Span) (t₀ a₀ t a : List Pair) → Tree s → Rooted s → Done s z 1 0 t₀ a₀ t a → Spanned z t 1
    → AllDone s z t a
all_done s z t₀ a₀ t a w r d m =
    record {
      spanned = λ h k. within_cases (within_first s w r h h (omega arith) k) (λ e. rw e m) (λ u. d.spanned h u);
      followed = λ p h k.
          within_cases (within_first s w r h h (omega arith) k.group)
          (λ e. absurd (omega (arith, r.top, ap s.parent e)))
          (λ u. d.followed h u);
    }

-- how the sons start, from the links
some_number : {n : ℕ} {x : GroupNo} → group_of n ≡ Some x → (n ≡ x.0) × (n ≡ 0 → ⊥)
some_number {n = zero} e = absurd (none_some e)
  where
    none_some : {x : GroupNo} → None ≡ Some x → ⊥
    none_some d = cc
some_number {n = suc n} {x = x} e = let o : record { 0 = suc n } ≡ x = cc in (ap (λ y. y.0) o, λ z. omega arith)

no_number : {n : ℕ} → group_of n ≡ None → n ≡ 0
no_number {n = zero} e = refl
no_number {n = suc n} e = absurd (some_none e)
  where
    some_none : {x : GroupNo} → Some x ≡ None → ⊥
    some_none d = cc

is_number : (n : ℕ) → is_some (group_of n) ≡ true → n ≡ 0 → ⊥
is_number zero e z = false≢true e
is_number (suc n) e z = omega arith

is_no_number : (n : ℕ) → is_some (group_of n) ≡ false → n ≡ 0
is_no_number zero e = refl
is_no_number (suc n) e = absurd (true≢false e)

module _ {s : Sheet} {last prev : List (Option GroupNo)} (w : Chained s last prev s.size) {g : ℕ} (k : Group s g) where
  last_number : {x : GroupNo} → link_in last g ≡ Some x → (son_below s g (suc s.size) ≡ x.0) × (son_below s g (suc s.size) ≡ 0 → ⊥)
  last_number e = some_number (sym (last_is s last prev w g k) ∙ e)

  pub last_son : {x : GroupNo} → link_in last g ≡ Some x → Son s g x.0
  last_son e =
      let d = last_number e in
      rw d.0 at (below_son s g (suc s.size) (omega arith) (omega arith))

  before_is : {x : GroupNo} → link_in last g ≡ Some x → link_in prev x.0 ≡ group_of (son_below s g x.0)
  before_is {x} e = next_is s last prev w g k x.0 (λ l. last_son e)

  module _ {x : GroupNo} (h : s.same g ≡ true) (e : link_in last g ≡ Some x) where
    count : (son_below s g x.0 ≡ 0 → son_count s g ≡ 1) × ((son_below s g x.0 ≡ 0 → ⊥) → 1 < son_count s g)
    count =
        let d = last_number e in
        let c = count_by s g x.0 (son_below s g x.0) (sym d.0) refl in
        let n : x.0 ≡ 0 → ⊥ = λ z. d.1 (d.0 ∙ z) in
        (c.1 n, c.2 n)

    pub shut_more : is_some (link_in prev x.0) ≡ true → shut s g ≡ s.disjoint g
    unfolding shut
    shut_more i = let l = count.1 (is_number _ (rw (before_is e) at i)) in rw (h, lt-ltb 1 (son_count s g) l)

    pub shut_one : is_some (link_in prev x.0) ≡ false → shut s g ≡ false
    unfolding shut
    shut_one i = let l = count.0 (is_no_number _ (rw (before_is e) at i)) in rw (h, l)

  pub shut_none : s.same g ≡ true → link_in last g ≡ None → shut s g ≡ s.cover g
  unfolding shut
  shut_none h e =
      let d = no_number (sym (last_is s last prev w g k) ∙ e) in
      let c = (count_by s g (son_below s g (suc s.size)) _ refl refl).0 d in rw (h, c)

-- the bounds of a table's groups are small
small_in : (t : List TableGroup) (n : ℕ) → Small (sheet_in t n) no_end
small_in t n =
    record {
      lo = λ g k. rw (lo_in_law t n g k) (get_or t (g - 1) no_group).bounded.0;
      hi = λ g k. rw (hi_in_law t n g k) (field (group_in t (g - 1)).hi (get_or t (g - 1) no_group).bounded.1);
    }
  where
    field : (h : ℕ) → h ≤ no_end → top_weight (end_of no_end h) ≤ no_end
    field h l = compare_eq h no_end (λ e. rw e (unfold end_of in omega arith)) (λ e. unfold end_of in rw (ne_eqb h no_end e) l)

-- so there is room for every sum
module _ {t : List TableGroup} {n : ℕ} {may : ℕ → Bool → Bool} {z : ℕ → Bool → Span} (w : Tabled t n)
    (m : Measured (sheet_in t n) may z) where
  pub room_span : (g : ℕ) → Group (sheet_in t n) g → (c : Bool) → Room (z g c)
  room_span g k c =
      omega (arith, span_small (sheet_in t n) may z no_end w.tree m (small_in t n) g k c, few_groups_law w)

  pub room_later : (g k : ℕ) (c : Bool) → k ≤ (sheet_in t n).size → Room (later (sheet_in t n) z g k c)
  room_later g k c l =
      omega (arith, later_small (sheet_in t n) may z no_end w.tree m (small_in t n) g k c l, few_groups_law w)

-- The walk over the sons of g has come to the son that is next, or is through: the sons after it are measured and joined.
pub record AtSon (s : Sheet) (z : ℕ → Bool → Span) (g : ℕ) (next : Option GroupNo) (sum : Bool → Span)
    (spans after spans' after' : List Pair) : Type 0 where
  pub son : {x : GroupNo} → next ≡ Some x → Son s g x.0
  pub done : Done s z g (meant_number next) spans after spans' after'
  pub joins : AlikeBoth sum (later s z g (s.size - meant_number next))

module _ {s : Sheet} {z : ℕ → Bool → Span} {last prev : List (Option GroupNo)} (w : Chained s last prev s.size) {g : ℕ} (k : Group s g) where
  pub at_last : (sum : Bool → Span) (spans after : List Pair) → AlikeBoth sum (start (shut s g))
      → AtSon s z g (link_in last g) sum spans after spans after
  at_last sum spans after h =
      let d : meant_number (link_in last g) ≡ son_below s g (suc s.size) = ap meant_number (last_is s last prev w g k) ∙ meant_group _ in
      record {
        son = λ e. last_son w k e;
        done = rw d (done_none s z g spans after);
        joins = λ c. h c ∙ sym (rw d (later_last s z g c));
      }

  pub at_next : {next : Option GroupNo} {x : GroupNo} {sum : Bool → Span} (sum' y : Bool → Span) {t₀ a₀ t₁ a₁ t₂ a₂ a₃ : List Pair}
      → AtSon s z g next sum t₀ a₀ t₁ a₁ → next ≡ Some x
      → Done s z x.0 0 t₁ a₁ t₂ a₂ → Spanned z t₂ x.0 → PairPut a₂ x.0 sum a₃
      → AlikeBoth y (pair_in t₂ x.0) → AlikeBoth sum' (joined (join_kind s g) sum y)
      → AtSon s z g (link_in prev x.0) sum' t₀ a₀ t₂ a₃
  at_next {next} {x} {sum} sum' y {t₀} {a₀} {t₁} {a₁} {t₂} {a₂} {a₃} a l d m p v q =
      let son = a.son l in
      let i : ℕ = x.0 in
      let here : meant_number next ≡ i = ap meant_number l in
      let done : Done s z g i t₀ a₀ t₁ a₁ = rw here at a.done in
      let joins : AlikeBoth sum (later s z g (s.size - i)) = rw here at a.joins in
      let e = next_is s last prev w g k i (λ o. son) in
      let b : meant_number (link_in prev i) ≡ son_below s g i = ap meant_number e ∙ meant_group _ in
      record {
        son = λ {x = o} f. let n = some_number (sym e ∙ f) in
            rw n.0 at (below_son s g i (omega (arith, son.group.last)) (omega arith));
        done = rw b (done_son s z g i t₀ a₀ t₁ a₁ t₂ a₂ a₃ son done d m (put_alike joins p));
        joins = λ c. q c
            ∙ joined_alike (join_kind s g) joins (λ b. v b ∙ m b) c
            ∙ sym (rw b (later_next s z g i son c));
      }

  -- the next son has a lower number
  pub next_less : {next : Option GroupNo} {x : GroupNo} {sum : Bool → Span} {t₀ a₀ t₁ a₁ : List Pair}
      → AtSon s z g next sum t₀ a₀ t₁ a₁ → next ≡ Some x → meant_number (link_in prev x.0) < meant_number next
  next_less {next} {x} a l =
      let son = a.son l in
      let e = ap meant_number (next_is s last prev w g k x.0 (λ o. son)) ∙ meant_group _ in
      let here : meant_number next ≡ x.0 = ap meant_number l in
      omega (arith, below_less s g x.0, son.group.first)

  pub all_joined : {next : Option GroupNo} {sum : Bool → Span} {t₀ a₀ t₁ a₁ : List Pair} → AtSon s z g next sum t₀ a₀ t₁ a₁
      → next ≡ None → Done s z g 0 t₀ a₀ t₁ a₁ × AlikeBoth sum (later s z g s.size)
  all_joined {next} a e =
      let d : meant_number next ≡ 0 = ap meant_number e in
      (rw d at a.done, let e : s.size - meant_number next ≡ s.size = omega arith in rw e at a.joins)

-- the sons give the group
pub finished : {s : Sheet} {may : ℕ → Bool → Bool} {z : ℕ → Bool → Span} {g : ℕ} → Measured s may z → Group s g
    → (p o r : Bool → Span) → AlikeBoth p (later s z g s.size) → AlikeBoth o (own s may g) → AlikeBoth r (λ c. meet (p c) (o c))
    → AlikeBoth r (z g)
finished m k p o r h i e c = e c ∙ (rw (h c, i c)) ∙ sym (m.at _ k c)
