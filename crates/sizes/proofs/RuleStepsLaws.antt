-- Laws of a group's rule over its sons, one son after another.
use Prim.Native.Nat.{ℕ, suc, ◌-◌, ◌<◌, ◌≤◌, zero-le, ◌+◌, min, zero, ◌*◌}
use mathlib.Core.Path.{◌≡◌, subst, refl, ◌∙◌, ap}
use mathlib.Core.Bool.{true, false, Bool, cond, false≢true}
use mathlib.Core.Logic.{◌↔◌}
use native.Mathlib.Omega.{arith}
use native.Mathlib.Nat.{le_refl, le_trans, le_of_eq}
use borrow.Author.Tests.{lt-ltb}
use lib.Dec.{ltb}
use Rattle.laws.specs.Sum.{sum, bit}
use Rattle.laws.proofs.Cases.{below_suc, true_not_false, split}
use Rattle.laws.proofs.SumLaws.{sum_term, sum_eq, sum_suc, sum_first}
use Rattle.meaning.specs.Sheet.{Sheet, Son}
use Rattle.meaning.specs.Sons.{is_son, only, sons}
use Rattle.meaning.specs.SonList.{son_count}
use Rattle.meaning.proofs.SonLaws.{son_is, son_of_law, no_son, sons_term}
use Rattle.sizes.specs.Balanced.{RuleAt}
use Rattle.sizes.specs.Span.{Makes, Kind, lap, add, eq}
use Rattle.sizes.specs.Fold.{shut, join_kind}
use Rattle.sizes.specs.RuleSteps.{Upto}
use Rattle.sizes.proofs.JoinedLaws.{bit_of, makes_first}

pub upto_none : (s : Sheet) (p : ℕ) (f : ℕ → ℕ) (x : ℕ) → Upto s p f 0 x ↔ (shut s p ≡ true → x ≡ 0)
unfolding Upto
upto_none s p f x = (λ h. h, λ h. h)

pub upto_son : (s : Sheet) (p : ℕ) (f : ℕ → ℕ) (k x : ℕ) → is_son s p (s.size - k) ≡ true
    → Upto s p f (suc k) x ↔ ((t : ℕ) × Upto s p f k t × Makes (join_kind s p) t (f (s.size - k)) x)
unfolding Upto
upto_son s p f k x e = rw e (λ h. h, λ h. h)

pub upto_skip : (s : Sheet) (p : ℕ) (f : ℕ → ℕ) (k x : ℕ) → is_son s p (s.size - k) ≡ false
    → Upto s p f (suc k) x ↔ Upto s p f k x
unfolding Upto
upto_skip s p f k x e = rw e (λ h. h, λ h. h)

-- P holds of every son of p among the last k groups
abbrev pub Lasts : Sheet → ℕ → (ℕ → Type 0) → ℕ → Type 0
Lasts s p P k = (j : ℕ) → j < k → is_son s p (s.size - j) ≡ true → P (s.size - j)

pub lasts_more : (s : Sheet) (p : ℕ) (P : ℕ → Type 0) (k : ℕ) → Lasts s p P k
    → (is_son s p (s.size - k) ≡ true → P (s.size - k)) → Lasts s p P (suc k)
lasts_more s p P k h l j i = below_suc j k i (λ e. rw e l) (λ m. h j m)

pub lasts_less : (s : Sheet) (p : ℕ) (P : ℕ → Type 0) (k : ℕ) → Lasts s p P (suc k) → Lasts s p P k
lasts_less s p P k h j i = h j (omega arith)

-- the last `size` groups have all sons
pub lasts_all : (s : Sheet) (p : ℕ) (P : ℕ → Type 0) → Lasts s p P s.size → (g : ℕ) → Son s p g → P g
lasts_all s p P h g k =
    let e : s.size - (s.size - g) ≡ g = omega arith in
    subst P e (h (s.size - g) (omega arith) (rw e (son_is k)))

pub all_lasts : (s : Sheet) (p : ℕ) (P : ℕ → Type 0) (k : ℕ) → ((g : ℕ) → Son s p g → P g) → Lasts s p P k
all_lasts s p P k h j i e = h (s.size - j) (son_of_law s p (s.size - j) (omega arith) e)

-- the sum over the sons of p among the last k groups
abbrev pub sum_last : Sheet → ℕ → (ℕ → ℕ) → ℕ → ℕ
sum_last s p f k = sum (λ j. only s p f (s.size - j)) k

-- x is a total, said of all those sons at once
abbrev Total : Kind → Sheet → ℕ → (ℕ → ℕ) → ℕ → ℕ → Type 0
Total lap s p f k x = Lasts s p (λ g. f g ≤ x) k × (shut s p ≡ true → x ≤ sum_last s p f k)
Total add s p f k x = (sum_last s p f k ≤ x) × (shut s p ≡ true → x ≤ sum_last s p f k)
Total eq s p f k x = Lasts s p (λ g. f g ≡ x) k × (shut s p ≡ true → x ≡ 0)

total_none : (q : Kind) (s : Sheet) (p : ℕ) (f : ℕ → ℕ) (x : ℕ) → Total q s p f 0 x ↔ (shut s p ≡ true → x ≡ 0)
unfolding sum
total_none lap s p f x = (λ h e. omega (arith, h.1 e), λ h. (λ j i. absurd (omega arith), λ e. omega (arith, h e)))
total_none add s p f x = (λ h e. omega (arith, h.1 e), λ h. (zero-le, λ e. omega (arith, h e)))
total_none eq s p f x = (λ h. h.1, λ h. (λ j i. absurd (omega arith), h))

-- a group that is no son changes nothing
lasts_skip : (s : Sheet) (p : ℕ) (P : ℕ → Type 0) (k : ℕ) → is_son s p (s.size - k) ≡ false → Lasts s p P k → Lasts s p P (suc k)
lasts_skip s p P k e h = lasts_more s p P k h (λ t. absurd (true_not_false _ t e))

pub sum_skip : (s : Sheet) (p : ℕ) (f : ℕ → ℕ) (k : ℕ) → is_son s p (s.size - k) ≡ false → sum_last s p f (suc k) ≡ sum_last s p f k
unfolding sum
sum_skip s p f k e = rw e (omega arith)

total_skip : (q : Kind) (s : Sheet) (p : ℕ) (f : ℕ → ℕ) (k x : ℕ) → is_son s p (s.size - k) ≡ false
    → Total q s p f (suc k) x ↔ Total q s p f k x
total_skip lap s p f k x e =
    rw (sum_skip s p f k e)
    (λ h. (lasts_less s p (λ g. f g ≤ x) k h.0, h.1), λ h. (lasts_skip s p (λ g. f g ≤ x) k e h.0, h.1))
total_skip add s p f k x e = rw (sum_skip s p f k e) (λ h. h, λ h. h)
total_skip eq s p f k x e =
    (λ h. (lasts_less s p (λ g. f g ≡ x) k h.0, h.1), λ h. (lasts_skip s p (λ g. f g ≡ x) k e h.0, h.1))

-- a son is one more term
pub sum_son : (s : Sheet) (p : ℕ) (f : ℕ → ℕ) (k : ℕ) → is_son s p (s.size - k) ≡ true
    → sum_last s p f (suc k) ≡ sum_last s p f k + f (s.size - k)
unfolding sum
sum_son s p f k e = rw e

sum_last_term : (s : Sheet) (p : ℕ) (f : ℕ → ℕ) (k : ℕ) → Lasts s p (λ g. f g ≤ sum_last s p f k) k
sum_last_term s p f k j i e = rw e at (sum_term (λ j. only s p f (s.size - j)) k j i)

total_son : (q : Kind) (s : Sheet) (p : ℕ) (f : ℕ → ℕ) (k x : ℕ) → is_son s p (s.size - k) ≡ true
    → Total q s p f (suc k) x ↔ ((t : ℕ) × Total q s p f k t × Makes q t (f (s.size - k)) x)
total_son lap s p f k x e =
    rw (sum_son s p f k e) (
      λ h. split (shut s p)
          (λ b. (
            min x (sum_last s p f k),
            (λ j i o. let w = sum_last_term s p f k j i o in let v = h.0 j (omega arith) o in omega arith, λ c. omega arith),
            let w = h.1 b in let v = h.0 k (le_refl (suc k)) e in omega arith,
          ))
          (λ b. (
            x,
            (lasts_less s p (λ g. f g ≤ x) k h.0, λ c. absurd (true_not_false _ c b)),
            let v = h.0 k (le_refl (suc k)) e in omega arith,
          )),
      λ h. (
        lasts_more s p (λ g. f g ≤ x) k (λ j i o. le_trans (h.1.0 j i o) h.2.0) (λ o. h.2.1),
        λ b. omega (arith, h.1.1 b),
      ),
    )
total_son add s p f k x e =
    rw (sum_son s p f k e) (
      λ h. (x - f (s.size - k), (omega arith, λ b. omega (arith, h.1 b)), omega arith),
      λ h. (omega arith, λ b. omega (arith, h.1.1 b)),
    )
total_son eq s p f k x e = (
  λ h. (x, (lasts_less s p (λ g. f g ≡ x) k h.0, h.1), (refl, h.0 k (le_refl (suc k)) e)),
  λ h. (lasts_more s p (λ g. f g ≡ x) k (λ j i o. h.1.0 j i o ∙ h.2.0) (λ o. h.2.1), λ b. omega (arith, h.1.1 b)),
)

-- step by step and at once are the same
upto_total : (s : Sheet) (p : ℕ) (f : ℕ → ℕ) (k x : ℕ) → Upto s p f k x ↔ Total (join_kind s p) s p f k x
upto_total s p f zero x =
    let u = upto_none s p f x in
    let t = total_none (join_kind s p) s p f x in
    (λ h. t.1 (u.0 h), λ h. u.1 (t.0 h))
upto_total s p f (suc k) x =
    split (is_son s p (s.size - k))
    (λ e. let u = upto_son s p f k x e in
    let t = total_son (join_kind s p) s p f k x e in (
      λ h. let w = u.0 h in t.1 (w.0, (upto_total s p f k w.0).0 w.1, w.2),
      λ h. let w = t.0 h in u.1 (w.0, (upto_total s p f k w.0).1 w.1, w.2),
    ))
    (λ e. let u = upto_skip s p f k x e in
    let t = total_skip (join_kind s p) s p f k x e in
    (λ h. t.1 ((upto_total s p f k x).0 (u.0 h)), λ h. u.1 ((upto_total s p f k x).1 (t.0 h))))

-- the last `size` groups are all of them
sum_back : (h : ℕ → ℕ) (n : ℕ) → sum (λ j. h (n - j)) (suc n) ≡ sum h (suc n)
sum_back h zero = sum_eq _ _ 1 (λ m l. ap h (omega arith))
sum_back h (suc n) =
    let first : h (suc n - 0) ≡ h (suc n) = ap h (omega arith) in
    let others = sum_eq (λ m. h (suc n - suc m)) (λ m. h (n - m)) (suc n) (λ m l. ap h (omega arith)) in
    omega (arith, sum_first (λ j. h (suc n - j)) (suc n), sum_back h n, sum_suc h (suc n))

pub sum_last_all : (s : Sheet) (p : ℕ) (f : ℕ → ℕ) → sum_last s p f s.size ≡ sons s p f
unfolding sons
sum_last_all s p f =
    let none : only s p f (s.size - s.size) ≡ 0 = let e : s.size - s.size ≡ 0 = omega arith in rw (e, no_son s p) in
    omega (arith, sum_back (only s p f) s.size, sum_suc (λ j. only s p f (s.size - j)) s.size)

-- under 'same' the sum over the sons is their number times p's
sum_alike : (b : ℕ → Bool) (f : ℕ → ℕ) (x n : ℕ) → ((m : ℕ) → m < n → b m ≡ true → f m ≡ x)
    → sum (λ g. cond (b g) (f g) 0) n ≡ sum (λ g. bit (b g)) n * x
unfolding sum
sum_alike b f x zero h = omega arith
sum_alike b f x (suc n) h =
    let less = sum_alike b f x n (λ m l. h m (omega arith)) in
    split (b n) (λ e. rw e (omega (arith, h n (le_refl (suc n)) e))) (λ e. rw e (omega arith))

sons_same : (s : Sheet) (p : ℕ) (f : ℕ → ℕ) (x : ℕ) → ((g : ℕ) → Son s p g → f g ≡ x) → sons s p f ≡ son_count s p * x
unfolding sons
sons_same s p f x h = sum_alike (is_son s p) f x (suc s.size) (λ g l e. h g (son_of_law s p g (omega arith) e))

-- 'disjoint' and 'cover' under 'same', with n sons
same_shut : (n x t : ℕ) (d c : Bool) → t ≡ n * x
    → ((d ≡ true → t ≤ x) × (c ≡ true → x ≤ t)) ↔ (cond (ltb 1 n) d (cond (ltb 0 n) false c) ≡ true → x ≡ 0)
same_shut zero x t d c e = (λ h b. omega (arith, h.1 b), λ h. (λ b. omega arith, λ b. omega (arith, h b)))
same_shut (suc zero) x t d c e = (λ h b. absurd (false≢true b), λ h. (λ b. omega arith, λ b. omega arith))
same_shut (suc (suc n)) x t d c e =
    rw (lt-ltb 1 (suc (suc n)) (omega arith))
    (λ h b. omega (arith, h.0 b), λ h. (λ b. omega (arith, rw (h b) at e), λ b. omega arith))

-- kind and start of each mode
pub kind_same : (s : Sheet) (p : ℕ) → s.same p ≡ true → join_kind s p ≡ eq
unfolding join_kind
kind_same s p e = rw e

pub kind_disjoint : (s : Sheet) (p : ℕ) → s.same p ≡ false → s.disjoint p ≡ true → join_kind s p ≡ add
unfolding join_kind
kind_disjoint s p e d = rw (e, d)

pub kind_free : (s : Sheet) (p : ℕ) → s.same p ≡ false → s.disjoint p ≡ false → join_kind s p ≡ lap
unfolding join_kind
kind_free s p e d = rw (e, d)

pub shut_same : (s : Sheet) (p : ℕ) → s.same p ≡ true
    → shut s p ≡ cond (ltb 1 (son_count s p)) (s.disjoint p) (cond (ltb 0 (son_count s p)) false (s.cover p))
unfolding shut
shut_same s p e = rw e

pub shut_cover : (s : Sheet) (p : ℕ) → s.same p ≡ false → shut s p ≡ s.cover p
unfolding shut
shut_cover s p e = rw e

-- the rule at p, for each kind of joining
rule_total : (s : Sheet) (p : ℕ) (f : ℕ → ℕ) → RuleAt s p f ↔ Total (join_kind s p) s p f s.size (f p)
rule_total s p f =
    let whole = sum_last_all s p f in
    let same = same_shut (son_count s p) (f p) (sons s p f) (s.disjoint p) (s.cover p) in
    split (s.same p)
    (λ e. rw (kind_same s p e, shut_same s p e) (
      λ r. (
        all_lasts s p (λ g. f g ≡ f p) s.size (λ g k. r.equal g k e),
        (same (sons_same s p f (f p) (λ g k. r.equal g k e))).0 (r.apart, r.covered),
      ),
      λ h. let each = lasts_all s p (λ g. f g ≡ f p) h.0 in
          let w = (same (sons_same s p f (f p) each)).1 h.1 in
          record { inside = λ g k. le_of_eq (each g k); equal = λ g k o. each g k; apart = w.0; covered = w.1 },
    ))
    (λ e. split (s.disjoint p)
    (λ d. rw (kind_disjoint s p e d, shut_cover s p e, whole) (
      λ r. (r.apart d, r.covered),
      λ h. record {
        inside = λ g k. le_trans (sons_term f k) h.0;
        equal = λ g k o. absurd (true_not_false _ o e);
        apart = λ o. h.0;
        covered = h.1;
      },
    ))
    (λ d. rw (kind_free s p e d, shut_cover s p e, whole) (
      λ r. (all_lasts s p (λ g. f g ≤ f p) s.size (λ g k. r.inside g k), r.covered),
      λ h. record {
        inside = lasts_all s p (λ g. f g ≤ f p) h.0;
        equal = λ g k o. absurd (true_not_false _ o e);
        apart = λ o. absurd (true_not_false _ o d);
        covered = h.1;
      },
    )))

pub rule_upto : (s : Sheet) (p : ℕ) (f : ℕ → ℕ) → RuleAt s p f ↔ Upto s p f s.size (f p)
rule_upto s p f =
    let u = upto_total s p f s.size (f p) in
    let t = rule_total s p f in
    (λ h. u.1 (t.0 h), λ h. t.1 (u.0 h))

-- a total depends on the sons' numbers only
pub upto_eq : (s : Sheet) (p : ℕ) (f h : ℕ → ℕ) (k x : ℕ) → Lasts s p (λ g. f g ≡ h g) k → Upto s p f k x → Upto s p h k x
upto_eq s p f h zero x w u = (upto_none s p h x).1 ((upto_none s p f x).0 u)
upto_eq s p f h (suc k) x w u =
    let less = upto_eq s p f h k in
    let before = lasts_less s p (λ g. f g ≡ h g) k w in
    split (is_son s p (s.size - k))
    (λ e. let v = (upto_son s p f k x e).0 u in
    (upto_son s p h k x e).1 (v.0, less v.0 before v.1, rw (w k (le_refl (suc k)) e) at v.2))
    (λ e. (upto_skip s p h k x e).1 (less x before ((upto_skip s p f k x e).0 u)))

pub rule_eq : (s : Sheet) (p : ℕ) (f h : ℕ → ℕ) → ((g : ℕ) → Son s p g → f g ≡ h g) → f p ≡ h p → RuleAt s p f → RuleAt s p h
rule_eq s p f h w e r =
    (rule_upto s p h).1
    (upto_eq s p f h s.size (h p) (all_lasts s p (λ g. f g ≡ h g) s.size w) (rw e at ((rule_upto s p f).0 r)))

-- the bits of a member: the total before a son is a bit too
pub upto_bit : (s : Sheet) (p : ℕ) (M : ℕ → Bool) (k : ℕ) (c : Bool) → is_son s p (s.size - k) ≡ true
    → Upto s p (λ g. bit (M g)) (suc k) (bit c)
    → (b : Bool) × Upto s p (λ g. bit (M g)) k (bit b) × Makes (join_kind s p) (bit b) (bit (M (s.size - k))) (bit c)
upto_bit s p M k c e u =
    let f : ℕ → ℕ = λ g. bit (M g) in
    let w = (upto_son s p f k (bit c) e).0 u in
    let b = bit_of w.0 c (makes_first (join_kind s p) w.0 (f (s.size - k)) (bit c) w.2) in
    (b.0, rw b.1 w.1, rw b.1 w.2)
