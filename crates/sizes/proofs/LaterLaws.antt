-- The fold over the sons of one group is exact: `later s z p k c` has the totals of the sons of p among the last k groups.
use Prim.Native.Nat.{ℕ, suc, ◌-◌, zero, ◌≤◌, ◌<◌}
use mathlib.Core.Path.{◌≡◌, refl}
use mathlib.Core.Bool.{Bool, true, false, cond}
use native.Mathlib.Omega.{arith}
use native.Mathlib.Nat.{le_refl}
use borrow.Author.Tests.{eq-eqb, ne_eqb}
use lib.Dec.{eqb}
use Rattle.laws.specs.Sum.{bit}
use Rattle.laws.proofs.Cases.{split, true_not_false}
use Rattle.meaning.specs.Sheet.{Sheet}
use Rattle.meaning.specs.Sons.{is_son}
use Rattle.meaning.proofs.SonLaws.{son_of_law}
use Rattle.sizes.specs.Span.{Span, In, Makes, son_of, join}
use Rattle.sizes.specs.Fold.{shut, start, later, join_kind, joined}
use Rattle.sizes.specs.RuleSteps.{Upto}
use Rattle.sizes.proofs.SpanLaws.{joint, rest_of, join_in, near_proper}
use Rattle.sizes.proofs.JoinedLaws.{start_of, joined_of, Nears, near_start, near_joined, joined_states, start_in}
use Rattle.sizes.proofs.RuleStepsLaws.{upto_none, upto_son, upto_skip, upto_bit, Lasts, lasts_less, upto_eq, lasts_more}

pub later_none : (s : Sheet) (z : ℕ → Bool → Span) (p : ℕ) (c : Bool) → later s z p 0 c ≡ start (shut s p) c
unfolding later
later_none s z p c = refl

pub later_son : (s : Sheet) (z : ℕ → Bool → Span) (p k : ℕ) (c : Bool) → is_son s p (s.size - k) ≡ true
    → later s z p (suc k) c ≡ joined (join_kind s p) (later s z p k) (z (s.size - k)) c
unfolding later
later_son s z p k c e = rw e

pub later_skip : (s : Sheet) (z : ℕ → Bool → Span) (p k : ℕ) (c : Bool) → is_son s p (s.size - k) ≡ false
    → later s z p (suc k) c ≡ later s z p k c
unfolding later
later_skip s z p k c e = rw e

-- totals of numbers within the sons' spans are in the fold
pub later_of : (s : Sheet) (z : ℕ → Bool → Span) (p : ℕ) (f : ℕ → ℕ) (M : ℕ → Bool) (k x : ℕ) (c : Bool) → Upto s p f k x
    → Upto s p (λ g. bit (M g)) k (bit c) → Lasts s p (λ g. In (f g) (z g (M g))) k → In x (later s z p k c)
later_of s z p f M zero x c u v w =
    rw (later_none s z p c)
    (start_of (shut s p) c x ((upto_none s p f x).0 u) ((upto_none s p (λ g. bit (M g)) (bit c)).0 v))
later_of s z p f M (suc k) x c u v w =
    let i = s.size - k in
    let before = lasts_less s p (λ g. In (f g) (z g (M g))) k w in
    split (is_son s p i)
    (λ e. let a = (upto_son s p f k x e).0 u in
    let b = upto_bit s p M k c e v in
    rw (later_son s z p k c e)
    (joined_of (join_kind s p) (later s z p k) (z i) b.0 (M i) c a.0 (f i) x b.2
    (later_of s z p f M k a.0 b.0 a.1 b.1 before)
    (w k (le_refl (suc k)) e) a.2))
    (λ e. rw (later_skip s z p k c e)
    (later_of s z p f M k x c ((upto_skip s p f k x e).0 u) ((upto_skip s p (λ g. bit (M g)) k (bit c) e).0 v) before))

-- no gap in the sons' spans, no gap in the fold
pub near_later : (s : Sheet) (z : ℕ → Bool → Span) (p k : ℕ) → Lasts s p (λ g. (m : ℕ) × Nears m (z g)) k
    → (m : ℕ) × Nears m (later s z p k)
near_later s z p zero w = (0, λ c. rw (later_none s z p c) (near_start (shut s p) c))
near_later s z p (suc k) w =
    let h = near_later s z p k (lasts_less s p (λ g. (m : ℕ) × Nears m (z g)) k w) in
    split (is_son s p (s.size - k))
    (λ e. let j = w k (le_refl (suc k)) e in (
      joint (join_kind s p) h.0 j.0,
      λ c. rw (later_son s z p k c e)
          (near_joined (join_kind s p) (later s z p k) (z (s.size - k)) h.0 j.0 h.1 j.1 c),
    ))
    (λ e. (h.0, λ c. rw (later_skip s z p k c e) (h.1 c)))

-- A total in the fold, taken apart at the son `size - k`: states for the sons after it and for that son, whose joined
-- span has the total; then `rest_of` and `son_of` are numbers for the two, and they make the total.
pub record Divided (s : Sheet) (z : ℕ → Bool → Span) (p k x : ℕ) (c b d : Bool) : Type 0 where
  pub states : Makes (join_kind s p) (bit b) (bit d) (bit c)
  pub rest : In (rest_of (join_kind s p) (later s z p k b) (z (s.size - k) d) x) (later s z p k b)
  pub son : In (son_of (join_kind s p) (later s z p k b) (z (s.size - k) d) x) (z (s.size - k) d)
  pub makes : Makes (join_kind s p) (rest_of (join_kind s p) (later s z p k b) (z (s.size - k) d) x)
      (son_of (join_kind s p) (later s z p k b) (z (s.size - k) d) x) x

-- any states whose joined span has the total will do
pub divide_at : (s : Sheet) (z : ℕ → Bool → Span) (p k x : ℕ) (c b d : Bool)
    → Lasts s p (λ g. (m : ℕ) × Nears m (z g)) (suc k) → is_son s p (s.size - k) ≡ true
    → Makes (join_kind s p) (bit b) (bit d) (bit c) → In x (join (join_kind s p) (later s z p k b) (z (s.size - k) d))
    → Divided s z p k x c b d
divide_at s z p k x c b d w e m h =
    let n = near_later s z p k (lasts_less s p (λ g. (m : ℕ) × Nears m (z g)) k w) in
    let j = w k (le_refl (suc k)) e in
    let v = join_in (join_kind s p) (later s z p k b) (z (s.size - k) d) x
    (near_proper (bit b) n.0 (later s z p k b) (n.1 b)) (near_proper (bit d) j.0 (z (s.size - k) d) (j.1 d)) h in
    record { states = m; rest = v.0; son = v.1; makes = v.2 }

pub divide_states : (s : Sheet) (z : ℕ → Bool → Span) (p k x : ℕ) (c : Bool)
    → Lasts s p (λ g. (m : ℕ) × Nears m (z g)) (suc k) → is_son s p (s.size - k) ≡ true
    → In x (later s z p (suc k) c)
    → (b d : Bool) × Makes (join_kind s p) (bit b) (bit d) (bit c) × In x (join (join_kind s p) (later s z p k b) (z (s.size - k) d))
divide_states s z p k x c w e h =
    let n = near_later s z p k (lasts_less s p (λ g. (m : ℕ) × Nears m (z g)) k w) in
    let j = w k (le_refl (suc k)) e in
    joined_states (join_kind s p) (later s z p k) (z (s.size - k)) n.0 j.0 n.1 j.1 c x (rw (later_son s z p k c e) at h)

-- f with y at i
abbrev pub put : {A : Type 0} → ℕ → A → (ℕ → A) → ℕ → A
put i y f g = cond (eqb g i) y (f g)

-- every total in the fold comes from numbers and marks of the sons, within their spans
pub record Taken (s : Sheet) (z : ℕ → Bool → Span) (p k x : ℕ) (c : Bool) (f : ℕ → ℕ) (M : ℕ → Bool) : Type 0 where
  pub numbers : Upto s p f k x
  pub marks : Upto s p (λ g. bit (M g)) k (bit c)
  pub within : Lasts s p (λ g. In (f g) (z g (M g))) k

pub taken_more : (s : Sheet) (z : ℕ → Bool → Span) (p k x : ℕ) (c b d : Bool) (f : ℕ → ℕ) (M : ℕ → Bool) (r y : ℕ)
    → is_son s p (s.size - k) ≡ true → Makes (join_kind s p) (bit b) (bit d) (bit c) → Makes (join_kind s p) r y x
    → In y (z (s.size - k) d) → Taken s z p k r b f M
    → Taken s z p (suc k) x c (put (s.size - k) y f) (put (s.size - k) d M)
taken_more s z p k x c b d f M r y e m w h t =
    let i = s.size - k in
    let is : eqb i i ≡ true = eq-eqb i i refl in
    let first : 1 ≤ i = (son_of_law s p i (omega arith) e).group.first in
    let other : (j : ℕ) → j < k → eqb (s.size - j) i ≡ false = λ j l. ne_eqb (s.size - j) i (λ q. omega arith) in
    record {
      numbers = (upto_son s p (put i y f) k x e).1
          (r, upto_eq s p f (put i y f) k r (λ j l o. rw (other j l)) t.numbers, rw is w);
      marks = (upto_son s p (λ g. bit (put i d M g)) k (bit c) e).1
          (bit b, upto_eq s p (λ g. bit (M g)) (λ g. bit (put i d M g)) k (bit b) (λ j l o. rw (other j l)) t.marks, rw is m);
      within = lasts_more s p (λ g. In (put i y f g) (z g (put i d M g))) k
          (λ j l o. rw (other j l) (t.within j l o)) (λ o. rw is h);
    }

pub later_in : (s : Sheet) (z : ℕ → Bool → Span) (p k x : ℕ) (c : Bool) → Lasts s p (λ g. (m : ℕ) × Nears m (z g)) k
    → In x (later s z p k c) → (f : ℕ → ℕ) × (M : ℕ → Bool) × Taken s z p k x c f M
later_in s z p zero x c w h =
    let v = start_in (shut s p) c x (rw (later_none s z p c) at h) in (
      λ g. 0,
      λ g. false,
      record {
        numbers = (upto_none s p (λ g. 0) x).1 v.0;
        marks = (upto_none s p (λ g. 0) (bit c)).1 v.1;
        within = λ j l. absurd (omega arith);
      },
    )
later_in s z p (suc k) x c w h =
    let before = lasts_less s p (λ g. (m : ℕ) × Nears m (z g)) k w in
    split (is_son s p (s.size - k))
    (λ e. let j = divide_states s z p k x c w e h in
    let v = divide_at s z p k x c j.0 j.1 w e j.2 j.3 in
    let u = later_in s z p k _ j.0 before v.rest in (
      put (s.size - k) (son_of (join_kind s p) (later s z p k j.0) (z (s.size - k) j.1) x) u.0,
      put (s.size - k) j.1 u.1,
      taken_more s z p k x c j.0 j.1 u.0 u.1 _ _ e j.2 v.makes v.son u.2,
    ))
    (λ e. let u = later_in s z p k x c before (rw (later_skip s z p k c e) at h) in (
      u.0,
      u.1,
      record {
        numbers = (upto_skip s p u.0 k x e).1 u.2.numbers;
        marks = (upto_skip s p (λ g. bit (u.1 g)) k (bit c) e).1 u.2.marks;
        within = lasts_more s p (λ g. In (u.0 g) (z g (u.1 g))) k u.2.within (λ o. absurd (true_not_false _ o e));
      },
    ))
