-- Rows: the member before the row that comes next is that of the last row, and which bits above the groups are clear.
use Prim.Native.Nat.{ℕ, zero, suc, ◌+◌, ◌<◌}
use mathlib.Core.Path.{◌≡◌, refl}
use mathlib.Core.Bool.{true, false}
use mathlib.Core.List.{List, [], ◌∷◌, ◌++◌}
use native.Mathlib.Omega.{arith}
use native.Mathlib.Nat.{le_refl}
use Rattle.laws.proofs.Cases.{split, below_suc, not_true_false, true_not_false}
use Rattle.wire.specs.RegisterFormat.{Row, last_member, in_group, clear_above}

pub last_member_behind : (rs : List Row) (r : Row) → last_member (rs ++ (r ∷ [])) ≡ r.member
unfolding last_member
last_member_behind [] r = refl
last_member_behind (q ∷ []) r = refl
last_member_behind (q ∷ (p ∷ rs)) r = last_member_behind (p ∷ rs) r

pub clear_some : (r : Row) (groups n k : ℕ) → k < n → in_group r (groups + suc k) ≡ true → clear_above r groups n ≡ false
unfolding clear_above
clear_some r groups zero k l e = absurd (omega arith)
clear_some r groups (suc n) k l e =
    below_suc k n l
    (λ o. let z = rw o at e in rw z)
    (λ o. split (in_group r (groups + suc n)) (λ x. rw x) (λ x. rw x (clear_some r groups n k o e)))

pub clear_none : (r : Row) (groups n : ℕ) → ((k : ℕ) → k < n → in_group r (groups + suc k) ≡ false) → clear_above r groups n ≡ true
unfolding clear_above
clear_none r groups zero h = refl
clear_none r groups (suc n) h = rw (h n (le_refl (suc n))) (clear_none r groups n (λ k l. h k (omega arith)))

pub clear_at : (r : Row) (groups n k : ℕ) → clear_above r groups n ≡ true → k < n → in_group r (groups + suc k) ≡ false
clear_at r groups n k c l =
    not_true_false (in_group r (groups + suc k)) (λ e. true_not_false (clear_above r groups n) c (clear_some r groups n k l e))
