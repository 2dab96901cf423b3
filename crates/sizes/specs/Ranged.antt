-- The ranges from the root down: each son's interval, cut to what its parent's range and the other sons leave it.
-- Sons are taken off from the first one on; `held` is what the sons not yet taken off must make up.
use Rattle.std.specs.Prelude.{ℕ, zero, suc, ◌-◌, ◌≡◌, Bool, true, false, cond}
use Rattle.meaning.specs.Sheet.{Sheet, Son}
use Rattle.meaning.specs.Sons.{is_son}
use Rattle.sizes.specs.Span.{Span, meet, pull}
use Rattle.sizes.specs.Fold.{join_kind, later}

-- no flag forbids anything
abbrev pub free : ℕ → Bool → Bool
free g c = true

-- what the sons of p numbered n and above must make up together
unfoldable pub held : Sheet → (ℕ → Bool → Span) → (ℕ → Span) → ℕ → ℕ → Span
held s z R p zero = R p
held s z R p (suc n) =
    cond (is_son s p n) (meet (later s z p (s.size - n) false) (pull (join_kind s p) (held s z R p n) (z n false))) (held s z R p n)

-- the range of the son g of p, where the sons from g on must make up t
abbrev pub son_range : Sheet → (ℕ → Bool → Span) → Span → ℕ → ℕ → Span
son_range s z t p g = meet (z g false) (pull (join_kind s p) t (later s z p (s.size - g) false))

pub record Ranged (s : Sheet) (z : ℕ → Bool → Span) (R : ℕ → Span) : Type 0 where
  pub root : R 1 ≡ z 1 false
  pub son : (p g : ℕ) → Son s p g → R g ≡ son_range s z (held s z R p g) p g
