-- The rule at a group, son by son from the last one: `Upto s p f k x` says that x is a total of the sons of p among the
-- last k groups. It steps as the fold does, and at the end it is the rule.
use Rattle.std.specs.Prelude.{ℕ, zero, suc, ◌-◌, ◌≡◌, Bool, true, false}
use Rattle.meaning.specs.Sheet.{Sheet}
use Rattle.meaning.specs.Sons.{is_son}
use Rattle.sizes.specs.Span.{Kind, Makes}
use Rattle.sizes.specs.Fold.{join_kind, shut}

-- a total x with one more number y, where that is a son's
abbrev More : Bool → Kind → (ℕ → Type 0) → ℕ → ℕ → Type 0
More true q U y x = (t : ℕ) × U t × Makes q t y x
More false q U y x = U x

unfoldable pub Upto : Sheet → ℕ → (ℕ → ℕ) → ℕ → ℕ → Type 0
Upto s p f zero x = shut s p ≡ true → x ≡ 0
Upto s p f (suc k) x = More (is_son s p (s.size - k)) (join_kind s p) (Upto s p f k) (f (s.size - k)) x
