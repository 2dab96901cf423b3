-- Numbers and marks for all groups, given out in number order. Each group keeps what its sons not yet reached must make
-- up: a number and a state of the later sons' intervals. Past the last group the numbers and marks are a choice.
use Rattle.std.specs.Prelude.{ℕ, ◌-◌, ◌≤◌, ◌≡◌, Bool}
use Rattle.laws.specs.Sum.{bit}
use Rattle.meaning.specs.Sheet.{Sheet, Son, Group}
use Rattle.sizes.specs.Span.{Span, In, Kind, Makes, join}
use Rattle.sizes.specs.Fold.{later}
use Rattle.sizes.specs.RuleSteps.{Upto}

-- whatever numbers G the later sons have, equal to F up to i: where they make x, all sons make y
abbrev pub Leads : Sheet → ℕ → (ℕ → ℕ) → ℕ → ℕ → ℕ → Type 0
Leads s p F i x y =
    (G : ℕ → ℕ) → ((g : ℕ) → Son s p g → g ≤ i → G g ≡ F g) → Upto s p G (s.size - i) x → Upto s p G s.size y

-- the groups up to i have their numbers f and marks M; R and C are what is left to their later sons
pub record Parted (s : Sheet) (z : ℕ → Bool → Span) (f : ℕ → ℕ) (M : ℕ → Bool) (R : ℕ → ℕ) (C : ℕ → Bool) (i : ℕ) : Type 0 where
  pub within : (p : ℕ) → Group s p → p ≤ i → In (f p) (z p (M p))
  pub left : (p : ℕ) → Group s p → p ≤ i → In (R p) (later s z p (s.size - i) (C p))
  pub numbers : (p : ℕ) → Group s p → p ≤ i → Leads s p f i (R p) (f p)
  pub marks : (p : ℕ) → Group s p → p ≤ i → Leads s p (λ g. bit (M g)) i (bit (C p)) (bit (M p))

-- some states of the sons so far (a) and of one more son (z), joined, hold the number r
abbrev pub Divisible : Kind → (Bool → Span) → (Bool → Span) → ℕ → Bool → Type 0
Divisible q a z r c = (b d : Bool) × Makes q (bit b) (bit d) (bit c) × In r (join q (a b) (z d))

-- the number r and the state c divided: x and b for the sons so far, y and d for the one more son
pub record Shared (q : Kind) (a z : Bool → Span) (r : ℕ) (c : Bool) (x : ℕ) (b : Bool) (y : ℕ) (d : Bool) : Type 0 where
  pub states : Makes q (bit b) (bit d) (bit c)
  pub numbers : Makes q x y r
  pub rest : In x (a b)
  pub son : In y (z d)
