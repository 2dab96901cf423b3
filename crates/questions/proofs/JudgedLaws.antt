-- Laws of judging a question by sets that fit.
use Prim.Native.Nat.{ℕ}
use mathlib.Core.Path.{◌≡◌}
use mathlib.Core.Bool.{Bool, true}
use Rattle.meaning.specs.Sheet.{Sheet, Group}
use Rattle.sizes.specs.Balanced.{Choice}

-- a choice looks at the flags of its own states only
pub choice_allowed : {s : Sheet} {may can : ℕ → Bool → Bool} {f : ℕ → ℕ} {M : ℕ → Bool}
    → ((g : ℕ) → Group s g → can g (M g) ≡ true) → Choice s may f M → Choice s can f M
choice_allowed e w = record { others = w.others; one = w.one; least = w.least; most = w.most; allowed = e }
