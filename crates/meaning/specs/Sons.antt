-- The sons of a group, in number order: a test, and sums over them. Document 01, "A son is a group whose parent this is"
-- ("Meaning") and "Sons in number order" ("The arrangement").
use Rattle.std.specs.Prelude.{ℕ, suc, Bool, cond, ◌&&◌, ltb, eqb}
use Rattle.laws.specs.Sum.{sum}
use Rattle.meaning.specs.Sheet.{Sheet}

-- `Son` as a test, for g at most the size
unfoldable pub is_son : Sheet → ℕ → ℕ → Bool
is_son s p g = ltb 0 p && ltb 0 g && eqb (s.parent g) p

-- f at the sons of p, 0 elsewhere
abbrev pub only : Sheet → ℕ → (ℕ → ℕ) → ℕ → ℕ
only s p f g = cond (is_son s p g) (f g) 0

-- the sum of f over the sons of p
unfoldable pub sons : Sheet → ℕ → (ℕ → ℕ) → ℕ
sons s p f = sum (only s p f) (suc s.size)
