-- What a table of pairs of spans holds, and a store to it.
use Rattle.std.specs.Prelude.{ℕ, ◌-◌, ◌≤◌, ◌≡◌, Bool, List, get_or}
use Rattle.meaning.specs.Sheet.{Top}
use Rattle.sizes.specs.Span.{Span}
use Rattle.spans.specs.declared.pair.Pair.{Pair}
use Rattle.spans.specs.Held.{pair_of, AlikeBoth, top_of}

-- what stands for an entry past the end of a table
abbrev pub no_pair : Pair
no_pair = record { out = record { least = 0; most = 0 }; inn = record { least = 0; most = 0 } }

-- the spans of group g
unfoldable pub pair_in : List Pair → ℕ → Bool → Span
pair_in t g = pair_of (get_or t (g - 1) no_pair)

-- u is t with the spans p at group g
pub record PairPut (t : List Pair) (g : ℕ) (p : Bool → Span) (u : List Pair) : Type 0 where
  pub put : AlikeBoth (pair_in u g) p
  pub others : (h : ℕ) → 1 ≤ h → (h ≡ g → ⊥) → AlikeBoth (pair_in u h) (pair_in t h)

-- the least and the greatest number of group g, the member being out of it
abbrev pub least_in : List Pair → ℕ → ℕ
least_in t g = (get_or t (g - 1) no_pair).out.least

abbrev pub greatest_in : List Pair → ℕ → Top
greatest_in t g = top_of (get_or t (g - 1) no_pair).out.most
