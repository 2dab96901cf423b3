-- Laws of witnesses: one at a place is one.
use Prim.Native.Nat.{ℕ}
use Rattle.meaning.specs.Sets.{Sets}
use Rattle.meaning.specs.Place.{Question, all_say, some_place}
use Rattle.sizes.specs.Witness.{Witness, WitnessAt}

pub witness_at : {X : Type 0} (q : Question) (A : Sets X) (i : ℕ) → WitnessAt q A i → Witness q A
witness_at (all_say c) A i w = w
witness_at (some_place l r) A i w = (i, w)
