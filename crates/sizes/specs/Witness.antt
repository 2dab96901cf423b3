-- Sets that answer a question by themselves: they break a claim of kinds 4 to 6, or have the member of a claim of kind 7.
use Rattle.std.specs.Prelude.{ℕ}
use Rattle.meaning.specs.Sheet.{Sheet}
use Rattle.meaning.specs.Sets.{Sets}
use Rattle.meaning.specs.Fits.{Fits}
use Rattle.meaning.specs.Claim.{Breaks}
use Rattle.meaning.specs.Place.{Fills, Question, all_say, some_place}

abbrev pub Witness : {X : Type 0} → Question → Sets X → Type 0
Witness (all_say c) A = Breaks c A
Witness (some_place l r) A = (i : ℕ) × Fills A l r i

-- some sets that fit do so: `Breakable` for kinds 4 to 6, `Fillable` for kind 7
abbrev pub HasWitness : Sheet → Question → Type 0
HasWitness s q = (A : Sets ℕ) × Fits s A × Witness q A

-- sets that answer a question, with the number of the member that does
abbrev pub WitnessAt : {X : Type 0} → Question → Sets X → ℕ → Type 0
WitnessAt (all_say c) A i = Breaks c A
WitnessAt (some_place l r) A i = Fills A l r i

-- as a reply shows them: it is number 0
abbrev pub ShownWitness : {X : Type 0} → Question → Sets X → Type 0
ShownWitness q A = WitnessAt q A 0
