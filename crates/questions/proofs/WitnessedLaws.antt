-- Laws of witnesses among sets with numbers as members.
use mathlib.Core.Bool.{true, true≢false, false, false≢true, Bool}
use Rattle.questions.specs.Witnessed.{Witnessed}

pub witnessed_yes : {F S : Type 0} → F → Witnessed F S true
witnessed_yes f = record { found = λ e. f; lacking = λ e. absurd (true≢false e) }

pub witnessed_no : {F S : Type 0} → (S → ⊥) → Witnessed F S false
witnessed_no n = record { found = λ e. absurd (false≢true e); lacking = λ e. n }

-- a question that is another one in other words
pub witnessed_as : {F G S T : Type 0} {x : Bool} → (F → G) → (T → S) → Witnessed F S x → Witnessed G T x
witnessed_as f t w = record { found = λ e. f (w.found e); lacking = λ e y. w.lacking e (t y) }
