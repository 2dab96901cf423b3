-- The number that a call returns for an answer.
use Rattle.std.specs.Prelude.{ℕ, Result, Ok, Err}
use Rattle.wire.specs.declared.refusals.Fault.{Fault}
use Rattle.wire.specs.Refusals.{refusal_number}
use Rattle.replies.specs.Reply.{packed}

-- the pair of the bytes written, or of a refusal with the number of its record or row
abbrev pub returned : Result ℕ Fault → ℕ
returned (Ok n) = packed 0 n
returned (Err e) = packed (refusal_number e.refusal) e.place
