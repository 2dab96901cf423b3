-- What a call gave, and the number that it returned.
use Rattle.std.specs.Prelude.{ℕ, ◌+◌, ◌*◌, Result, Ok, Err}
use Rattle.sheet_report.specs.declared.Refused.{Refused}

-- the pair as one number: 0 with the bytes written, or a refusal with a record number
abbrev pub given : Result ℕ Refused → ℕ
given (Ok n) = n
given (Err e) = 4294967296 * e.number + e.record
