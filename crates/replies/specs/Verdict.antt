-- The number of a verdict: document 01, "Replies", "verdict 1 holds or 0 denied".
use Rattle.std.specs.Prelude.{ℕ}
use Rattle.replies.specs.declared.verdict.Verdict.{Verdict}
use Rattle.replies.specs.declared.verdict.Verdict.TheVariants.{Holds, Denied}

abbrev pub verdict_number : Verdict → ℕ
verdict_number Holds = 1
verdict_number Denied = 0
