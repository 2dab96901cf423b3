-- The bytes passed are the same.
use Rattle.std.proofs.Common.{◌≡◌, ◌≤◌, length, true}
use Rattle.labels.proofs.Strings.{alike}
use Rattle.labels.proofs.same.same_by_u64.Given as goal

abbrev pub invariant-loop-i : goal.invariant-loop-i
invariant-loop-i l = (l.i ≤ length l.a) × (alike l.a l.b l.i ≡ true)
