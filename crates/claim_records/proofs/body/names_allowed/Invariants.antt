-- The numbers that are left are within the limit just where all of them are.
use Rattle.std.proofs.Common.{◌≡◌, ◌+◌, ◌-◌, ◌*◌}
use Rattle.wire.specs.SheetFormat.{all_within, u16s}
use Rattle.claim_records.proofs.body.names_allowed.Given as goal

abbrev pub invariant-loop-i : goal.invariant-loop-i
invariant-loop-i l = all_within l.names (u16s l.s (l.at + 2 * l.i) (l.n - l.i)) ≡ all_within l.names (u16s l.s l.at l.n)
