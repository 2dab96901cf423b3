-- The bytes so far, with those that are left, are as good as all of them.
use Rattle.std.proofs.Common.{◌≡◌, ◌&&◌, drop}
use Rattle.wire.specs.SheetFormat.{label_bytes}
use Rattle.labels.proofs.allowed.label_allowed.Given as goal

abbrev pub invariant-loop-x : goal.invariant-loop-x
invariant-loop-x l = (l.allowed && label_bytes (drop l.x-index l.label)) ≡ label_bytes l.label
