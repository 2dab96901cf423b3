-- What is left of the two is as good as all of them.
use Rattle.std.proofs.Common.{◌≡◌, length}
use Rattle.wire.specs.SheetFormat.{same_label}
use Rattle.labels.proofs.same.same_by_bytes.Given as goal

abbrev pub invariant-loop-x : goal.invariant-loop-x
invariant-loop-x l = (length l.x-iterator.a.rest.now ≡ length l.x-iterator.b.rest.now) ×
    (same_label l.x-iterator.a.rest.now l.x-iterator.b.rest.now ≡ same_label l.a l.b)
