use Rattle.std.proofs.Common.{sym}
use Rattle.labels.proofs.Strings.{same_length}
use Rattle.labels.proofs.same.same_label.Goals as goal

pub returns-then-a-b : goal.returns-then-a-b
returns-then-a-b c = sym (same_length _ _ c.if-a-b.true)
