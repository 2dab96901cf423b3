-- The kind tells the two cases apart.
use mathlib.Core.Path.{◌∙◌}
use native.Mathlib.Omega.{arith}
use Rattle.claim_records.proofs.ListKinds.{list_read_law}
use Rattle.claim_records.proofs.Taken.{count_taken, lists_taken}
use Rattle.claim_records.proofs.body.take_claim.Goals as goal

pub returns-then-kind-eq4 : goal.returns-then-kind-eq4
returns-then-kind-eq4 c =
    count_taken _ _ _ _ _ (c.requires.1.1.1 ∙ c.if-kind-eq4.true)
    c.u16_at-a.ensures c.u16_at-b.ensures c.u16_at.ensures

pub returns-else-kind-eq4 : goal.returns-else-kind-eq4
returns-else-kind-eq4 c =
    let p = c.requires in
    lists_taken _ _ _ _ _ c.u16_at-a.ensures c.u16_at-b.ensures
    (rw c.of_number.ensures (p.1.1.1 ∙ list_read_law _ (omega (arith, p.1.0, c.if-kind-eq4.false)) p.1.1.0))
