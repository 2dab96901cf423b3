-- Two groups with the same fields are the same.
use Rattle.std.proofs.Common.{◌≡◌, ◌≤◌, None, replicate, ap, ◌∙◌}
use Rattle.std.proofs.Math.Bridge.{le_prop}
use Rattle.wire.specs.Limits.{no_end, name_limit, claim_limit}
use Rattle.wire.specs.Capacity.{group_capacity}
use Rattle.tables.specs.declared.groups.Group.{Group}
use Rattle.claim_records.specs.ClaimTable.{no_claim}
use Rattle.reading.specs.declared.sheet_tables.Tables.{Tables}
use Rattle.reading.proofs.sheet_tables.Tables.new.Goals as goal

both : (p q : (0 ≤ no_end) × (0 ≤ no_end)) → p ≡ q
both p q =
    let B : Type 0 = (0 ≤ no_end) × (0 ≤ no_end) in
    let f : 0 ≤ no_end → B = λ x. (x, p.1) in
    let g : 0 ≤ no_end → B = λ x. (q.0, x) in
    ap f (le_prop p.0 q.0) ∙ ap g (le_prop p.1 q.1)

group_of : (0 ≤ no_end) × (0 ≤ no_end) → Group
group_of b = record { parent = None; lo = 0; hi = 0; mode = record { 0 = 0 }; bounded = b }

of_bounds : (0 ≤ no_end) × (0 ≤ no_end) → Tables
of_bounds b = record {
  groups = replicate group_capacity (group_of b);
  names = replicate name_limit None;
  labels = replicate name_limit 0;
  claims = replicate claim_limit no_claim;
}

pub returns : goal.returns
unfolding of_bounds group_of
returns c = ap of_bounds (both _ _)
