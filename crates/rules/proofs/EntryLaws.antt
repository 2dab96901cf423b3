-- An entry of the table of groups that was read by a group's number.
use Rattle.std.proofs.Common.{ℕ, List, arith, ◌≡◌, ◌∙◌, ◌-◌, ◌≤◌, ap}
use Rattle.std.proofs.lemmas.List.{get_or_read}
use lib.ListN.{get_or, length}
use Rattle.tables.specs.declared.groups.Group.{Group as TableGroup}
use Rattle.tables.specs.Entry.{no_group}

pub entry_read : (t : List TableGroup) (g i : ℕ) (x : TableGroup) → 1 ≤ g → g ≤ length t → i ≡ g - 1 → x ≡ get_or t i x
    → x ≡ get_or t (g - 1) no_group
entry_read t g i x a b e r = get_or_read t i x (omega arith) r no_group ∙ ap (λ j. get_or t j no_group) e
