-- Laws of flags: where every flag is free.
use Prim.Native.Nat.{ℕ, ◌-◌, ◌≤◌}
use mathlib.Core.Path.{◌≡◌, refl, ap, ◌∙◌}
use mathlib.Core.Bool.{Bool, true, false, cond}
use mathlib.Core.List.{List}
use native.Mathlib.Omega.{arith}
use lib.ListN.{replicate, get_or-replicate, get_or}
use Rattle.wire.specs.Limits.{no_end}
use Rattle.wire.specs.Capacity.{group_capacity}
use Rattle.meaning.specs.Sheet.{Group, end_of}
use Rattle.sizes.specs.Span.{none}
use Rattle.sizes.specs.Fold.{join_kind, own_to, own}
use Rattle.tables.specs.declared.groups.Group.{Group as TableGroup}
use Rattle.tables.specs.Groups.{group_in}
use Rattle.tables.specs.SheetIn.{sheet_in}
use Rattle.tables.proofs.SheetInLaws.{lo_in_law, hi_in_law, disjoint_in, same_in}
use Rattle.spans.specs.declared.may.May.{May}
use Rattle.spans.specs.Held.{may_flag, mode_kind}
use Rattle.measuring.specs.Tables.{nowhere, may_in}

-- the flag that forbids nothing, and the table of these
abbrev pub free_may : May
free_may = record { out = true; inn = true }

abbrev pub free_table : List May
free_table = replicate group_capacity free_may

pub free_flag : (g : ℕ) → 1 ≤ g → g ≤ group_capacity → (c : Bool) → may_in free_table g c ≡ true
unfolding may_in
free_flag g a l c = ap (λ x. may_flag x c) (get_or-replicate group_capacity (g - 1) free_may nowhere (omega arith)) ∙ any c
  where
    any : (c : Bool) → may_flag free_may c ≡ true
    any true = refl
    any false = refl

module _ (t : List TableGroup) (n g : ℕ) (k : Group (sheet_in t n) g) where
  pub kind_in_law : join_kind (sheet_in t n) g ≡ mode_kind (group_in t (g - 1)).mode
  unfolding join_kind mode_kind
  kind_in_law = rw (same_in t n g k, disjoint_in t n g k)

  pub own_in : (f : List May) (c : Bool) → own (sheet_in t n) (may_in f) g c
      ≡ cond (may_flag (get_or f (g - 1) nowhere) c) (own_to (group_in t (g - 1)).lo (end_of no_end (group_in t (g - 1)).hi) c) none
  unfolding own may_in
  own_in f c = rw (lo_in_law t n g k, hi_in_law t n g k)
