-- What holds of the sheet that a readable byte string carries, in the terms of its meaning: groups and names by number.
use Prim.Native.Nat.{ℕ, ◌-◌, ◌≤◌, ◌<◌}
use mathlib.Core.Path.{◌≡◌}
use mathlib.Core.List.{List}
use native.Mathlib.Omega.{arith}
use lib.ListN.{length}
use Rattle.wire.specs.Limits.{bound_limit, no_end}
use Rattle.wire.specs.Record.{read}
use Rattle.wire.specs.SheetFormat.{Records, read_sheet}
use Rattle.wire.specs.Encoding.{Right, SheetWithin}
use Rattle.wire.proofs.Facts.{ParentRight, group_at_law, parent_at, root_parent, name_at, end_at, read_right}
use Rattle.meaning.specs.Sheet.{Group}
use Rattle.meaning.specs.Tree.{Tree, Rooted}
use Rattle.meaning.specs.OfRecords.{group_at, sheet_of, name_group}

module _ {d : Records} (R : Right d) (g : ℕ) (G : Group (sheet_of d.groups) g) where
  pub parent_before : (group_at d.groups g).parent < g
  parent_before =
      let p : ParentRight (g - 1) (group_at d.groups g).parent = parent_at R (g - 1) _ (omega arith) in
      omega arith

  pub parent_group : 2 ≤ g → 1 ≤ (group_at d.groups g).parent
  parent_group two = (parent_at R (g - 1) _ (omega arith)).first (omega arith)

  pub lo_most : (group_at d.groups g).lo ≤ bound_limit
  lo_most = (group_at_law R (g - 1) _ (omega arith)).lo

pub root_under_none : {d : Records} → Right d → (group_at d.groups 1).parent ≡ 0
root_under_none R = root_parent R _

pub root_group : {d : Records} → Right d → Group (sheet_of d.groups) 1
root_group R = record { first = omega arith; last = R.some_group }

pub name_group_most : {d : Records} → Right d → (n : ℕ) → 1 ≤ n → n ≤ length d.names
    → name_group d.names n ≤ length d.groups
name_group_most R n h k = (name_at R (n - 1) _ (omega arith)).group

pub hi_most : {d : Records} → SheetWithin d → (g : ℕ) → Group (sheet_of d.groups) g → (group_at d.groups g).hi ≤ no_end
hi_most w g G = end_at w (g - 1) _ (omega arith)

pub tree_of_right : {d : Records} → Right d → Tree (sheet_of d.groups)
tree_of_right R = record { before = λ g G. parent_before R g G }

-- group 1 of a readable sheet is its one root
pub rooted_of_right : {d : Records} → Right d → Rooted (sheet_of d.groups)
rooted_of_right R = record { one = root_group R; top = root_under_none R; rest = λ g G two. parent_group R g G two }

-- every readable sheet is a tree
pub tree_of_readable : (b : List ℕ) (d : Records) → read_sheet b ≡ read d → Tree (sheet_of d.groups)
tree_of_readable b d e = tree_of_right (read_right b d e)
