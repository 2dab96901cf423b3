-- The groups of a sheet that was read, as its table holds them.
use Prim.Native.Nat.{ℕ, ◌≤◌}
use mathlib.Core.Path.{◌≡◌, ap, ◌∙◌, refl}
use mathlib.Core.List.{List}
use native.Mathlib.Omega.{arith}
use lib.ListN.{length}
use Rattle.records.specs.declared.record.Head.{Head}
use Rattle.std.specs.Prelude.{Result, Ok}
use Rattle.wire.specs.declared.refusals.Fault.{Fault}
use Rattle.tables.specs.declared.groups.Group.{Group}
use Rattle.reading.specs.declared.sheet_tables.Tables.{Tables}
use Rattle.wire.specs.Record.{read}
use Rattle.wire.specs.SheetFormat.{Records, read_sheet}
use Rattle.wire.proofs.Facts.{read_right, right_few}
use Rattle.meaning.proofs.Readable.{tree_of_right, rooted_of_right}
use Rattle.tables.specs.Groups.{groups_in}
use Rattle.tables.specs.SheetIn.{sheet_in, Tabled}
use Rattle.tables.proofs.GroupsLaws.{length_groups_in}
use Rattle.reading.specs.Loaded.{Loads}
use Rattle.reading.proofs.LoadedLaws.{loaded_sheet, loaded_held}

-- the groups of a readable sheet, as the table holds them
pub tabled : (b : List ℕ) (t : List Group) (n : ℕ) (d : Records) → read_sheet b ≡ read d → d.groups ≡ groups_in t n
    → n ≤ length t → Tabled t n
unfolding sheet_in
tabled b t n d e f l =
    let R = read_right b d e in
    let m : length d.groups ≡ n = ap length f ∙ length_groups_in t n in
    record {
      some = omega (arith, R.some_group);
      small = omega (arith, right_few R);
      long = l;
      tree = rw (← f) (tree_of_right R);
      rooted = rw (← f) (rooted_of_right R);
    }

-- those of a sheet that was loaded
pub loaded_tabled : {r : Result Head Fault} {b : List ℕ} {t : Tables} → Loads r (read_sheet b) b t → (h : Head)
    → r ≡ Ok h → Tabled t.groups h.groups
loaded_tabled w h e = tabled _ _ _ _ (loaded_sheet w h e) refl (loaded_held w h e).room
