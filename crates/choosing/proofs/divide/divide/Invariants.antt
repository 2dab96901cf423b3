-- `divide` meets its contract: the groups before n have their numbers and marks.
use Prim.Native.Nat.{◌-◌, ◌≤◌, max}
use mathlib.Core.Path.{◌≡◌}
use lib.ListN.{length}
use Rattle.tables.specs.Numbers.{number_in}
use Rattle.tables.specs.SheetIn.{sheet_in}
use Rattle.measuring.specs.Pairs.{pair_in}
use Rattle.choosing.specs.Divided.{marked_in, DividedTo}
use Rattle.choosing.proofs.divide.divide.Given as goal

abbrev pub invariant-loop-n : goal.invariant-loop-n
invariant-loop-n l = record {
  most : l.n ≤ max l.groups.size 2;
  sizes_long : l.groups.size ≤ length l.sizes;
  marks_long : l.groups.size ≤ length l.marks;
  root : number_in l.sizes 1 ≡ l.r;
  state : marked_in l.marks 1 ≡ l.c;
  divided : DividedTo (sheet_in l.groups.table.now l.groups.size) (pair_in l.spans) l.sizes l.marks l.left (l.n - 1);
}
