-- `link_sons` meets its contract. Invariant: the groups before n are linked.
use Prim.Native.Nat.{◌-◌, ◌≤◌, max}
use Rattle.tables.specs.SheetIn.{sheet_in}
use Rattle.measuring.specs.Links.{Chained}
use Rattle.measuring.proofs.links.link_sons.Given as goal

abbrev pub invariant-loop-n : goal.invariant-loop-n
invariant-loop-n l = record {
  most : l.n ≤ max l.groups.size 2;
  chained : Chained (sheet_in l.groups.table.now l.groups.size) l.last l.prev (l.n - 1);
}
