-- `exchange` meets its contract. Invariant: the words below 2 * i are exchanged.
use Prim.Native.Nat.{◌-◌, ◌*◌}
use mathlib.Core.Path.{◌≡◌}
use lib.ListN.{length}
use Rattle.bit_matrix.specs.Exchange.{Exchanged}
use Rattle.bit_matrix.proofs.transpose.exchange.Given as goal

abbrev pub invariant-loop-i : goal.invariant-loop-i
invariant-loop-i l = (length l.to ≡ length l.initial.to) × Exchanged l.s l.mask (2 * l.i) l.from l.at l.to

abbrev pub decreases-loop-i : goal.decreases-loop-i
decreases-loop-i l = 32 - l.i
