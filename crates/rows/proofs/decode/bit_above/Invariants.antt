-- `rows::decode::bit_above` meets its contract. Invariant: no bit of the words before k is above the groups.
use Prim.Native.Nat.{◌-◌, ◌*◌, ◌/◌, ◌≤◌}
use mathlib.Core.Path.{◌≡◌}
use mathlib.Core.Bool.{false}
use Rattle.wire.specs.Edition.{edition_of}
use Rattle.rows.specs.RowsRead.{word_bits, row_words, bit_at, Above}
use Rattle.rows.proofs.decode.bit_above.Given as goal

abbrev pub invariant-loop-k : goal.invariant-loop-k
invariant-loop-k l = (l.k-end ≡ row_words (edition_of l.edition)) × (l.groups / word_bits ≤ l.k) × Above l.groups 0 (word_bits * l.k) (bit_at l.register l.offset) false

abbrev pub decreases-loop-k : goal.decreases-loop-k
decreases-loop-k l = l.k-end - l.k
