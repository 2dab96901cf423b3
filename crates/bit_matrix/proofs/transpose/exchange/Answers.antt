-- `exchange` meets its contract. Invariant: the words below 2 * i are exchanged.
use mathlib.Core.Path.{refl}
use native.Mathlib.Omega.{arith}
use borrow.Author.Rules.{rules}
use lib.ListN.{length-set}
use lib.Bits.{and_le_l}
use Rattle.bit_matrix.proofs.ExchangeLaws.{exchanged_none, exchanged_more}
use Rattle.bit_matrix.proofs.transpose.exchange.Goals as goal

pub loop-i-init : goal.loop-i-init
loop-i-init c = (refl, exchanged_none _ _ _ _ _)

pub overflow_sub-to : goal.overflow_sub-to
overflow_sub-to c = and_le_l _ _

pub overflow_sub-to-in-loop-i : goal.overflow_sub-to-in-loop-i
overflow_sub-to-in-loop-i c = and_le_l _ _

pub bounds-to-i-in-loop-i : goal.bounds-to-i-in-loop-i
bounds-to-i-in-loop-i c = simp length-set (omega arith)

pub loop-i-preserved : goal.loop-i-preserved
loop-i-preserved c = (search rules, exchanged_more c.loop-i.i c.requires.mask.0 (search rules) (c.type_inv.from _).fits c.loop-i.invariant.1)

pub returns : goal.returns
returns c = record { each = λ r d l. c.loop-i.invariant.1.each r d (omega arith) }
