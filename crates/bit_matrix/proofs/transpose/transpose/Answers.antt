-- `transpose` meets its contract: each exchange brings the matrix on by a step.
use Rattle.bit_matrix.proofs.TransposeLaws.{step_32, step_16, step_8, step_4, step_2, step_1, turned_none, turned_more, turned_all}
use borrow.Author.Rules.{rules}
use Rattle.bit_matrix.proofs.transpose.transpose.Goals as goal

pub exchange-requires-clause-mask : goal.exchange-requires-clause-mask
exchange-requires-clause-mask c = (step_32.mask, search rules)

pub exchange-requires-2-clause-mask : goal.exchange-requires-2-clause-mask
exchange-requires-2-clause-mask c = (step_16.mask, search rules)

pub exchange-requires-3-clause-mask : goal.exchange-requires-3-clause-mask
exchange-requires-3-clause-mask c = (step_8.mask, search rules)

pub exchange-requires-4-clause-mask : goal.exchange-requires-4-clause-mask
exchange-requires-4-clause-mask c = (step_4.mask, search rules)

pub exchange-requires-5-clause-mask : goal.exchange-requires-5-clause-mask
exchange-requires-5-clause-mask c = (step_2.mask, search rules)

pub exchange-requires-6-clause-mask : goal.exchange-requires-6-clause-mask
exchange-requires-6-clause-mask c = (step_1.mask, search rules)

pub returns : goal.returns
returns c =
    let t1 = turned_more step_32 (turned_none _ _) c.exchange.ensures in
    let t2 = turned_more step_16 t1 c.exchange-2.ensures in
    let t3 = turned_more step_8 t2 c.exchange-3.ensures in
    let t4 = turned_more step_4 t3 c.exchange-4.ensures in
    let t5 = turned_more step_2 t4 c.exchange-5.ensures in
    turned_all (turned_more step_1 t5 c.exchange-6.ensures)
