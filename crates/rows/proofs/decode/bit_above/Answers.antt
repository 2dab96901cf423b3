-- `rows::decode::bit_above` meets its contract. Invariant: no bit of the words before k is above the groups.
use native.Mathlib.Omega.{arith}
use Rattle.wire.specs.Edition.{edition_of}
use Rattle.wire.proofs.EditionFacts.{groups_within}
use Rattle.rows.proofs.RowBits.{words_groups, words_bytes, above_nothing, above_on, above_fewer, above_more}
use Rattle.rows.proofs.decode.bit_above.Goals as goal

pub loop-k-init : goal.loop-k-init
loop-k-init c = (c.row_words-k-end.ensures, omega arith, above_nothing _ _ _ (omega arith))

pub word_at-requires : goal.word_at-requires
word_at-requires c = let ed = edition_of c.args.edition in omega (arith, words_bytes ed, c.loop-k.invariant.0)

pub overflow_mul-k : goal.overflow_mul-k
overflow_mul-k c =
    let ed = edition_of c.args.edition in
    omega (arith, words_groups ed, groups_within ed, c.loop-k.invariant.0)

pub word_above-requires : goal.word_above-requires
word_above-requires c = omega (arith, c.loop-k.invariant.1)

pub returns-then-word_above : goal.returns-then-word_above
returns-then-word_above c =
    let ed = edition_of c.args.edition in
    above_more (omega (arith, words_groups ed, c.loop-k.invariant.0))
    (above_on c.loop-k.invariant.2 c.word_at.ensures (rw c.if-word_above.true at c.word_above.ensures))

pub loop-k-preserved : goal.loop-k-preserved
loop-k-preserved c = (
  c.loop-k.invariant.0,
  omega (arith, c.loop-k.invariant.1),
  above_on c.loop-k.invariant.2 c.word_at.ensures (rw c.if-word_above.false at c.word_above.ensures),
)

pub returns : goal.returns
returns c =
    let ed = edition_of c.args.edition in
    above_fewer (omega (arith, words_groups ed, c.loop-k.invariant.0)) c.loop-k.invariant.2
