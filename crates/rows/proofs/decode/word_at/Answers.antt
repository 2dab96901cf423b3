-- `rows::decode::word_at` meets its contract.
use borrow.Author.Rules.{rules}
use Rattle.wire.specs.Edition.{membership_bytes}
use Rattle.rows.proofs.RowBits.{word_at}
use Rattle.rows.proofs.decode.word_at.Goals as goal

pub u64_at-requires : goal.u64_at-requires
unfolding membership_bytes
u64_at-requires c = search rules

pub returns : goal.returns
returns c = rw c.u64_at.ensures (word_at _ _ _ (λ i. (c.type_inv.register i).fits))
