use Rattle.std.proofs.Common.{sym, refl, ◌∙◌, arith}
use Rattle.labels.specs.LabelHash.{label_hash}
use Rattle.labels.proofs.Hashes.{hash_more, hash_end}
use Rattle.labels.proofs.used.label_hash.Goals as goal

pub loop-x-init : goal.loop-x-init
unfolding label_hash
loop-x-init c = (omega arith, refl)

pub loop-x-preserved : goal.loop-x-preserved
loop-x-preserved c = (omega arith, sym (hash_more _ _ _ c.loop-x-test.true) ∙ c.loop-x.invariant.1)

pub returns : goal.returns
returns c = (sym (hash_end _ _ _ c.loop-x-test.false) ∙ c.loop-x.invariant.1, omega arith)
