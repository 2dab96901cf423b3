-- The bytes that are left, after those with the hash so far, have the label's hash.
use Rattle.std.proofs.Common.{◌≡◌, ◌<◌, drop}
use Rattle.labels.specs.LabelHash.{label_hashes, hash_from, label_hash}
use Rattle.labels.proofs.used.label_hash.Given as goal

abbrev pub invariant-loop-x : goal.invariant-loop-x
invariant-loop-x l = (l.hash < label_hashes) × (hash_from l.hash (drop l.x-index l.label) ≡ label_hash l.label)
