-- No label so far is too long.
use Rattle.wire.specs.Edition.{edition_of}
use Rattle.conversion.proofs.TowardsLaws.{Short}
use Rattle.conversion.proofs.towards.may_go.Given as goal

abbrev pub invariant-loop-j : goal.invariant-loop-j
invariant-loop-j l = Short (edition_of l.edition) l.sheet l.labels l.j
