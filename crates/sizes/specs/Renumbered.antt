-- Sets over any type of member, renumbered: 'some finite sets' ranges over numbers, and this carries any others there.
use Rattle.std.specs.Prelude.{ℕ}
use Rattle.meaning.specs.Sets.{Sets, numbered}
use Rattle.meaning.specs.Fits.{groups_of}

-- every member replaced by its number in the list
abbrev pub renumbered : {X : Type 0} → Sets X → Sets ℕ
renumbered A = numbered A.bound (λ g i. groups_of A i g)
