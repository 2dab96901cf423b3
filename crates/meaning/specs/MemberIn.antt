-- Whether the member at a place, of those that rows list, is in a group.
use Rattle.std.specs.Prelude.{ℕ, Bool, false, cond, List, length, get_or, ltb}
use Rattle.wire.specs.Member.{no_member}
use Rattle.wire.specs.RegisterFormat.{Row}
use Rattle.meaning.specs.OfRecords.{members, listed}

-- the groups of member i, none past the last member
abbrev pub member_in : List Row → ℕ → ℕ → Bool
member_in rs i g = cond (ltb i (length (members rs))) (listed rs g (get_or (members rs) i no_member)) false
