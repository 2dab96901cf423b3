-- One number for a member, its key, by which code and proofs compare members: each number is the key of one member, and keys are
-- ordered as the pairs are.
use Rattle.std.specs.Prelude.{ℕ, ◌+◌, ◌/◌, ◌%◌}
use Rattle.wire.specs.Member.{side_of, Member}

-- the member with a key
unfoldable pub key_member : ℕ → Member
key_member k = record { number = k / 2; side = side_of (k % 2 + 1) }
