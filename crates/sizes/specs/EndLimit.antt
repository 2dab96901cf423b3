-- The greatest finite end that a range can have: document 01, "Ranges"; document 02, card 5.
use Rattle.std.specs.Prelude.{ℕ, ◌-◌, ◌*◌}
use Rattle.wire.specs.Limits.{bound_limit}
use Rattle.wire.specs.Edition.{Edition, group_limit}

-- "No finite end exceeds 127 × 65,534 = 8,322,818." (document 01, "Ranges"); "A finite end is at most 255 × 65,534 = 16,711,170."
-- (document 02, card 5)
abbrev pub end_limit : Edition → ℕ
end_limit e = (group_limit e - 1) * bound_limit
