-- The modes of a group, as the code tests them: document 01, "Mode is a sum of 1 (disjoint), 2 (cover), 4 (same)".
use Rattle.std.specs.Prelude.{ℕ, ◌%◌, ◌/◌, Bool, eqb}

abbrev pub disjoint_mode : ℕ → Bool
disjoint_mode m = eqb (m % 2) 1

abbrev pub cover_mode : ℕ → Bool
cover_mode m = eqb (m / 2 % 2) 1

abbrev pub same_mode : ℕ → Bool
same_mode m = eqb (m / 4 % 2) 1
