-- A binary digit of a number: what a membership bit and a mode are made of (document 01, "Records of a sheet", "Registers").
use Rattle.std.specs.Prelude.{ℕ, ◌/◌, ◌%◌, ◌^◌}

-- digit k of w, the lowest being digit 0
unfoldable pub digit : ℕ → ℕ → ℕ
digit w k = w / 2 ^ k % 2
