-- The side that the code's value stands for, and the side with a number.
use Rattle.std.specs.Prelude.{ℕ, ◌≡◌, false, true, Option, None, Some}
use Rattle.wire.specs.Member.{Side, left, right, is_side, side_of}
use Rattle.rows.specs.declared.sides.Side.TheVariants as coded
use Rattle.rows.specs.declared.sides.Side as declared

abbrev pub side_meant : declared.Side → Side
side_meant coded.Left = left
side_meant coded.Right = right

-- a number is that of no side, or that of the side s
abbrev pub SideMet : ℕ → Option declared.Side → Type 0
SideMet n None = is_side n ≡ false
SideMet n (Some s) = (is_side n ≡ true) × (side_of n ≡ side_meant s)
