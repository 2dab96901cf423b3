-- A member as a row names it, a recipient's number and a side: document 01, "Registers"; document 02, card 4 ("a bilateral
-- recipient is two members").
use Rattle.std.specs.Prelude.{ℕ, Bool, cond, ◌&&◌, ◌||◌, ltb, eqb}

pub data Side : Type 0 where
  left : Side
  right : Side

-- "1 left, 2 right"
unfoldable pub side_number : Side → ℕ
side_number left = 1
side_number right = 2

-- whether a side has the number n, and that side where one has it
unfoldable pub is_side : ℕ → Bool
is_side n = eqb n (side_number left) || eqb n (side_number right)

unfoldable pub side_of : ℕ → Side
side_of n = cond (eqb n (side_number left)) left right

pub record Member : Type 0 where
  pub number : ℕ
  pub side : Side

-- "Rows rise by member, then side": whether m precedes n
unfoldable pub precedes : Member → Member → Bool
precedes m n = ltb m.number n.number || eqb m.number n.number && ltb (side_number m.side) (side_number n.side)

-- "equal pairs join": whether m and n are one member
unfoldable pub one_member : Member → Member → Bool
one_member m n = eqb m.number n.number && eqb (side_number m.side) (side_number n.side)

-- What stands before the first row and past the last member: no row may name the number 0 ("1 upward").
abbrev pub no_member : Member
no_member = record { number = 0; side = left }
