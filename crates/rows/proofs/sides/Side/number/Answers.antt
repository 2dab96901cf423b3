-- `rows::sides::Side::number` meets its contract.
use Prim.Native.Nat.{◌+◌}
use mathlib.Core.Path.{◌≡◌, refl}
use denote.Enum.Declared.{tag_of}
use Rattle.wire.specs.Member.{side_number}
use Rattle.rows.specs.Sides.{side_meant}
use Rattle.rows.specs.contracts.sides.Side.{the_type}
use Rattle.rows.specs.declared.sides.Side.TheVariants as side
use Rattle.rows.proofs.sides.Side.number.Goals as goal

pub returns : goal.returns
unfolding side_number
returns c = elim c.args.self as (λ s. tag_of the_type s + 1 ≡ side_number (side_meant s)) [ side.Left ↦ refl | side.Right ↦ refl ]
