-- `rows::sides::Side::from_number` meets its contract.
use mathlib.Core.Path.{◌≡◌, refl}
use native.Mathlib.Omega.{arith}
use borrow.Author.Tests.{ne_eqb}
use Rattle.wire.specs.Member.{is_side, side_of, side_number}
use Rattle.rows.proofs.sides.Side.from_number.Goals as goal

pub returns-in-1 : goal.returns-in-1
unfolding is_side side_of side_number
returns-in-1 c = let one : c.args.number ≡ 1 = omega arith in rw one (refl, refl)

pub returns-in-2 : goal.returns-in-2
unfolding is_side side_of side_number
returns-in-2 c = let two : c.args.number ≡ 2 = omega arith in rw two (refl, refl)

pub returns-in_default : goal.returns-in_default
unfolding is_side side_number
returns-in_default c = rw (ne_eqb c.args.number 1 (omega arith), ne_eqb c.args.number 2 (omega arith)) refl
