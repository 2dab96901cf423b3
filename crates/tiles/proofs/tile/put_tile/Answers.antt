-- `tiles::tile::put_tile` meets its contract.
use mathlib.Core.Path.{◌∙◌, refl}
use borrow.Author.Rules.{rules}
use native.Mathlib.Omega.{arith}
use lib.ListN.{get_or-append}
use Rattle.std.proofs.lemmas.List.{length-take-le}
use Rattle.wire.specs.Capacity.{group_capacity}
use Rattle.tiles.proofs.tile.put_tile.Goals as goal

pub returns : goal.returns
returns c =
    let fill = c.fill.ensures in
    let many = length-take-le group_capacity c.args.tile.now c.requires.0 in (
      search rules,
      record {
        each = λ w l.
            get_or-append c.fill.new.self _ 0 w (omega (arith, fill.len, many))
            ∙ fill.clones w 0 (omega (arith, many)) refl;
      },
    )
