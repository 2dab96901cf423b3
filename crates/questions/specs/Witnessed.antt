-- The answer to a question whose 'yes' is shown.
use Rattle.std.specs.Prelude.{◌≡◌, Bool, true, false}

-- true with what was found, false where there is nothing to be found
pub record Witnessed (Found Some : Type 0) (x : Bool) : Type 0 where
  pub found : x ≡ true → Found
  pub lacking : x ≡ false → Some → ⊥
