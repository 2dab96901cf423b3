-- Laws of records at the offsets of a table: how many there are, and which comes at a place.
use Prim.Native.Nat.{ℕ, ◌<◌}
use mathlib.Core.Path.{◌≡◌}
use mathlib.Core.List.{List}
use lib.ListN.{length, get_or, drop}
use Rattle.laws.proofs.TabulateLaws.{length_tabulate, get_d_tabulate}
use Rattle.tables.specs.RecordsIn.{records_in}

module _ {A : Type 0} (value : List ℕ → A) (s offsets : List ℕ) (n : ℕ) where
  pub length_records_in : length (records_in value s offsets n) ≡ n
  unfolding records_in
  length_records_in = length_tabulate (λ i. value (drop (get_or offsets i 0) s)) n

  pub get_d_records_in : (i : ℕ) (d : A) → i < n → get_or (records_in value s offsets n) i d ≡ value (drop (get_or offsets i 0) s)
  unfolding records_in
  get_d_records_in i d l = get_d_tabulate (λ i. value (drop (get_or offsets i 0) s)) n i d l
