-- Records of one sort that stand in the bytes of a sheet, at the offsets of a table.
use Rattle.std.specs.Prelude.{ℕ, List, get_or, drop}
use Rattle.laws.specs.Tabulate.{tabulate}

-- the first n records of one sort, which stand at these offsets of the bytes s
unfoldable pub records_in : {A : Type 0} → (List ℕ → A) → List ℕ → List ℕ → ℕ → List A
records_in value s offsets n = tabulate (λ i. value (drop (get_or offsets i 0) s)) n
