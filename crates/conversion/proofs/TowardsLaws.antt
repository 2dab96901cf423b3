-- The way of a sheet's records to an edition, by what its tables say: too many groups, a first long label, or neither.
use Prim.Native.Nat.{ℕ, ◌+◌, ◌<◌, ◌≤◌}
use mathlib.Core.Path.{◌≡◌, ◌∙◌, sym}
use mathlib.Core.List.{List, []}
use native.Mathlib.Omega.{arith}
use lib.ListN.{length, get_or, drop}
use Rattle.wire.specs.Edition.{Edition, group_limit, label_limit}
use Rattle.wire.specs.Record.{read, refused}
use Rattle.wire.specs.SheetFormat.{HeadRecord, NameRecord, Records, name_of}
use Rattle.wire.specs.Conversion.{towards, in_edition}
use Rattle.wire.proofs.ConversionLaws.{names_short, names_long, towards_many, towards_few}
use Rattle.tables.proofs.RecordsInLaws.{length_records_in, get_d_records_in}
use Rattle.conversion.specs.TowardsIn.{RecordsAt}

-- none of the first n names has a label above what edition e has
abbrev pub Short : Edition → List ℕ → List ℕ → ℕ → Type 0
Short e s labels n = (j : ℕ) → j < n → length (name_of (drop (get_or labels j 0) s)).label ≤ label_limit e

-- a name that the records do not have
abbrev no_name : NameRecord
no_name = record { group = 0; label = [] }

module _ (e : Edition) {h : HeadRecord} {s labels : List ℕ} {d : Records} (at : RecordsAt h s labels d) where
  -- the label of name i + 1
  label_at : (i : ℕ) → i < h.names → length (get_or d.names i no_name).label ≡ length (name_of (drop (get_or labels i 0) s)).label
  label_at i l = rw (at.names, get_d_records_in name_of s labels h.names i no_name l)

  count : length d.names ≡ h.names
  count = rw at.names (length_records_in name_of s labels h.names)

  pub many_groups : group_limit e < h.groups → refused 16 0 ≡ towards e d
  many_groups l = sym (towards_many e d (omega (arith, at.groups)))

  pub long_label : h.groups ≤ group_limit e → (i : ℕ) → i < h.names → Short e s labels i
      → label_limit e < length (name_of (drop (get_or labels i 0) s)).label → refused 17 (2 + h.groups + i) ≡ towards e d
  long_label l i k short long =
      rw (← at.groups)
      (sym (towards_few e d (omega (arith, at.groups))
      ∙ names_long e _ d.names no_name (read (in_edition e d)) i (omega (arith, count))
      (λ j q. omega (arith, label_at j (omega arith), short j q)) (omega (arith, label_at i k))))

  pub allowed : h.groups ≤ group_limit e → Short e s labels h.names → read (in_edition e d) ≡ towards e d
  allowed l short =
      sym (towards_few e d (omega (arith, at.groups))
      ∙ names_short e _ d.names no_name (read (in_edition e d))
      (λ j q. let k : j < h.names = omega (arith, count) in omega (arith, label_at j k, short j k)))
