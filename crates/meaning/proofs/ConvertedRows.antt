-- A register in the other edition lists the same sets: document 02, card 6, "with member, side and groups kept".
use Prim.Native.Nat.{ℕ, ◌≤◌}
use mathlib.Core.Path.{◌≡◌, refl, ap₂, fun_ext}
use mathlib.Core.Bool.{Bool}
use mathlib.Core.List.{List, [], ◌∷◌}
use lib.ListN.{length, get_or}
use Rattle.wire.specs.Edition.{Edition, group_limit}
use Rattle.wire.specs.Member.{Member, no_member}
use Rattle.wire.specs.RegisterFormat.{Row}
use Rattle.wire.specs.Encoding.{Each, none, more, RowRight, RowFits, RowsWithin}
use Rattle.wire.specs.Conversion.{row_in, rows_in}
use Rattle.wire.proofs.Many.{each_both}
use Rattle.wire.proofs.ConversionLaws.{groups_kept}
use Rattle.meaning.specs.OfRecords.{members, listed, listed_sets}

members_kept : (e : Edition) (rs : List Row) → members (rows_in e rs) ≡ members rs
unfolding members row_in
members_kept e [] = refl
members_kept e (r ∷ []) = refl
members_kept e (r ∷ (q ∷ rs)) = rw (members_kept e (q ∷ rs))

module _ (e : Edition) {f : Edition} {groups : ℕ} (few : groups ≤ group_limit e) where
  rows_listed : {before rs : List Row} → Each (λ us y. RowRight f groups us y × RowFits y) before rs → (g : ℕ) (x : Member)
      → listed (rows_in e rs) g x ≡ listed rs g x
  unfolding listed
  rows_listed none g x = refl
  rows_listed (more p m) g x = rw (groups_kept e few p.0 p.1 g, rows_listed m g x) (unfold row_in in refl)

  pub listed_kept : {rs : List Row} → RowsWithin f groups rs → listed_sets (rows_in e rs) ≡ listed_sets rs
  listed_kept {rs} w =
      ap₂ (λ (ms : List Member) (has : ℕ → Member → Bool). record { bound = length ms; who = λ i. get_or ms i no_member; has = has })
      (members_kept e rs)
      (fun_ext (λ g. fun_ext (λ x. rows_listed (each_both w.right w.fits) g x)))
