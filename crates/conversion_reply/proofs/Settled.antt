-- The contracts of the conversions settle every exit (document 01, "We agree on this"; document 02, card 6): two exits that meet one for the
-- same edition, sheet, register and buffer at entry are the same, the number returned and every byte.
use Prim.Native.Nat.{ℕ}
use mathlib.Core.Path.{◌≡◌}
use mathlib.Core.List.{List}
use lib.ListN.{length}
use Rattle.wire.specs.Edition.{Edition}
use Rattle.wire.specs.SheetFormat.{read_sheet}
use Rattle.wire.specs.RegisterFormat.{read_register}
use Rattle.wire.specs.Conversion.{towards}
use Rattle.replies.specs.Reply.{call}
use Rattle.replies.proofs.Exits.{once_read, once_bytes}
use Rattle.conversion_reply.specs.ConversionReply.{SheetConversion, RegisterConversion}

module _ (e : Edition) (sheet : List ℕ) {before after after' : List ℕ} {r r' : ℕ} where
  pub sheet_conversion_settled : SheetConversion e sheet (call before r after) → SheetConversion e sheet (call before r' after')
      → (r ≡ r') × (after ≡ after')
  sheet_conversion_settled v w =
      once_read (λ z. z) (read_sheet sheet) v w
      (λ d x v w. once_read (λ z. z) (towards e d) v w (λ d' y v w. once_bytes v w))

  pub register_conversion_settled : (register : List ℕ) → RegisterConversion e sheet register (call before r after)
      → RegisterConversion e sheet register (call before r' after') → (r ≡ r') × (after ≡ after')
  register_conversion_settled register v w =
      once_read (λ z. z) (read_sheet sheet) v w
      (λ d x v w. once_read (λ z. z) (towards e d) v w
      (λ d' y v w. once_read (λ z. z) (read_register d.edition (length d.groups) register) v w
      (λ rows u v w. once_bytes v w)))
