-- The contract of `sheet_claim` settles every exit: of two exits of one call that both meet it, the numbers returned are equal and so is every
-- byte, but for the sets that are shown with a verdict (document 01, "We agree on this"; document 02, card 1).
use Prim.Native.Nat.{ℕ}
use mathlib.Core.Path.{◌≡◌, sym, ◌∙◌}
use mathlib.Core.List.{List}
use mathlib.Core.Logic.{inl, inr, ◌⊎◌, ⊎_elim}
use native.Mathlib.Omega.{arith}
use Rattle.laws.proofs.Cases.{compare_le}
use Rattle.wire.specs.SheetFormat.{read_sheet}
use Rattle.wire.specs.Encoding.{Bytes}
use Rattle.meaning.specs.OfRecords.{claim_at}
use Rattle.sizes.proofs.Readable.{readable_possible_or_not, readable_witness_or_not}
use Rattle.replies.specs.Reply.{call}
use Rattle.replies.proofs.Exits.{refused_alike, once_read, once_possible, once_room, replied_alike, verdict_alike, sets_alike}
use Rattle.claim_reply.specs.ClaimReply.{OnceNumbered, ClaimCall}
use Rattle.claim_reply.specs.Settled.{SettledButSets}
use Rattle.claim_reply.proofs.Answering.{verdict_answering}

-- 9: two exits that meet it
module _ {before after after' : List ℕ} {r r' : ℕ} {E : Type 0} (same : (r ≡ r') × (after ≡ after') → E) where
  pub once_numbered : {k n : ℕ} {P Q : Type 0} → OnceNumbered k n (call before r after) P → OnceNumbered k n (call before r' after') Q
      → (P → Q → E) → E
  once_numbered {k} {n} v w on =
      compare_le 1 k
      (λ a. compare_le k n
      (λ b. on (v.numbered a b) (w.numbered a b))
      (λ b. refused_alike same (v.unnumbered (inr b)) (w.unnumbered (inr b))))
      (λ a. let z : k ≡ 0 = omega arith in refused_alike same (v.unnumbered (inl z)) (w.unnumbered (inl z)))

-- Two exits of `sheet_claim` that meet its contract for the same sheet, claim number and buffer at entry return the same number,
-- and every byte is the same, unless sets are shown (kinds 4 to 6 denied, kind 7 holding): then every byte but those of the sets.
pub claim_settled : (sheet : List ℕ) (k : ℕ) {before after after' : List ℕ} {r r' : ℕ} → ClaimCall sheet k (call before r after)
    → ClaimCall sheet k (call before r' after') → Bytes after → Bytes after'
    → (r ≡ r') × ((after ≡ after') ⊎ SettledButSets sheet k r after after')
claim_settled sheet k {after} {after'} {r} {r'} v w x y =
    let same : (r ≡ r') × (after ≡ after') → (r ≡ r') × ((after ≡ after') ⊎ SettledButSets sheet k r after after') = λ z. (z.0, inl z.1) in
    once_read same (read_sheet sheet) v w
    (λ d e v w. once_possible same (readable_possible_or_not sheet d e) v w
    (λ p v w. once_numbered same v w
    (λ v w. let v' = verdict_answering (claim_at d k) v in
    let w' = verdict_answering (claim_at d k) w in
    ⊎_elim
    (λ c. once_room same (v'.shown c) (w'.shown c)
    (λ a b m n. (
      a.returned ∙ sym b.returned,
      inr (record { records = d; readable = e; witness = c; returned = a.returned; same = sets_alike x y a b m n }),
    )))
    (λ c. once_room same (v'.alone c) (w'.alone c) (λ a b m n. same (replied_alike a b (verdict_alike x y m n))))
    (readable_witness_or_not sheet d e k))))
