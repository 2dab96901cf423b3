-- The frame of the contracts settles every refusal: two exits of one call that both meet a part of it are the same where it
-- refuses, and otherwise both meet what comes next.
use Prim.Native.Nat.{ℕ, ◌+◌}
use mathlib.Core.Path.{◌≡◌, refl, sym, ◌∙◌}
use mathlib.Core.List.{List}
use mathlib.Core.Logic.{◌⊎◌, inl, inr}
use lib.ListN.{length}
use Rattle.replies.specs.declared.verdict.Verdict.{Verdict}
use Rattle.laws.proofs.Cases.{compare_le}
use Rattle.wire.specs.Limits.{verdict_bytes}
use Rattle.wire.specs.Record.{Reading, read, refused}
use Rattle.wire.specs.Encoding.{Bytes}
use Rattle.meaning.specs.Sheet.{Sheet}
use Rattle.meaning.specs.Sets.{Sets}
use Rattle.meaning.specs.Fits.{Possible}
use Rattle.replies.specs.Reply.{call, Refused, Replied, OnceRead, OncePossible, OnceRoom, OnceBytes}
use Rattle.replies.specs.Shown.{VerdictIn, shown_at, SetsIn}
use Rattle.replies.specs.Alike.{Alike, shown_reply_bytes, SameButSets}
use Rattle.replies.proofs.Alike.{alike_all, alike_taken, alike_then, u16_alike}

-- E is what is claimed of the two exits, and holds where they are the same.
module _ {before after after' : List ℕ} {r r' : ℕ} {E : Type 0} (same : (r ≡ r') × (after ≡ after') → E) where
  pub refused_alike : {n k : ℕ} → Refused n k (call before r after) → Refused n k (call before r' after') → E
  refused_alike v w = same (v.returned ∙ sym w.returned, v.unchanged ∙ sym w.unchanged)

  pub once_read : {A : Type 0} (x : Reading A) {P Q : A → Type 0} → OnceRead x (call before r after) P → OnceRead x (call before r' after') Q
      → ((d : A) → x ≡ read d → P d → Q d → E) → E
  once_read (read d) v w on = on d refl (v.passed d refl) (w.passed d refl)
  once_read (refused n k) v w on = refused_alike (v.turned n k refl) (w.turned n k refl)

  pub once_possible : {s : Sheet} {P Q : Type 0} → Possible s ⊎ (Possible s → ⊥) → OncePossible s (call before r after) P
      → OncePossible s (call before r' after') Q → (Possible s → P → Q → E) → E
  once_possible (inl p) v w on = on p (v.possible p) (w.possible p)
  once_possible (inr n) v w on = refused_alike (v.impossible n) (w.impossible n)

  pub once_room : {n : ℕ} {P : List ℕ → Type 0} → OnceRoom n (call before r after) P → OnceRoom n (call before r' after') P
      → (Replied n (call before r after) → Replied n (call before r' after') → P after → P after' → E) → E
  once_room {n} v w on =
      compare_le n (length before)
      (λ h. let a = v.replied h in let b = w.replied h in on a.0 b.0 a.1 b.1)
      (λ h. refused_alike (v.short h) (w.short h))

-- two replies with the same n bytes
pub replied_alike : {before after after' : List ℕ} {r r' n : ℕ} → Replied n (call before r after) → Replied n (call before r' after')
    → Alike after after' 0 n → (r ≡ r') × (after ≡ after')
replied_alike v w a =
    (v.returned ∙ sym w.returned, alike_all (v.sized ∙ sym w.sized) a (v.rest ∙ sym w.rest))

-- Replies that are certain bytes: two exits that meet it are the same, the number returned and every byte.
pub once_bytes : {bytes before after after' : List ℕ} {r r' : ℕ} → OnceBytes bytes (call before r after) → OnceBytes bytes (call before r' after')
    → (r ≡ r') × (after ≡ after')
once_bytes v w = once_room (λ z. z) v w (λ a b m n. replied_alike a b (alike_taken (m ∙ sym n)))

-- Claims.
pub verdict_alike : {o : Verdict} {out out' : List ℕ} → Bytes out → Bytes out' → VerdictIn o out → VerdictIn o out'
    → Alike out out' 0 verdict_bytes
verdict_alike x y v w =
    alike_then (alike_then
    (u16_alike x y 0 v.sized w.sized)
    (u16_alike x y 2 v.kind w.kind))
    (u16_alike x y 4 v.verdict w.verdict)

pub sets_alike : {s : Sheet} {o : Verdict} {P : Sets ℕ → Type 0} {before after after' : List ℕ} {r r' : ℕ} → Bytes after → Bytes after'
    → Replied (shown_reply_bytes s.size) (call before r after) → Replied (shown_reply_bytes s.size) (call before r' after')
    → SetsIn s o P after → SetsIn s o P after' → SameButSets s after after'
sets_alike x y a b v w = record {
  sized = a.sized ∙ sym b.sized;
  verdict = verdict_alike x y v.verdict w.verdict;
  frames = λ g q.
      let m = v.records g q in
      let n = w.records g q in
      alike_then (u16_alike x y (shown_at g) m.sized n.sized) (u16_alike x y (shown_at g + 2) m.kind n.kind);
  rest = a.rest ∙ sym b.rest;
}
