-- The verdict on a question in one form for all kinds: with sets that answer it, or alone where none do.
use Prim.Native.Nat.{◌+◌, ◌*◌}
use mathlib.Core.Bool.{true, false}
use Rattle.wire.specs.Limits.{verdict_bytes, shown_bytes}
use Rattle.meaning.specs.Sheet.{Sheet}
use Rattle.meaning.specs.Place.{Question, all_say, some_place}
use Rattle.sizes.specs.Witness.{HasWitness, ShownWitness}
use Rattle.replies.specs.Reply.{Call, OnceRoom}
use Rattle.replies.specs.Shown.{SetsIn, VerdictIn}
use Rattle.claims.specs.Decided.{verdict_on}
use Rattle.claim_reply.specs.ClaimReply.{VerdictFor}

pub record Answering (s : Sheet) (q : Question) (c : Call) : Type 0 where
  pub shown : HasWitness s q → OnceRoom (verdict_bytes + shown_bytes * s.size) c (SetsIn s (verdict_on q true) (λ A. ShownWitness q A))
  pub alone : (HasWitness s q → ⊥) → OnceRoom verdict_bytes c (VerdictIn (verdict_on q false))

-- it is what the contract says of each kind
pub answering_verdict : {s : Sheet} {c : Call} (q : Question) → Answering s q c → VerdictFor s q c
answering_verdict (all_say k) w = record { holds = w.alone; denied = w.shown }
answering_verdict (some_place l r) w = record { holds = w.shown; denied = w.alone }

pub verdict_answering : {s : Sheet} {c : Call} (q : Question) → VerdictFor s q c → Answering s q c
verdict_answering (all_say k) w = record { shown = w.denied; alone = w.holds }
verdict_answering (some_place l r) w = record { shown = w.holds; alone = w.denied }
