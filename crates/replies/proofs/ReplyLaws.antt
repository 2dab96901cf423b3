-- The frame of a call, put together: a refusal and a reply, and a reading that is the one or the other.
use Prim.Native.Nat.{ℕ, ◌≤◌, ◌<◌}
use mathlib.Core.Path.{◌≡◌, refl, subst}
use mathlib.Core.List.{List}
use native.Mathlib.Omega.{arith}
use lib.ListN.{length, drop}
use lib.Seq.{sets, take-append_seam}
use Rattle.std.specs.Prelude.{Result, Err}
use Rattle.std.specs.Result.{IsErrAnd}
use Rattle.std.proofs.lemmas.Result.{err_from_is_err_and}
use Rattle.laws.proofs.SetsLaws.{sets_front}
use Rattle.wire.specs.declared.refusals.Fault.{Fault}
use Rattle.wire.specs.declared.refusals.Refusal.TheVariants.{ReplyShort}
use Rattle.wire.specs.Record.{Reading, read, refused}
use Rattle.wire.specs.Refusals.{refusal_number}
use Rattle.meaning.specs.Sheet.{Sheet}
use Rattle.meaning.specs.Fits.{Possible}
use Rattle.replies.specs.Returned.{returned}
use Rattle.replies.specs.Reply.{Call, call, packed, Refused, Replied, OnceRead, OncePossible, OnceRoom, OnceBytes}
use Rattle.replies.specs.Wrote.{Wrote}
use Rattle.replies.proofs.WroteLaws.{rest_kept, wrote_sets}

-- a reading is one of the two, and of one value
pub read_once : {A : Type 0} {x : Reading A} {d e : A} → x ≡ read d → x ≡ read e → d ≡ e
read_once p q = cc

pub read_not_refused : {A : Type 0} {x : Reading A} {d : A} {n k : ℕ} → x ≡ read d → x ≡ refused n k → ⊥
read_not_refused p q = let z : ◌≡◌ {A = ℕ} 0 1 = cc in omega arith

-- what is said of the one value is said of each
pub as_read : {A : Type 0} {x : Reading A} {d : A} (P : A → Type 0) → x ≡ read d → P d → (e : A) → x ≡ read e → P e
as_read P p w e q = subst P (read_once p q) w

-- a refused reading has one number, and one record's number
pub turned_back : {A : Type 0} {x : Reading A} {n k : ℕ} {c : Call} → x ≡ refused n k → Refused n k c → (m j : ℕ) → x ≡ refused m j
    → Refused m j c
turned_back {n = n} {k = k} p w m j q =
    let a : n ≡ m = cc in
    let b : k ≡ j = cc in
    rw (← a, ← b) w

-- a call whose reading is turned back, and one whose reading passes
pub once_turned : {A : Type 0} {x : Reading A} {P : A → Type 0} {n k : ℕ} {c : Call} → x ≡ refused n k → Refused n k c → OnceRead x c P
once_turned e w = record { turned = turned_back e w; passed = λ d f. absurd (read_not_refused f e) }

pub once_passed : {A : Type 0} {x : Reading A} {d : A} {c : Call} (P : A → Type 0) → x ≡ read d → P d → OnceRead x c P
once_passed P e w = record { turned = λ n k f. absurd (read_not_refused e f); passed = as_read P e w }

-- a call under a sheet that no sets fit, and under one that some fit
pub once_none_fit : {s : Sheet} {c : Call} {P : Type 0} → (Possible s → ⊥) → Refused 8 0 c → OncePossible s c P
once_none_fit n w = record { impossible = λ i. w; possible = λ p. absurd (n p) }

pub once_some_fit : {s : Sheet} {c : Call} {P : Type 0} → Possible s → P → OncePossible s c P
once_some_fit p w = record { impossible = λ i. absurd (i p); possible = λ q. w }

-- a call that returns a fault, and one that returns that of a call that it made
pub stopped : {l : List ℕ} (f e : Fault) → f ≡ e → Refused (refusal_number e.refusal) e.place (call l (returned (Err f)) l)
stopped f e q = rw q (record { returned = refl; unchanged = refl })

pub turned : {l : List ℕ} (r : Result ℕ Fault) (e : Fault) → IsErrAnd r (λ y. y ≡ e)
    → Refused (refusal_number e.refusal) e.place (call l (returned r) l)
turned r e h = let p = err_from_is_err_and r h in rw p.1 (stopped p.0 e p.2)

pub too_short : {l : List ℕ} (r : Result ℕ Fault) (e : Fault) → IsErrAnd r (λ y. y ≡ e) → e ≡ record { refusal = ReplyShort; place = 0 }
    → Refused 14 0 (call l (returned r) l)
too_short {l} r e h q = rw q at (turned {l = l} r e h)

-- a call with a buffer too short for the reply, and with room for it
pub once_short : {n : ℕ} {c : Call} {P : List ℕ → Type 0} → length c.before < n → Refused 14 0 c → OnceRoom n c P
once_short h w = record { short = λ l. w; replied = λ l. absurd (omega arith) }

pub once_replied : {n : ℕ} {c : Call} {P : List ℕ → Type 0} → n ≤ length c.before → Replied n c → P c.after → OnceRoom n c P
once_replied h w p = record { short = λ l. absurd (omega arith); replied = λ l. (w, p) }

-- its length by another name, and more said of its records
pub room_said : {n m : ℕ} {c : Call} {P Q : List ℕ → Type 0} → n ≡ m → ((out : List ℕ) → P out → Q out) → OnceRoom n c P → OnceRoom m c Q
room_said e more w = record {
  short = λ l. w.short (omega arith);
  replied = λ l. let z = w.replied (omega arith) in (rw (← e) z.0, more _ z.1);
}

-- one write from the front on
pub written : {l m : List ℕ} {r n : ℕ} → Wrote l 0 n m → r ≡ packed 0 n → Replied n (call l r m)
written {n = n} w p = record { returned = p; sized = w.sized; rest = rest_kept w n (omega arith) }

-- a reply that one write from the front on leaves
pub once_written : {l m : List ℕ} {n : ℕ} (P : List ℕ → Type 0) → n ≤ length l → Wrote l 0 n m → P m → OnceRoom n (call l (packed 0 n) m) P
once_written P h w p = once_replied h (written w refl) p

-- a reply that is these bytes, stored from the front on
pub once_stored : (bytes : List ℕ) {before after : List ℕ} {r : ℕ} → length bytes ≤ length before → after ≡ sets before 0 bytes
    → r ≡ packed 0 (length bytes) → OnceBytes bytes (call before r after)
once_stored bytes {before} h e p =
    once_replied h (written (rw e (wrote_sets bytes before 0)) p)
    (rw (e, sets_front bytes before h) (take-append_seam bytes (drop (length bytes) before)))
