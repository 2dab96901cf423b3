-- The check of a register, put together: from the check's answer to the record in the buffer.
use Prim.Native.Nat.{ℕ}
use mathlib.Core.Path.{◌≡◌, refl, sym, ap, subst}
use mathlib.Core.List.{List}
use Rattle.std.specs.Prelude.{Result, Ok, Err, Option}
use Rattle.wire.specs.declared.refusals.Fault.{Fault}
use Rattle.wire.specs.Refusals.{refusal_number}
use Rattle.wire.specs.Limits.{answer_bytes}
use Rattle.wire.specs.Record.{Reading, read, refused}
use Rattle.wire.specs.Edition.{Edition}
use Rattle.wire.specs.RegisterFormat.{Row, read_register}
use Rattle.meaning.specs.Sheet.{Sheet}
use Rattle.registers.specs.Checked.{broken_names, check_gives, Checked}
use Rattle.registers.specs.declared.check.Broken.{Broken}
use Rattle.replies.specs.Written.{AnswerAt}
use Rattle.replies.specs.Reply.{Call, Refused, OnceRead, OnceRoom}
use Rattle.replies.proofs.ReplyLaws.{read_once, read_not_refused, turned_back, room_said}
use Rattle.register_reply.specs.RegisterReply.{AnswerIn}

-- the number of groups by the sheet and by its table
pub rows_under : {s : Sheet} (ed : Edition) (b : List ℕ) {n m : ℕ} {r : Result (Option Broken) Fault} → m ≡ n → Checked s (read_register ed n b) r
    → Checked s (read_register ed m b) r
rows_under {s} ed b {r = r} e w = subst (λ k. Checked s (read_register ed k b) r) (sym e) w

-- the check's answer r on the rows x: a refusal, which is that of the rows, or a group and a rule, which are the answer
module _ {s : Sheet} {x : Reading (List Row)} {r : Result (Option Broken) Fault} (w : Checked s x r) {y : Call} where
  pub rows_refused : (f : Fault) {P : List Row → Type 0} → r ≡ Err f → Refused (refusal_number f.refusal) f.place y → OnceRead x y P
  rows_refused f q v =
      let gives : check_gives r ≡ refused (refusal_number f.refusal) f.place = ap check_gives q in
      record {
        turned = λ n k d. turned_back gives v n k (w.refusal n k d);
        passed = λ rows d. absurd (read_not_refused (w.answer rows d).gives gives);
      }

  pub rows_answered : (c : Option Broken) → r ≡ Ok c → OnceRoom answer_bytes y (λ out. AnswerAt out (broken_names c).group (broken_names c).rule)
      → OnceRead x y (λ rows. OnceRoom answer_bytes y (AnswerIn s rows))
  rows_answered c q o =
      let gives : check_gives r ≡ read (broken_names c) = ap check_gives q in
      record {
        turned = λ n k d. absurd (read_not_refused gives (w.refusal n k d));
        passed = λ rows d.
            let v = w.answer rows d in
            let same = read_once v.gives gives in
            room_said refl (λ out z. record { sized = z.sized; kind = z.kind; answer = rw (z.group, z.rule) (rw same at v.answered) }) o;
      }
