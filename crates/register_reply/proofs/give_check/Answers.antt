-- `give_check` meets its contract: the register's refusal, or the answer of its check.
use mathlib.Core.Path.{ap, ◌∙◌}
use Rattle.std.specs.Prelude.{Ok, Some, None}
use Rattle.tables.proofs.SheetInLaws.{size_in}
use Rattle.replies.proofs.ReplyLaws.{turned}
use Rattle.register_reply.proofs.RegisterLaws.{rows_under, rows_refused, rows_answered}
use Rattle.register_reply.proofs.give_check.Goals as goal

pub returns-in_err-broken : goal.returns-in_err-broken
returns-in_err-broken c =
    rows_refused (rows_under _ _ (size_in _ _) c.check_register.ensures.checked) _ c.in_err-broken.was (turned _ _ c.from_residual.ensures.1)

pub returns-in-Some : goal.returns-in-Some
returns-in-Some c =
    rows_answered (rows_under _ _ (size_in _ _) c.check_register.ensures.checked) (Some c.in-Some.broken) (c.in_ok-broken.was ∙ ap Ok c.in-Some.is)
    (rw c.number.ensures at c.give_answer.ensures)

pub returns-in-None : goal.returns-in-None
returns-in-None c =
    rows_answered (rows_under _ _ (size_in _ _) c.check_register.ensures.checked) None (c.in_ok-broken.was ∙ ap Ok c.in-None.is) c.give_answer-in-None.ensures
