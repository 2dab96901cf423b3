-- Each rule's test, word by word.
use Rattle.std.proofs.Common.{arith, refl}
use borrow.Author.Tests.{ne_eqb}
use Rattle.rules.specs.RuleTests.{member_breaks}
use Rattle.rules.proofs.WordLaws.{first_word, members_in, passing_as, members_lack}
use Rattle.rules.proofs.tests.breaking.Goals as goal

pub returns-in-1 : goal.returns-in-1
unfolding member_breaks
returns-in-1 c = rw c.in-1.is (members_lack _ _ _ _ _ c.word.ensures c.word-in-1.ensures (omega arith) refl)

pub returns-in-2 : goal.returns-in-2
unfolding member_breaks
returns-in-2 c = rw c.in-2.is (members_lack _ _ _ _ _ c.word-in-2.ensures c.word-in-2-2.ensures (omega arith) refl)

pub returns-in-3 : goal.returns-in-3
unfolding member_breaks
returns-in-3 c =
    let q = c.args in
    rw c.in-3.is (members_lack _ _ _ _ _ c.word-in-3.ensures (first_word q.joined.now.some.now q.w) (omega arith) refl)

pub returns-in_default : goal.returns-in_default
unfolding member_breaks
returns-in_default c =
    let q = c.args in
    passing_as
    (λ i. rw (ne_eqb q.rule 1 (λ e. omega arith), ne_eqb q.rule 2 (λ e. omega arith), ne_eqb q.rule 3 (λ e. omega arith)))
    (members_in q.joined.now.two.now 0 q.w (first_word q.joined.now.two.now q.w))
