-- `judge_names` meets its contract.
use Rattle.std.proofs.Common.{◌≡◌, sym, ◌∙◌, true, true≢false, arith}
use Rattle.claim_records.specs.ClaimHeld.{list_as, left_names, right_names}
use Rattle.tables.proofs.SheetInLaws.{size_in}
use Rattle.questions.proofs.GroupsLaws.{among_short, among_whole}
use Rattle.claims.specs.Named.{meanings}
use Rattle.claims.proofs.NamedLaws.{meant_length, left_named, right_named, lists_speak, meanings_listed}
use Rattle.questions.specs.Groups.{groups_among}
use Rattle.questions.specs.Ways.{is_place}
use Rattle.questions.proofs.WaysLaws.{tried_judged, empty_judged}
use Rattle.claims.proofs.decide.judge_names.Goals.{else-is_place-via-then-is_place+else-m-lists, else-is_place-via-else-is_place}
use Rattle.claims.proofs.decide.judge_names.Goals as goal

pub returns-then-m-lists : goal.returns-then-m-lists
returns-then-m-lists c =
    let a = c.args in
    let n = meant_length a.sheet.now a.lists.at a.lists.m a.names.now in
    empty_judged (list_as a.lists.kind) _ _ (sym c.is_place.ensures ∙ c.if-is_place.true)
    (among_short _ (omega (arith, n, c.groups_meant-m.ensures.value, c.if-m-lists.true)))

pub ask_lists-requires-clause-listed : goal.ask_lists-requires-clause-listed
ask_lists-requires-clause-listed c =
    let w = c.requires.1 in
    rw (c.groups_meant-m.ensures.list_after, c.groups_meant-n.ensures.list_after)
    (meanings_listed w _ (left_named w), meanings_listed w _ (right_named w))

pub returns : goal.returns
returns c =
    let a = c.args in
    let w = c.requires.1 in
    let size = size_in a.groups.now.table.now a.groups.now.size in
    let n = meant_length a.sheet.now a.lists.at a.lists.m a.names.now in
    let m = c.groups_meant-m.ensures.value in
    let whole : is_place (list_as a.lists.kind) ≡ true
    → groups_among (meanings a.names.now (left_names a.sheet.now a.lists)) ≡ meanings a.names.now (left_names a.sheet.now a.lists) =
    λ e. elim c.else-is_place.branch [
      | else-is_place-via-then-is_place+else-m-lists v ↦ among_whole _ (omega (arith, n, m, v.if-m-lists.false))
      | else-is_place-via-else-is_place v ↦ absurd (true≢false (sym e ∙ sym c.is_place.ensures ∙ v.if-is_place.false))
    ] in
    tried_judged (list_as a.lists.kind) (meanings a.names.now (left_names a.sheet.now a.lists)) (meanings a.names.now
    (right_names a.sheet.now a.lists)) whole
    (λ g k. omega (arith, size, (lists_speak w).0 g k)) (λ g k. omega (arith, size, (lists_speak w).1 g k))
    (rw (c.groups_meant-m.ensures.list_after, c.groups_meant-n.ensures.list_after) at c.ask_lists.ensures)
