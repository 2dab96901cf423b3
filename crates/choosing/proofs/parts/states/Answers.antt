-- `states` meets its contract.
use mathlib.Core.Path.{◌≡◌, refl, sym}
use mathlib.Core.Bool.{true, false, false≢true}
use borrow.Author.Rules.{rules}
use Rattle.laws.proofs.Cases.{split}
use Rattle.choosing.specs.Parts.{rest_state, son_state}
use Rattle.choosing.proofs.PartsLaws.{first_states}
use Rattle.choosing.proofs.parts.states.Goals as goal

pub returns-then-not-c-clause-first : goal.returns-then-not-c-clause-first
unfolding rest_state son_state
returns-then-not-c-clause-first c = λ first second i j. rw c.if-not-c.true (refl, refl)

pub returns-in-Lap : goal.returns-in-Lap
returns-in-Lap c = record {
  joined = search rules;
  first = λ first second i j.
      let p = first_states c.args.kind c.in-Lap.is true second in
      rw (c.if-not-c.false, i.1 (c.join_has.ensures.0 c.if-join_has.true)) (sym p.0, sym p.1);
}

pub returns-in-Lap-2 : goal.returns-in-Lap-2
returns-in-Lap-2 c = record {
  joined = search rules;
  first = λ first second i j.
      let x : first ≡ false = split first (λ t. absurd (false≢true (c.if-join_has.ensures.1 (i.0 t)))) (λ f. f) in
      let p = first_states c.args.kind c.in-Lap-2.is false true in
      rw (c.if-not-c.false, x, j.1 (c.if-join_has-2.ensures.0 refl)) (sym p.0, sym p.1);
}

pub returns-in_default : goal.returns-in_default
returns-in_default c = record {
  joined = search rules;
  first = λ first second i j.
      let x : first ≡ false = split first (λ t. absurd (false≢true (c.if-join_has.ensures.1 (i.0 t)))) (λ f. f) in
      let y : second ≡ false = split second (λ t. absurd (false≢true (c.if-join_has-2.ensures.1 (j.0 t)))) (λ f. f) in
      let p = first_states c.args.kind c.in-Lap.is false false in
      rw (c.if-not-c.false, x, y) (sym p.0, sym p.1);
}

pub returns-in_default-2-clause-first : goal.returns-in_default-2-clause-first
unfolding rest_state son_state
returns-in_default-2-clause-first c = λ first second i j. rw (c.if-not-c.false, c.in_default.is) (refl, refl)
