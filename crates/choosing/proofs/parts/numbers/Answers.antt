-- `numbers` meets its contract.
use mathlib.Core.Path.{refl, sym, ◌∙◌}
use native.Mathlib.Omega.{arith}
use Rattle.sizes.specs.Span.{lap, add, eq}
use Rattle.choosing.specs.Parts.{rest_by}
use Rattle.choosing.proofs.PartsLaws.{in_none, in_add, numbers_right, son_lap, rest_lap, son_add, rest_add, son_eq, rest_eq}
use Rattle.choosing.proofs.parts.numbers.Goals as goal

pub overflow_sub-result : goal.overflow_sub-result
overflow_sub-result c =
    let p = rw c.in-Add.is at c.requires in
    let w = in_none add _ _ _ _ _ p in
    let v = (in_add {r = c.args.r} w.0 w.1 (omega arith)).1 p in
    omega arith

pub returns-in-Lap : goal.returns-in-Lap
unfolding rest_by
returns-in-Lap c =
    let p = rw c.in-Lap.is at c.requires in
    let w = in_none lap _ _ _ _ _ p in
    let son = c.min-in-Lap.ensures ∙ sym (son_lap w.0 w.1 (omega arith)) in
    rw c.in-Lap.is record {
      divided = numbers_right lap _ _ _ _ _ _ _ (omega arith) (omega arith) p (c.min.ensures ∙ sym (rest_lap w.0 w.1 (omega arith))) son;
      taken = (son, c.min.ensures);
    }

pub returns-in-Add : goal.returns-in-Add
unfolding rest_by
returns-in-Add c =
    let p = rw c.in-Add.is at c.requires in
    let w = in_none add _ _ _ _ _ p in
    rw (c.in-Add.is, c.max-y.ensures, c.saturating_sub.ensures) record {
      divided = numbers_right add _ _ _ _ _ _ _ (omega arith) (omega arith) p (sym (rest_add w.0 w.1 (omega arith)))
          (sym (son_add w.0 w.1 (omega arith)));
      taken = (sym (son_add w.0 w.1 (omega arith)), refl);
    }

pub returns-in-Eq : goal.returns-in-Eq
unfolding rest_by
returns-in-Eq c =
    let p = rw c.in-Eq.is at c.requires in
    let w = in_none eq _ _ _ _ _ p in
    let son = sym (son_eq {r = c.args.r} w.0 w.1 (omega arith)) in
    rw c.in-Eq.is record {
      divided = numbers_right eq _ _ _ _ _ _ _ (omega arith) (omega arith) p (sym (rest_eq w.0 w.1 (omega arith))) son;
      taken = (son, refl);
    }
