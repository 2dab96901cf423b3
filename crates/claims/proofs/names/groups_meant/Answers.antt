-- `groups_meant` meets its contract.
use Rattle.std.proofs.Common.{◌-◌, ◌≤◌, get_or, None, sym, ap, subst, ◌∙◌, append-nil, arith}
use lib.ListN.{take}
use Rattle.tables.specs.Names.{meant_number, Numbered}
use Rattle.questions.specs.Groups.{numbers_of}
use Rattle.questions.proofs.GroupsLaws.{among_zero}
use Rattle.claims.proofs.NamedLaws.{meant_first, meant_next, meant_last, listed_length, list_more}
use Rattle.claims.proofs.names.groups_meant.Goals.{Joined-meant_by, in-Some, in_default}
use Rattle.claims.proofs.names.groups_meant.Goals as goal

pub loop-i-init : goal.loop-i-init
loop-i-init c = (omega arith, meant_first c.args.sheet.now c.args.from c.args.n c.args.names.now)

pub loop-i-preserved : goal.loop-i-preserved
loop-i-preserved c =
    let a = c.args in
    let l = c.loop-i in
    let m = c.meant_by.ensures ∙ ap (λ n. get_or a.names.now (n - 1) None) c.u16_at.ensures in
    let next = meant_next a.sheet.now a.from a.n l.i a.names.now (numbers_of (take l.k l.list)) in
    elim c.match-meant_by.branch [
      | in-Some w ↦
          let e = sym w.in-Some.is ∙ m in
          let some : 1 ≤ w.in-Some.g.0 = subst Numbered (sym e) (c.requires.0.numbered l.i (omega arith)) in
          let more = list_more l.list l.k w.in-Some.g (omega arith) some in
          (omega arith, next _ _ (omega arith) (rw (w.list-is, w.k-is, ← ap meant_number e) more) l.invariant.1)
      | in_default w ↦
          let e = sym w.in_default.is ∙ m in
          (omega arith, next _ _ (omega arith) (rw (w.list-is, w.k-is, ← ap meant_number e, among_zero) (sym (append-nil _))) l.invariant.1)
    ]

pub returns : goal.returns
returns c =
    let v = c.loop-i.invariant in
    let e = meant_last c.args.sheet.now c.args.from c.args.n c.loop-i.i c.args.names.now _ _ (omega arith) v.1 in record {
      upper_bound = omega arith;
      list_after = e;
      value = listed_length c.loop-i.list c.loop-i.k _ (omega arith) e;
    }
