-- `is_shut` meets its contract.
use Prim.Native.Nat.{ℕ, ◌-◌}
use lib.ListN.{get_or}
use native.Mathlib.Omega.{arith}
use mathlib.Core.Path.{◌≡◌, sym, ap, ◌∙◌}
use Rattle.laws.proofs.Cases.{split}
use Rattle.meaning.specs.Sheet.{Group}
use Rattle.tables.specs.declared.groups.Group.{Group as TableGroup}
use Rattle.tables.specs.declared.groups.Groups.{Groups}
use Rattle.tables.specs.Entry.{no_group}
use Rattle.tables.specs.Modes.{disjoint_mode, cover_mode, same_mode}
use Rattle.tables.specs.SheetIn.{sheet_in}
use Rattle.tables.proofs.SheetInLaws.{size_in, disjoint_in, cover_in, same_in}
use Rattle.sizes.proofs.RuleStepsLaws.{shut_cover}
use Rattle.measuring.proofs.DoneLaws.{last_son, shut_more, shut_one, shut_none}
use Rattle.measuring.proofs.measure.is_shut.Goals.{in_default-via-in-Some+else-is_same, in_default-via-in_default}
use Rattle.measuring.proofs.measure.is_shut.Goals as goal

pub get-requires : goal.get-requires
get-requires c = let g = c.args.reading.now.groups.now in omega (arith, size_in g.table.now g.size)

pub last-requires : goal.last-requires
last-requires c = let g = c.args.reading.now.groups.now in omega (arith, size_in g.table.now g.size, g.tabled.small)

pub before-requires : goal.before-requires
before-requires c =
    let r = c.args.reading.now in
    let g = r.groups.now in
    let k = last_son r.chained c.requires (sym c.last.ensures ∙ c.in-Some.is) in
    omega (arith, size_in g.table.now g.size, g.tabled.small, k.group.first, k.group.last)

-- the modes of the group
module _ (g : Groups) (n : ℕ) (k : Group (sheet_in g.table.now g.size) n) (x : TableGroup) (e : x ≡ get_or g.table.now (n - 1) no_group) where
  same : (sheet_in g.table.now g.size).same n ≡ same_mode x.mode.0
  same = same_in g.table.now g.size n k ∙ sym (ap (λ y. same_mode y.mode.0) e)

  disjoint : (sheet_in g.table.now g.size).disjoint n ≡ disjoint_mode x.mode.0
  disjoint = disjoint_in g.table.now g.size n k ∙ sym (ap (λ y. disjoint_mode y.mode.0) e)

  cover : (sheet_in g.table.now g.size).cover n ≡ cover_mode x.mode.0
  cover = cover_in g.table.now g.size n k ∙ sym (ap (λ y. cover_mode y.mode.0) e)

pub returns-then-is_some : goal.returns-then-is_some
returns-then-is_some c =
    let r = c.args.reading.now in
    let g = r.groups.now in
    let k = c.requires in
    let e = c.get.ensures in
    c.is_disjoint.ensures
    ∙ sym
    (shut_more r.chained k (same g _ k _ e ∙ sym c.is_same.ensures ∙ c.if-is_same.true) (sym c.last.ensures ∙ c.in-Some.is)
    (rw (← c.before-in-Some.ensures) (sym c.is_some.ensures ∙ c.if-is_some.true))
    ∙ disjoint g _ k _ e)

pub returns-else-is_some : goal.returns-else-is_some
returns-else-is_some c =
    let r = c.args.reading.now in
    let g = r.groups.now in
    let k = c.requires in
    let e = c.get.ensures in
    c.if-is_some.false
    ∙ sym
    (shut_one r.chained k (same g _ k _ e ∙ sym c.is_same.ensures ∙ c.if-is_same.true) (sym c.last.ensures ∙ c.in-Some.is)
    (rw (← c.before-in-Some.ensures) (sym c.is_some.ensures ∙ c.if-is_some.false)))

pub returns-in_default : goal.returns-in_default
returns-in_default c =
    let r = c.args.reading.now in
    let g = r.groups.now in
    let s = sheet_in g.table.now g.size in
    let k = c.requires in
    let e = c.get.ensures in
    c.is_cover.ensures ∙ sym
    ((elim c.in_default.branch [
      | in_default-via-in-Some+else-is_same w ↦ shut_cover s _ (same g _ k _ e ∙ sym w.is_same.ensures ∙ w.if-is_same.false)
      | in_default-via-in_default w ↦
          split (s.same c.args.g.0)
          (λ h. shut_none r.chained k h (sym c.last.ensures ∙ w.in_default.is))
          (λ h. shut_cover s _ h)
    ])
    ∙ cover g _ k _ e)
