-- What lies between two places is the same read from either end, and nothing where the second is the lower one.
use Rattle.std.proofs.Common.{ℕ, suc, List, [], arith, ap, sym, ◌≡◌, ◌∙◌, ◌+◌, ◌-◌, ◌≤◌, ◌<◌, get_or, map, take, drop, add-one}
use Rattle.std.proofs.Math.Seq.{slice}
use Rattle.std.proofs.lemmas.List.{drop-take, drop_all, length-take}
use Rattle.tables.specs.declared.groups.GroupNo.{GroupNo}
use Rattle.sons.specs.SonLists.{kept_sons}
use Rattle.sons.proofs.lists.Sons.of.Goals as goal

part : (starts : List ℕ) (order : List GroupNo) (g b : ℕ) → b ≡ get_or starts (suc g) 0 → get_or starts g 0 ≤ b
    → map (λ (h : GroupNo). h.0) (take (b - get_or starts g 0) (drop (get_or starts g 0) order)) ≡ kept_sons starts order g
part starts order g b f o =
    let a = get_or starts g 0 in
    let e : a + (b - a) ≡ b = omega arith in
    ap (map (λ (h : GroupNo). h.0)) (sym (rw e at (drop-take a (b - a) order)) ∙ ap (λ c. slice a c order) f)

no_part : (starts : List ℕ) (order : List GroupNo) (g b : ℕ) → b ≡ get_or starts (suc g) 0 → b < get_or starts g 0
    → ◌≡◌ {A = List ℕ} [] (kept_sons starts order g)
no_part starts order g b f o =
    let a = get_or starts g 0 in
    ap (map (λ (h : GroupNo). h.0)) (sym (drop_all a (take b order) (omega (arith, length-take b order))) ∙ ap (λ c. slice a c order) f)

pub returns-then-from-to : goal.returns-then-from-to
returns-then-from-to c =
    let w = c.args.self.now in
    part w.starts.now w.order.now c.args.g.0 _ (ap (λ i. get_or w.starts.now i 0) (add-one c.args.g.0)) c.if-from-to.true

pub returns-else-from-to : goal.returns-else-from-to
returns-else-from-to c =
    let w = c.args.self.now in
    no_part w.starts.now w.order.now c.args.g.0 _ (ap (λ i. get_or w.starts.now i 0) (add-one c.args.g.0)) c.if-from-to.false
