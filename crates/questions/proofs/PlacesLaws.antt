-- Laws of places: a choice under flags is a member's place, and the other way round.
use Prim.Native.Nat.{ℕ, zero, suc, ◌≤◌, ◌+◌}
use mathlib.Core.Path.{◌≡◌, refl, sym, ap, ◌∙◌}
use borrow.Author.Tests.{ne_eqb}
use mathlib.Core.Bool.{Bool, true, false, not}
use Rattle.std.specs.Bool.{◌==◌}
use lib.ListN.{length}
use mathlib.Core.List.{List, Memᴰ, [], ◌∷◌}
use native.Mathlib.Omega.{arith}
use native.Mathlib.Nat.{le_refl}
use Rattle.laws.specs.Sum.{bit}
use Rattle.laws.proofs.Cases.{compare_eq}
use Rattle.laws.proofs.SumLaws.{bit_le_true}
use Rattle.meaning.specs.Sheet.{Sheet, Group, Son}
use Rattle.meaning.specs.Tree.{Tree, Rooted}
use Rattle.meaning.proofs.SonLaws.{son_parent}
use Rattle.sizes.specs.Balanced.{Choice}
use Rattle.sizes.specs.ClaimsPlace.{is_in}
use Rattle.sizes.proofs.Possible.{nowhere, sizes_choice, choice_sizes}
use Rattle.sizes.proofs.ClaimsPlaceLaws.{place_in, flags_placed, place_choice}
use Rattle.measuring.specs.Tables.{may_in}
use Rattle.choosing.specs.Divided.{marked_in}
use Rattle.choosing.specs.Chosen.{Chose}
use Rattle.spans.specs.declared.may.May.{May}
use Rattle.tables.specs.declared.groups.GroupNo.{GroupNo}
use Rattle.questions.specs.Groups.{AllGroups, numbers_of}
use Rattle.questions.specs.Places.{PlaceJudged}
use Rattle.questions.proofs.JudgedLaws.{choice_allowed}

-- a member of some group is a member of the root
marked_root : {s : Sheet} {may : ℕ → Bool → Bool} {f : ℕ → ℕ} {M : ℕ → Bool} → Tree s → Rooted s → Choice s may f M
    → (d g : ℕ) → g ≤ d → Group s g → M g ≡ true → M 1 ≡ true
marked_root t r c zero g l q e = absurd (omega arith)
marked_root {s} {M = M} t r c (suc d) g l q e =
    compare_eq g 1
    (λ o. rw (sym o) e)
    (λ n. let k : Son s (s.parent g) g = record { above = r.rest g q (omega arith); group = q; under = refl } in
    let i = son_parent t k in
    marked_root t r c d (s.parent g) (omega (arith, t.before g q)) i (bit_le_true (M g) (M (s.parent g)) ((c.one.at
    (s.parent g) i).inside g k) e))

-- whether there is any group on the list
abbrev pub some_group : List ℕ → Bool
some_group [] = false
some_group (g ∷ l) = true

pub some_groups : (l : List GroupNo) → not (length l == 0) ≡ some_group (numbers_of l)
some_groups [] = refl
some_groups (g ∷ l) = ap not (ne_eqb (length (g ∷ l)) 0 (λ e. omega arith))

-- The root's state in a choice for a place: in, where the place asks for any group. Where it asks for none, the member may as
-- well be nowhere.
root_state : {s : Sheet} (ins outs : List ℕ) → Tree s → Rooted s → AllGroups s.size ins → (f : ℕ → ℕ) (M : ℕ → Bool)
    → Choice s (place_in ins outs) f M
    → (h : ℕ → ℕ) × (N : ℕ → Bool) × Choice s (place_in ins outs) h N × (N 1 ≡ some_group ins)
unfolding place_in is_in
root_state {s} [] outs u r k f M c =
    ((λ g. f g + bit (M g)), nowhere, sizes_choice (place_in [] outs) (λ g q. refl) (choice_sizes c), refl)
root_state {s} (g ∷ l) outs u r k f M c =
    let q : Group s g = record { first = k.0; last = k.1 } in
    let p = flags_placed (g ∷ l) outs M c.allowed in
    (f, M, c, marked_root u r c g g (le_refl g) q (p.held g (Memᴰ.head refl) q))

-- Under the flags of the place, and with the root in that state, the question is the one for the place.
pub place_judged : {s : Sheet} {sizes marks : List ℕ} {x : Bool} (flags : List May) (ins outs : List ℕ) (root : Bool) → root ≡ some_group ins
    → Tree s → Rooted s → AllGroups s.size ins
    → ((g : ℕ) → Group s g → (c : Bool) → may_in flags g c ≡ place_in ins outs g c)
    → Chose s (may_in flags) root sizes marks x → PlaceJudged s ins outs sizes marks x
place_judged {marks = marks} flags ins outs root d u r k e w = record {
  found = λ o. let v = w.found o in record {
    fitting = record { may = may_in flags; root = root; found = v };
    placed = flags_placed ins outs (marked_in marks)
        (λ g q. sym (e g q (marked_in marks g)) ∙ v.choice.allowed g q);
  };
  lacking = λ o y.
      let v = (place_choice ins outs u).0 y in
      let z = root_state ins outs u r k v.0 v.1 v.2 in
      w.lacking o z.0 z.1 (choice_allowed (λ g q. e g q (z.1 g) ∙ z.2.allowed g q) z.2) (z.3 ∙ sym d);
}
