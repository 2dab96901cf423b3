-- Laws of dividing: one more group gets its number and mark, and all groups before it keep theirs.
use Prim.Native.Nat.{ℕ, ◌-◌, ◌≤◌, zero, suc}
use mathlib.Core.Path.{◌≡◌, refl, ap, ◌∙◌, sym, subst}
use mathlib.Core.Bool.{Bool, true, false}
use mathlib.Core.List.{List}
use native.Mathlib.Omega.{arith}
use native.Mathlib.Nat.{le_refl}
use lib.ListN.{length, set, length-set, get_or}
use lib.Seq.{get_or-set_same, get_or-set_other}
use lib.Dec.{eqb}
use Rattle.laws.specs.Sum.{bit}
use Rattle.laws.proofs.Cases.{compare_eq}
use Rattle.laws.proofs.SumLaws.{bit_most}
use Rattle.meaning.specs.Sheet.{Sheet, Group, Son}
use Rattle.meaning.specs.Tree.{Tree}
use Rattle.meaning.proofs.SonLaws.{son_parent}
use Rattle.sizes.specs.Span.{Span, In, Kind}
use Rattle.sizes.specs.Fold.{join_kind, later, Measured}
use Rattle.tables.specs.declared.groups.Group.{Group as TableGroup}
use Rattle.tables.specs.declared.table.Groups.{Groups}
use Rattle.tables.specs.Entry.{no_group}
use Rattle.tables.specs.SheetIn.{sheet_in}
use Rattle.tables.specs.Numbers.{number_in}
use Rattle.tables.proofs.NumbersLaws.{number_same, number_other}
use Rattle.spans.specs.Held.{AlikeBoth, mode_kind}
use Rattle.measuring.proofs.TablesLaws.{kind_in_law}
use Rattle.choosing.specs.Parted.{Parted, Divisible, Shared}
use Rattle.choosing.specs.declared.parts.Part.{Part}
use Rattle.choosing.specs.Divided.{marked_in, no_part, left_in, state_in, RoomFor, DividedTo, Dividend}
use Rattle.choosing.proofs.PartedLaws.{parted_root, parted_more, parted_divisible, parted_choice}

pub bit_mark : (c : Bool) → eqb (bit c) 1 ≡ c
bit_mark true = refl
bit_mark false = refl

-- a mark stored at group g
pub mark_same : (t : List ℕ) (g : ℕ) (c : Bool) → 1 ≤ g → g ≤ length t → marked_in (set t (g - 1) (bit c)) g ≡ c
mark_same t g c a l = ap (λ x. eqb x 1) (number_same t g (bit c) a l) ∙ bit_mark c

pub mark_other : (t : List ℕ) (g h x : ℕ) → 1 ≤ g → 1 ≤ h → (h ≡ g → ⊥) → marked_in (set t (g - 1) x) h ≡ marked_in t h
mark_other t g h x a b n = ap (λ x. eqb x 1) (number_other t g h x a b n)

bits_more : (t : List ℕ) (g : ℕ) (c : Bool) → 1 ≤ g → g ≤ length t → ((h : ℕ) → 1 ≤ h → h ≤ g - 1 → number_in t h ≤ 1)
    → (h : ℕ) → 1 ≤ h → h ≤ g → number_in (set t (g - 1) (bit c)) h ≤ 1
bits_more t g c a l w h b k =
    compare_eq h g
    (λ e. rw (e, number_same t g (bit c) a l) (bit_most c))
    (λ n. rw (number_other t g h (bit c) a b n) (w h b (omega arith)))

-- what is left to the later sons, stored at group g
part_same : (t : List Part) (g : ℕ) (p : Part) → 1 ≤ g → g ≤ length t → get_or (set t (g - 1) p) (g - 1) no_part ≡ p
part_same t g p a l = get_or-set_same t (g - 1) p no_part (omega arith)

part_other : (t : List Part) (g h : ℕ) (p : Part) → 1 ≤ g → 1 ≤ h → (h ≡ g → ⊥)
    → get_or (set t (g - 1) p) (h - 1) no_part ≡ get_or t (h - 1) no_part
part_other t g h p a b n = get_or-set_other t (g - 1) (h - 1) p no_part (λ e. n (omega arith))

module _ {s : Sheet} {may : ℕ → Bool → Bool} {z : ℕ → Bool → Span} (t : Tree s) (m : Measured s may z) where
  pub divided_root : (sizes marks : List ℕ) (left : List Part) (r : ℕ) (c : Bool) → Group s 1 → RoomFor 1 sizes marks left
      → In r (z 1 c)
      → DividedTo s z (set sizes 0 r) (set marks 0 (bit c)) (set left 0 (record { number = r; inn = c })) 1
  divided_root sizes marks left r c q l h =
      let one : 1 ≤ 1 = le_refl 1 in
      let a = number_same sizes 1 r one l.sizes_long in
      let b = mark_same marks 1 c one l.marks_long in
      let d = part_same left 1 (record { number = r; inn = c }) one l.left_long in
      record {
        parted = parted_root t m q (rw (a, b) h) (ap (λ p. p.number) d ∙ sym a) (ap (λ p. p.inn) d ∙ sym b);
        bits = bits_more marks 1 c one l.marks_long (λ h i j. absurd (omega arith));
      }

  pub divided_divisible : {sizes marks : List ℕ} {left : List Part} (p g : ℕ) → Son s p g → DividedTo s z sizes marks left (g - 1)
      → Divisible (join_kind s p) (later s z p (s.size - g)) (z g) (left_in left p) (state_in left p)
  divided_divisible p zero k w = absurd (omega (arith, k.group.first))
  divided_divisible p (suc i) k w =
      let e : suc i - 1 ≡ i = omega arith in
      parted_divisible t m p i k (rw e at w.parted)

  pub divided_more : (sizes marks : List ℕ) (left : List Part) (p g : ℕ) (o n : Part) → Son s p g
      → RoomFor s.size sizes marks left → DividedTo s z sizes marks left (g - 1)
      → Shared (join_kind s p) (later s z p (s.size - g)) (z g) (left_in left p) (state_in left p) o.number o.inn n.number n.inn
      → DividedTo s z (set sizes (g - 1) n.number) (set marks (g - 1) (bit n.inn)) (set (set left (g - 1) n) (p - 1) o) g
  divided_more sizes marks left p zero o n k l w v = absurd (omega (arith, k.group.first))
  divided_more sizes marks left p (suc i) o n k l w v =
      let first : 1 ≤ suc i = omega arith in
      let e : suc i - 1 ≡ i = omega arith in
      let q = son_parent t k in
      let apart : suc i ≡ p → ⊥ = λ o. omega (arith, t.before (suc i) k.group, k.under) in
      let last = k.group.last in
      let y : ℕ = n.number in
      let d : Bool = n.inn in
      let size : number_in (set sizes (suc i - 1) y) (suc i) ≡ y = number_same sizes (suc i) y first (omega
      (arith, l.sizes_long)) in
      let mark : marked_in (set marks (suc i - 1) (bit d)) (suc i) ≡ d = mark_same marks (suc i) d first (omega
      (arith, l.marks_long)) in
      let up : get_or (set (set left (suc i - 1) n) (p - 1) o) (p - 1) no_part ≡ o =
      part_same (set left (suc i - 1) n) p o q.first (simp length-set (omega (arith, l.left_long))) in
      let number : left_in (set (set left (suc i - 1) n) (p - 1) o) p ≡ o.number = ap (λ x. x.number) up in
      let state : state_in (set (set left (suc i - 1) n) (p - 1) o) p ≡ o.inn = ap (λ x. x.inn) up in
      let own : get_or (set (set left (suc i - 1) n) (p - 1) o) (suc i - 1) no_part ≡ n =
      part_other (set left (suc i - 1) n) p (suc i) o q.first first apart ∙ part_same left (suc i) n first (omega (arith, l.left_long)) in
      let other : (h : ℕ) → 1 ≤ h → (h ≡ suc i → ⊥) → (h ≡ p → ⊥)
      → get_or (set (set left (suc i - 1) n) (p - 1) o) (h - 1) no_part ≡ get_or left (h - 1) no_part =
      λ h a b c. part_other (set left (suc i - 1) n) p h o q.first a c ∙ part_other left (suc i) h n first a b in
      record {
        parted = parted_more t m p i k (subst (Parted s z (number_in sizes) (marked_in marks) (left_in left) (state_in left)) e w.parted)
            (record {
              share = rw (size, mark, number, state) v;
              own_rest = ap (λ x. x.number) own ∙ sym size;
              own_state = ap (λ x. x.inn) own ∙ sym mark;
              numbers = λ h a n. number_other sizes (suc i) h y first a n;
              marks = λ h a n. mark_other marks (suc i) h (bit d) first a n;
              rests = λ h a b c. ap (λ x. x.number) (other h a b c);
              states = λ h a b c. ap (λ x. x.inn) (other h a b c);
            });
        bits = bits_more marks (suc i) d first (omega (arith, l.marks_long)) w.bits;
      }

pub divided_all : {s : Sheet} {z : ℕ → Bool → Span} {sizes marks : List ℕ} {left : List Part} {r : ℕ} {c : Bool} → Tree s
    → DividedTo s z sizes marks left s.size → number_in sizes 1 ≡ r → marked_in marks 1 ≡ c → Dividend s z r c sizes marks
divided_all t w e o = record {
  choice = λ may m. parted_choice t m w.parted;
  root = e;
  state = o;
  bits = λ g q. w.bits g q.first q.last;
}

-- a division of spans is one of spans that are equal in each state
pub divisible_alike : (q : Kind) {a b z y : Bool → Span} (r : ℕ) (c : Bool) → AlikeBoth a b → AlikeBoth z y → Divisible q b y r c
    → Divisible q a z r c
divisible_alike q r c e f w = (w.0, w.1, w.2, rw (e w.0, f w.1) w.3)

pub shared_alike : {q : Kind} {a b z y : Bool → Span} {r : ℕ} {c : Bool} {x : ℕ} {i : Bool} {n : ℕ} {j : Bool} → AlikeBoth a b
    → AlikeBoth z y
    → Shared q a z r c x i n j → Shared q b y r c x i n j
shared_alike {i = i} {j = j} e f w = record {
  states = w.states;
  numbers = w.numbers;
  rest = rw (e i) at w.rest;
  son = rw (f j) at w.son;
}

-- what the code reads of a son's parent, in the mathematics' terms
pub kind_table : (g : Groups) (p h : ℕ) (x : TableGroup) (q : Kind) → Son (sheet_in g.table.now g.size) p h → x ≡ get_or g.table.now (p - 1) no_group
    → q ≡ mode_kind x.mode.0 → q ≡ join_kind (sheet_in g.table.now g.size) p
kind_table g p h x q i d e =
    e ∙ ap (λ y. mode_kind y.mode.0) d ∙ sym (kind_in_law g.table.now g.size p (son_parent g.tabled.tree i))
