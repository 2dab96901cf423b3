-- The columns of a group's sons put together: word by word, son by son, and what they tell of the sons.
use Prim.Native.Nat.{ℕ, ◌*◌, ◌/◌, ◌%◌, ◌<◌, min, max, ◌+◌, ◌≤◌, zero, suc, ◌-◌}
use mathlib.Core.Path.{◌≡◌, refl, ◌∙◌, ap, sym}
use mathlib.Core.Bool.{true, false}
use mathlib.Core.List.Memᴰ
use mathlib.Core.List.{List, [], ◌∷◌, ◌++◌, Memᴰ, append-nil}
use mathlib.Core.Logic.{⊎_elim}
use native.Mathlib.Omega.{arith}
use native.Mathlib.Nat.{zero-add}
use native.Mathlib.Numerals.{add-one}
use borrow.Author.Tests.{lt-ltb}
use lib.ListN.{get_or, length, drop, drop_of_length-le}
use lib.Seq.{append_snoc, slice, drop-cons, length-slice}
use Rattle.std.proofs.lemmas.List.{length-map}
use Rattle.tables.specs.declared.groups.GroupNo.{GroupNo}
use lib.Bits.{bit_and}
use Rattle.laws.proofs.Cases.{compare_le, compare_eq, not_true_false, true_not_false}
use Rattle.laws.proofs.Digits.{digit_of_zero, digit_and, digit_or}
use Rattle.wire.specs.Capacity.{group_capacity}
use Rattle.meaning.specs.Sheet.{Sheet, Group, Son}
use Rattle.meaning.specs.SonList.{Rising, son_list}
use Rattle.meaning.proofs.SonListLaws.{listed_son, son_listed, son_list_rises}
use Rattle.rows.specs.RowsRead.{word_bits}
use Rattle.columns.specs.Columns.{column_digit, column_word, in_column}
use Rattle.columns.specs.ColumnSteps.{Cleared}
use Rattle.columns.proofs.ColumnLaws.{column_le, column_one, one_column}
use Rattle.sons.specs.SonLists.{SonsListed}
use Rattle.sons.specs.SonSteps.{SonsReadable, several_sons}
use Rattle.rules.specs.Joins.{ColumnJoined, total, Joined, held_by}

-- the digits of words that are 0, and of words to which a column is put
cleared_digit : {words : ℕ} {t : List ℕ} → Cleared words t → (i : ℕ) → i < word_bits * words → column_digit t 0 i ≡ 0
unfolding column_digit
cleared_digit c i l = rw (zero-add (i / word_bits), c.each (i / word_bits) (omega arith)) (digit_of_zero (i % word_bits))

module _ {t : List ℕ} {g words : ℕ} {some two some' two' : List ℕ} (c : ColumnJoined t g words some two some' two') (i : ℕ)
    (l : i < word_bits * words) where
  some_digit : column_digit some' 0 i ≡ max (column_digit some 0 i) (column_digit t g i)
  unfolding column_digit
  some_digit =
      rw (zero-add (i / word_bits), c.some_word (i / word_bits) (omega arith))
      (digit_or (get_or some (i / word_bits) 0) (get_or t (column_word g (i / word_bits)) 0) (i % word_bits))

  two_digit : column_digit two' 0 i ≡ max (column_digit two 0 i) (min (column_digit some 0 i) (column_digit t g i))
  unfolding column_digit
  two_digit =
      rw (
        zero-add (i / word_bits),
        c.two_word (i / word_bits) (omega arith),
        ← digit_and (get_or some (i / word_bits) 0) (get_or t (column_word g (i / word_bits)) 0) (i % word_bits),
      )
      (digit_or (get_or two (i / word_bits) 0) (bit_and (get_or some (i / word_bits) 0) (get_or t (column_word g (i / word_bits)) 0)) (i % word_bits))

-- one group more: in some of c + d groups, and in two of them
some_more : (c d : ℕ) → d ≤ 1 → max (min 1 c) d ≡ min 1 (c + d)
some_more c d l = omega arith

two_more : (c d : ℕ) → d ≤ 1 → max (min 1 (c - 1)) (min (min 1 c) d) ≡ min 1 (c + d - 1)
two_more zero d l = omega arith
two_more (suc c) d l =
    let e : min (min 1 (suc c)) d ≡ d = omega arith in
    let z : suc c + d - 1 ≡ suc c - 1 + d = omega arith in rw (e, z) (some_more (suc c - 1) d l)

total_snoc : (f : ℕ → ℕ) (l : List ℕ) (g : ℕ) → total f (l ++ (g ∷ [])) ≡ total f l + f g
unfolding total
total_snoc f [] g = omega arith
total_snoc f (h ∷ l) g = omega (arith, total_snoc f l g)

-- of a list all groups but those that are left are joined
pub record JoinedBut (l left t : List ℕ) (words : ℕ) (some two : List ℕ) : Type 0 where
  pub done : List ℕ
  pub whole : done ++ left ≡ l
  pub joined : Joined done t words some two

pub joined_none : (l t : List ℕ) {words : ℕ} {some two : List ℕ} → Cleared words some → Cleared words two → JoinedBut l l t words some two
unfolding total
joined_none l t a b =
    record {
      done = [];
      whole = refl;
      joined = record { in_some = cleared_digit a; in_two = cleared_digit b };
    }

joined_one : {l left t : List ℕ} {g words : ℕ} {some two some' two' : List ℕ} → JoinedBut l (g ∷ left) t words some two
    → ColumnJoined t g words some two some' two' → JoinedBut l left t words some' two'
joined_one {l} {left} {t} {g} w c =
    record {
      done = w.done ++ (g ∷ []);
      whole = append_snoc w.done g left ∙ w.whole;
      joined = record {
        in_some = λ i o.
            rw (total_snoc (λ h. column_digit t h i) w.done g, some_digit c i o, w.joined.in_some i o)
            (some_more (held_by t w.done i) (column_digit t g i) (column_le t g i));
        in_two = λ i o.
            rw (total_snoc (λ h. column_digit t h i) w.done g, two_digit c i o, w.joined.in_some i o, w.joined.in_two i o)
            (two_more (held_by t w.done i) (column_digit t g i) (column_le t g i));
      };
    }

-- the first group that is left is on the list
pub left_listed : {l t : List ℕ} {words : ℕ} {some two : List ℕ} (k : ℕ) → JoinedBut l (drop k l) t words some two → k < length l
    → Memᴰ (get_or l k 0) l
left_listed {l} k w a =
    let m : Memᴰ (get_or l k 0) (w.done ++ drop k l) = rw (drop-cons l k 0 a) (Memᴰ.append_right w.done (Memᴰ.head refl)) in
    rw w.whole at m

-- the list without its first group
pub joined_more : {l t : List ℕ} {words : ℕ} {some two some' two' : List ℕ} (k : ℕ)
    → JoinedBut l (drop k l) t words some two → k < length l
    → ColumnJoined t (get_or l k 0) words some two some' two' → JoinedBut l (drop (k + 1) l) t words some' two'
joined_more {l} k w a c = rw (add-one k) (joined_one (rw (drop-cons l k 0 a) at w) c)

pub joined_all : {l t : List ℕ} {words : ℕ} {some two : List ℕ} (k : ℕ)
    → JoinedBut l (drop k l) t words some two → length l ≤ k → Joined l t words some two
joined_all {l} k w o =
    let e = drop_of_length-le l {i = k} o in
    let f : w.done ≡ l = sym (append-nil w.done) ∙ (rw e at w.whole) in
    rw f at w.joined

-- the list of each group of the sheet can be read off
pub sons_readable : {s : Sheet} {starts : List ℕ} {order : List GroupNo} {g : ℕ} → SonsListed s starts order → s.size ≤ group_capacity
    → Group s g → SonsReadable starts order g
sons_readable {s} {g = g} l z k =
    record {
      long = omega (arith, l.long, k.last);
      within = l.within g k;
      groups = λ h m. let c = listed_son s g h (rw (l.listed g k) at m) in omega (arith, c.group.last);
    }

-- a total and its terms: one, some, two of them
term_le : (f : ℕ → ℕ) (l : List ℕ) (g : ℕ) → Memᴰ g l → f g ≤ total f l
unfolding total
term_le f [] g m = absurd (Memᴰ.not-nil m)
term_le f (h ∷ l) g m =
    ⊎_elim (λ (e : g ≡ h). rw e (omega arith)) (λ k. omega (arith, term_le f l g k)) (Memᴰ.cases_cons m)

total_some : (f : ℕ → ℕ) (l : List ℕ) → 1 ≤ total f l → (g : ℕ) × Memᴰ g l × (1 ≤ f g)
unfolding total
total_some f [] a = absurd (omega arith)
total_some f (h ∷ l) a =
    compare_le 1 (f h)
    (λ o. (h, Memᴰ.head refl, o))
    (λ o. let w = total_some f l (omega arith) in (w.0, Memᴰ.tail w.1, w.2))

two_terms : (f : ℕ → ℕ) (l : List ℕ) (g h : ℕ) → Memᴰ g l → Memᴰ h l → g < h → f g + f h ≤ total f l
unfolding total
two_terms f [] g h m n o = absurd (Memᴰ.not-nil m)
two_terms f (x ∷ l) g h m n o =
    ⊎_elim
    (λ (a : g ≡ x). ⊎_elim
    (λ (b : h ≡ x). absurd (omega arith))
    (λ (b : Memᴰ h l). rw a (omega (arith, term_le f l h b)))
    (Memᴰ.cases_cons n))
    (λ (a : Memᴰ g l). ⊎_elim
    (λ (b : h ≡ x). rw b (omega (arith, term_le f l g a)))
    (λ b. omega (arith, two_terms f l g h a b o))
    (Memᴰ.cases_cons n))
    (Memᴰ.cases_cons m)

total_two : (f : ℕ → ℕ) (l : List ℕ) → Rising l → ((g : ℕ) → f g ≤ 1) → 1 < total f l
    → (g h : ℕ) × Memᴰ g l × Memᴰ h l × (g < h) × (1 ≤ f g) × (1 ≤ f h)
unfolding total
total_two f [] r m a = absurd (omega arith)
total_two f (x ∷ l) r m a =
    compare_le 1 (f x)
    (λ o. let w = total_some f l (omega (arith, m x)) in (x, w.0, Memᴰ.head refl, Memᴰ.tail w.1, r.0 w.0 w.1, o, w.2))
    (λ o. let w = total_two f l r.1 m (omega arith) in (w.0, w.1, Memᴰ.tail w.2, Memᴰ.tail w.3, w.4, w.5, w.6))

-- in how many sons of p member i is: in none, in some, in two
module _ (s : Sheet) (t : List ℕ) (p i : ℕ) where
  pub none_held : held_by t (son_list s p) i ≡ 0 → (h : ℕ) → Son s p h → in_column t h i ≡ false
  none_held e h k =
      not_true_false _
      (λ x. omega (arith, column_one t h i x, term_le (λ g. column_digit t g i) (son_list s p) h (son_listed k)))

  pub some_held : 1 ≤ held_by t (son_list s p) i → (h : ℕ) × Son s p h × (in_column t h i ≡ true)
  some_held o =
      let w = total_some (λ g. column_digit t g i) (son_list s p) o in
      (w.0, listed_son s p w.0 w.1, one_column t w.0 i w.2)

  pub held_none : ((h : ℕ) → Son s p h → in_column t h i ≡ false) → held_by t (son_list s p) i ≡ 0
  held_none f =
      compare_eq (held_by t (son_list s p) i) 0 (λ e. e)
      (λ e. let w = some_held (omega arith) in absurd (true_not_false _ w.2 (f w.0 w.1)))

  pub two_held : 1 < held_by t (son_list s p) i
      → (h j : ℕ) × Son s p h × Son s p j × (h < j) × (in_column t h i ≡ true) × (in_column t j i ≡ true)
  two_held o =
      let w = total_two (λ g. column_digit t g i) (son_list s p) (son_list_rises s p) (λ g. column_le t g i) o in (
        w.0,
        w.1,
        listed_son s p w.0 w.2,
        listed_son s p w.1 w.3,
        w.4,
        one_column t w.0 i w.5,
        one_column t w.1 i w.6,
      )

  pub held_two : (h j : ℕ) → Son s p h → Son s p j → h < j → in_column t h i ≡ true → in_column t j i ≡ true
      → 1 < held_by t (son_list s p) i
  held_two h j k m o x y =
      omega (
        arith,
        two_terms (λ g. column_digit t g i) (son_list s p) h j (son_listed k) (son_listed m) o,
        column_one t h i x,
        column_one t j i y,
      )

-- a group with two sons has a list of several
several : (l : List ℕ) (h j : ℕ) → Memᴰ h l → Memᴰ j l → h < j → 1 < length l
several [] h j m n o = absurd (Memᴰ.not-nil m)
several (x ∷ []) h j m n o = absurd (omega (arith, Memᴰ.eq_of_singleton m, Memᴰ.eq_of_singleton n))
several (x ∷ (y ∷ l)) h j m n o = omega arith

pub two_sons : {s : Sheet} {starts : List ℕ} {order : List GroupNo} {g : ℕ} → SonsListed s starts order → Group s g
    → (h j : ℕ) → Son s g h → Son s g j → h < j → several_sons starts g ≡ true
two_sons {s} {starts} {order} {g} l k h j y z o =
    let n = several (son_list s g) h j (son_listed y) (son_listed z) o in
    let e = sym (length-map (slice (get_or starts g 0) (get_or starts (suc g) 0) order) (λ g. g.0)) ∙ ap length (l.listed g k) in
    lt-ltb (get_or starts g 0 + 1) (get_or starts (suc g) 0)
    (omega (arith, length-slice (get_or starts g 0) (get_or starts (suc g) 0) order (l.within g k)))
