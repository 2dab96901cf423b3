-- What a record that passes its tests has, for each sort of record.
use Prim.Native.Nat.{ℕ, ◌+◌, ◌≤◌, ◌-◌, zero, suc, ◌*◌}
use mathlib.Core.Path.{◌≡◌, refl, ap}
use mathlib.Core.Bool.{true, ◌&&◌, ◌||◌}
use mathlib.Core.List.{List, [], ◌∷◌, ◌++◌}
use native.Mathlib.Omega.{arith}
use lib.ListN.{length, length-take, length-drop}
use lib.Dec.{leb, eqb}
use borrow.Author.Tests.{leb-true, le-leb, eqb-true, not-true, eqb-false}
use Rattle.laws.proofs.Cases.{and_true, split}
use Rattle.wire.specs.Limits.{name_limit, claim_limit, bound_limit, mode_limit, list_limit}
use Rattle.wire.specs.Edition.{edition_number, edition_of, group_limit, Edition, label_limit}
use Rattle.wire.specs.Bytes.{u16_at}
use Rattle.wire.specs.Record.{length_of, framed, kind_of}
use Rattle.wire.specs.SheetFormat.{head_tests, group_tests, GroupRecord, group_of, name_tests, NameRecord, name_of, same_label, used, claim_tests}
use Rattle.wire.specs.SheetFormat.{ClaimRecord, u16s, left_of, right_of, all_within, ListKind, inside, apart, place, list_number, last_claim}
use Rattle.wire.specs.SheetFormat.{list_kind_of, claim_length, claim_fields, claim_names, claim_of, count, lists}
use Rattle.wire.specs.Encoding.{GroupRight, NameRight, ListRight, ClaimRight}
use Rattle.wire.proofs.Passing.{Nonzero, Pass}

-- the bytes that a record's frame promises are there
pub record Framed (b : List ℕ) : Type 0 where
  pub four : 4 ≤ length b
  pub least : 2 ≤ length_of b
  pub whole : length_of b + 2 ≤ length b

pub framed_true : (b : List ℕ) → framed b ≡ true → Framed b
unfolding framed
framed_true b h =
    let s = and_true (leb 4 (length b) && leb 2 (length_of b)) (leb (length_of b + 2) (length b)) h in
    let t = and_true (leb 4 (length b)) (leb 2 (length_of b)) s.0 in
    record { four = leb-true _ _ t.0; least = leb-true _ _ t.1; whole = leb-true _ _ s.1 }

pub framed_of : (b : List ℕ) → Framed b → framed b ≡ true
unfolding framed
framed_of b f = rw (le-leb _ _ f.four, le-leb _ _ f.least, le-leb _ _ f.whole)

-- the head
pub record HeadRight (b : List ℕ) : Type 0 where
  pub frame : Framed b
  pub kind : kind_of b ≡ 1
  pub size : length_of b ≡ 10
  pub edition : u16_at b 4 ≡ edition_number (edition_of (u16_at b 4))
  pub some_group : 1 ≤ u16_at b 6
  pub groups : u16_at b 6 ≤ group_limit (edition_of (u16_at b 4))
  pub names : u16_at b 8 ≤ name_limit
  pub claims : u16_at b 10 ≤ claim_limit

pub head_nonzero : (b : List ℕ) → Nonzero (head_tests b)
unfolding head_tests
head_nonzero b = omega arith

pub head_right : (b : List ℕ) → Pass (head_tests b) → HeadRight b
unfolding head_tests
head_right b p =
    let known = eqb (u16_at b 4) (edition_number (edition_of (u16_at b 4))) in
    let few = leb (u16_at b 6) (group_limit (edition_of (u16_at b 4))) in
    let d = and_true (known && leb 1 (u16_at b 6) && few && leb (u16_at b 8) name_limit) (leb (u16_at b 10) claim_limit) p.1.1.1.0 in
    let c = and_true (known && leb 1 (u16_at b 6) && few) (leb (u16_at b 8) name_limit) d.0 in
    let a = and_true (known && leb 1 (u16_at b 6)) few c.0 in
    let e = and_true known (leb 1 (u16_at b 6)) a.0 in
    record {
      frame = framed_true b p.0;
      kind = eqb-true _ _ p.1.0;
      size = eqb-true _ _ p.1.1.0;
      edition = eqb-true _ _ e.0;
      some_group = leb-true _ _ e.1;
      groups = leb-true _ _ a.1;
      names = leb-true _ _ c.1;
      claims = leb-true _ _ d.1;
    }

-- a group
pub group_nonzero : (gs : List GroupRecord) (b : List ℕ) → Nonzero (group_tests gs b)
unfolding group_tests
group_nonzero gs b = omega arith

pub record GroupFrame (b : List ℕ) : Type 0 where
  pub frame : Framed b
  pub kind : kind_of b ≡ 2
  pub size : length_of b ≡ 10

pub group_frame : (gs : List GroupRecord) (b : List ℕ) → Pass (group_tests gs b) → GroupFrame b
unfolding group_tests
group_frame gs b p = record { frame = framed_true b p.0; kind = eqb-true _ _ p.1.0; size = eqb-true _ _ p.1.1.0 }

pub group_right : (gs : List GroupRecord) (b : List ℕ) → Pass (group_tests gs b) → GroupRight gs (group_of b)
unfolding group_tests group_of
group_right gs b p =
    let s = and_true (leb (u16_at b 6) bound_limit) (leb (u16_at b 10) mode_limit) p.1.1.1.0 in
    record { parent = p.1.1.1.1.0; lo = leb-true _ _ s.0; mode = leb-true _ _ s.1 }

-- a name
pub name_nonzero : (e : Edition) (groups : ℕ) (ns : List NameRecord) (b : List ℕ) → Nonzero (name_tests e groups ns b)
unfolding name_tests
name_nonzero e groups ns b = omega arith

pub record NameFrame (e : Edition) (b : List ℕ) : Type 0 where
  pub frame : Framed b
  pub kind : kind_of b ≡ 3
  pub least : 5 ≤ length_of b
  pub most : length_of b ≤ label_limit e + 4

pub name_frame : (e : Edition) (groups : ℕ) (ns : List NameRecord) (b : List ℕ) → Pass (name_tests e groups ns b) → NameFrame e b
unfolding name_tests
name_frame e groups ns b p =
    let s = and_true (leb 5 (length_of b)) (leb (length_of b) (label_limit e + 4)) p.1.1.0 in
    record {
      frame = framed_true b p.0;
      kind = eqb-true _ _ p.1.0;
      least = leb-true _ _ s.0;
      most = leb-true _ _ s.1;
    }

pub length_label : (e : Edition) (b : List ℕ) → NameFrame e b → length (name_of b).label ≡ length_of b - 4
unfolding name_of
length_label e b f = simp (length-take, length-drop) (omega arith)

-- a label among names, with one name more
pub used_snoc : (ns : List NameRecord) (x : NameRecord) (l : List ℕ) → used (ns ++ (x ∷ [])) l ≡ (used ns l || same_label x.label l)
unfolding used
used_snoc [] x l = split (same_label x.label l) (λ e. rw e) (λ e. rw e)
used_snoc (n ∷ ns) x l = split (same_label n.label l) (λ e. rw e) (λ e. rw e (used_snoc ns x l))

pub name_right : (e : Edition) (groups : ℕ) (ns : List NameRecord) (b : List ℕ) → Pass (name_tests e groups ns b)
    → NameRight e groups ns (name_of b)
unfolding name_tests
name_right e groups ns b p =
    let f = name_frame e groups ns b p in
    let l = length_label e b f in
    record {
      group = unfold name_of in leb-true _ _ p.1.1.1.1.0;
      first = omega arith;
      last = omega arith;
      bytes = p.1.1.1.0;
      new = not-true _ p.1.1.1.1.1.0;
    }

-- a claim: its kind, its length, and for kinds 5 to 7 the two lists
pub claim_nonzero : (names : ℕ) (cs : List ClaimRecord) (b : List ℕ) → Nonzero (claim_tests names cs b)
unfolding claim_tests
claim_nonzero names cs b = omega arith

pub length_u16s : (b : List ℕ) (i n : ℕ) → length (u16s b i n) ≡ n
unfolding u16s
length_u16s b i zero = refl
length_u16s b i (suc n) = ap suc (length_u16s b (i + 2) n)

pub record ListsFrame (names : ℕ) (b : List ℕ) : Type 0 where
  pub left_first : 1 ≤ u16_at b 4
  pub left_last : u16_at b 4 ≤ list_limit
  pub right_first : 1 ≤ u16_at b 6
  pub right_last : u16_at b 6 ≤ list_limit
  pub size : 6 + 2 * (u16_at b 4 + u16_at b 6) ≡ length_of b
  pub left_names : all_within names (left_of b) ≡ true
  pub right_names : all_within names (right_of b) ≡ true

pub record CountFrame (names : ℕ) (b : List ℕ) : Type 0 where
  pub size : length_of b ≡ 8
  pub name : all_within names (u16_at b 4 ∷ []) ≡ true
  pub lo : u16_at b 6 ≤ bound_limit

pub claim_frame : (names : ℕ) (cs : List ClaimRecord) (b : List ℕ) → Pass (claim_tests names cs b) → Framed b
unfolding claim_tests
claim_frame names cs b p = framed_true b p.0

-- the kinds of claims on two lists, by their numbers
pub list_within : (k : ListKind) → (5 ≤ list_number k) × (list_number k ≤ last_claim)
unfolding list_number
list_within inside = omega arith
list_within apart = omega arith
list_within place = omega arith

pub list_number_law : (n : ℕ) → 5 ≤ n → n ≤ last_claim → n ≡ list_number (list_kind_of n)
unfolding list_number list_kind_of
list_number_law n five last =
    split (eqb n 5)
    (λ e. rw e (eqb-true n 5 e))
    (λ d. split (eqb n 6)
    (λ e. rw (d, e) (eqb-true n 6 e))
    (λ f. rw (d, f) (omega (arith, eqb-false n 5 d, eqb-false n 6 f))))

-- the cases of a claim that passes
pub claim_cases {ℓ} : {C : Type ℓ} (names : ℕ) (cs : List ClaimRecord) (b : List ℕ) → Pass (claim_tests names cs b)
    → (kind_of b ≡ 4 → CountFrame names b → C) → ((k : ListKind) → kind_of b ≡ list_number k → ListsFrame names b → C) → C
unfolding claim_tests claim_length claim_fields claim_names
claim_cases names cs b p c4 c5 =
    let s = and_true (leb 4 (kind_of b)) (leb (kind_of b) last_claim) p.1.0 in
    split (eqb (kind_of b) 4)
    (λ four.
    c4 (eqb-true _ _ four)
    (record {
      size = eqb-true _ _ (rw four at p.1.1.0);
      name = rw four at p.1.1.1.1.0;
      lo = leb-true _ _ (rw four at p.1.1.1.0);
    }))
    (λ other.
    let least : 5 ≤ kind_of b = omega (arith, leb-true 4 (kind_of b) s.0, eqb-false (kind_of b) 4 other) in
    c5 (list_kind_of (kind_of b)) (list_number_law (kind_of b) least (leb-true (kind_of b) last_claim s.1))
    (lists_of (rw other at p.1.1.1.0) (rw other at p.1.1.1.1.0)))
  where
    lists_of : (leb 1 (u16_at b 4) && leb (u16_at b 4) list_limit && leb 1 (u16_at b 6) && leb (u16_at b 6) list_limit
        && eqb (6 + 2 * (u16_at b 4 + u16_at b 6)) (length_of b)) ≡ true
        → (all_within names (left_of b) && all_within names (right_of b)) ≡ true → ListsFrame names b
    lists_of h k =
        let e = and_true (leb 1 (u16_at b 4) && leb (u16_at b 4) list_limit && leb 1 (u16_at b 6) && leb (u16_at b 6) list_limit)
        (eqb (6 + 2 * (u16_at b 4 + u16_at b 6)) (length_of b)) h in
        let d = and_true (leb 1 (u16_at b 4) && leb (u16_at b 4) list_limit && leb 1 (u16_at b 6)) (leb (u16_at b 6) list_limit)
        e.0 in
        let c = and_true (leb 1 (u16_at b 4) && leb (u16_at b 4) list_limit) (leb 1 (u16_at b 6)) d.0 in
        let a = and_true (leb 1 (u16_at b 4)) (leb (u16_at b 4) list_limit) c.0 in
        let n = and_true (all_within names (left_of b)) (all_within names (right_of b)) k in
        record {
          left_first = leb-true _ _ a.0;
          left_last = leb-true _ _ a.1;
          right_first = leb-true _ _ c.1;
          right_last = leb-true _ _ d.1;
          size = eqb-true _ _ e.1;
          left_names = n.0;
          right_names = n.1;
        }

-- the value of a claim, by its kind
pub claim_count_law : (b : List ℕ) → kind_of b ≡ 4 → claim_of b ≡ count (u16_at b 4) (u16_at b 6) (u16_at b 8)
unfolding claim_of
claim_count_law b e = rw e

pub claim_lists : (b : List ℕ) (k : ListKind) → kind_of b ≡ list_number k → claim_of b ≡ lists k (left_of b) (right_of b)
unfolding claim_of list_number list_kind_of
claim_lists b inside e = rw e
claim_lists b apart e = rw e
claim_lists b place e = rw e

list_right : (names : ℕ) (b : List ℕ) (i n : ℕ) → 1 ≤ n → n ≤ list_limit → all_within names (u16s b i n) ≡ true
    → ListRight names (u16s b i n)
list_right names b i n l m a =
    let size = length_u16s b i n in
    record { first = omega arith; last = omega arith; allowed = a }

lists_right : (names : ℕ) (b : List ℕ) → ListsFrame names b → ListRight names (left_of b) × ListRight names (right_of b)
unfolding left_of right_of
lists_right names b f = (
  list_right names b 8 (u16_at b 4) f.left_first f.left_last f.left_names,
  list_right names b (8 + 2 * u16_at b 4) (u16_at b 6) f.right_first f.right_last f.right_names,
)

pub claim_right : (names : ℕ) (cs : List ClaimRecord) (b : List ℕ) → Pass (claim_tests names cs b)
    → ClaimRight names cs (claim_of b)
claim_right names cs b p =
    claim_cases names cs b p (λ k f. rw (claim_count_law b k) (f.name, f.lo))
    (λ k e f. rw (claim_lists b k e) (lists_right names b f))
