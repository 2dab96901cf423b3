-- What holds of a sheet that was read, and of the numbers of a refusal.
use Prim.Native.Nat.{ℕ, ◌≤◌, ◌+◌, ◌<◌, zero, suc}
use mathlib.Core.Path.{◌≡◌, refl, sym, ap, ◌∙◌, subst}
use mathlib.Core.Bool.{true, ◌&&◌}
use mathlib.Core.List.Memᴰ
use mathlib.Core.List.{List, [], ◌∷◌, ◌++◌, Memᴰ}
use mathlib.Core.Logic.{⊎_elim}
use native.Mathlib.Omega.{arith}
use native.Mathlib.Nat.{mul-le-mul_left}
use lib.ListN.{length, take, get_or, length-take, drop, length-drop}
use lib.Seq.{get_or-drop}
use lib.Dec.{eqb, leb, ltb}
use borrow.Author.Tests.{eqb-true, leb-true, ltb-true}
use Rattle.laws.proofs.Cases.{split, and_true}
use Rattle.wire.specs.Limits.{no_end}
use Rattle.wire.specs.Edition.{edition_of, Edition}
use Rattle.wire.specs.Capacity.{group_capacity, group_bytes, name_bytes, claim_bytes, sheet_limit}
use Rattle.wire.specs.Bytes.{u16_at}
use Rattle.wire.specs.Record.{after, test, read, refusal, length_of}
use Rattle.wire.specs.SheetFormat.{group_tests, name_tests, claim_tests, group_of, name_of, claim_of, Records, HeadRecord, GroupRecord, NameRecord}
use Rattle.wire.specs.SheetFormat.{closing, read_claims, read_names, head_tests, head_of, count, read_groups, read_sheet, parent_allowed, all_within}
use Rattle.wire.specs.SheetFormat.{ClaimRecord, lists}
use Rattle.wire.specs.Encoding.{Right, GroupRight, NameRight, Bytes, Each, none, more, SheetWithin}
use Rattle.wire.proofs.EditionFacts.{groups_within}
use Rattle.wire.proofs.Passing.{Nonzero, onward_read, Positive, onward_positive, Pass}
use Rattle.wire.proofs.Many.{Reads, reads_same, empty_of_length, many_read, many_positive, each_read, each_at, kept_read, reads_length}
use Rattle.wire.proofs.Sorts.{HeadRight, claim_nonzero, name_nonzero, head_nonzero, head_right, group_nonzero, group_right, name_right}
use Rattle.wire.proofs.Sorts.{claim_right, claim_cases, claim_count_law, claim_lists, group_frame, name_frame}

-- The bytes b are a head, groups, names and claims that pass their tests, and nothing else; they carry d.
pub record SheetRead (b : List ℕ) (d : Records) : Type 0 where
  pub head : HeadRight b
  pub edition : d.edition ≡ edition_of (u16_at b 4)
  pub group_count : length d.groups ≡ u16_at b 6
  pub name_count : length d.names ≡ u16_at b 8
  pub claim_count : length d.claims ≡ u16_at b 10
  pub after_groups : List ℕ
  pub after_names : List ℕ
  pub groups : Reads group_tests group_of [] (after b) d.groups after_groups
  pub names : Reads (name_tests d.edition (length d.groups)) name_of [] after_groups d.names after_names
  pub claims : Reads (claim_tests (length d.names)) claim_of [] after_names d.claims []

closing_nonzero : (c : List ℕ) → Nonzero (test 7 (eqb (length c) 0) ∷ [])
closing_nonzero c = omega arith

claims_read : (h : HeadRecord) (gs : List GroupRecord) (r : ℕ) (ns : List NameRecord) (b : List ℕ) (d : Records)
    → read_claims h gs r ns b ≡ read d
    → (d.edition ≡ h.edition) × (d.groups ≡ gs) × (d.names ≡ ns) × (length d.claims ≡ h.claims)
    × Reads (claim_tests h.names) claim_of [] b d.claims []
unfolding read_claims closing
claims_read h gs r ns b d e =
    let c = many_read (claim_tests h.names) claim_of (closing h.edition gs ns) (claim_nonzero h.names) h.claims r []
    b d e in
    let l = onward_read (test 7 (eqb (length c.1) 0) ∷ []) (closing_nonzero c.1) _ _ d c.4 in
    let same : record { edition = h.edition; groups = gs; names = ns; claims = c.0 } ≡ d = cc l.1 in
    rw (← same) (refl, refl, refl, c.2, reads_same refl (empty_of_length c.1 (eqb-true _ _ l.0.0)) c.3)

names_read : (h : HeadRecord) (r : ℕ) (gs : List GroupRecord) (b : List ℕ) (d : Records) → read_names h r gs b ≡ read d
    → (c : List ℕ) × (d.edition ≡ h.edition) × (d.groups ≡ gs) × (length d.names ≡ h.names)
    × (length d.claims ≡ h.claims) × Reads (name_tests h.edition h.groups) name_of [] b d.names c
    × Reads (claim_tests h.names) claim_of [] c d.claims []
unfolding read_names
names_read h r gs b d e =
    let n = many_read (name_tests h.edition h.groups) name_of (read_claims h gs) (name_nonzero h.edition h.groups)
    h.names r [] b d e in
    let l = claims_read h gs _ n.0 n.1 d n.4 in
    (n.1, l.0, l.1, ap length l.2 ∙ n.2, l.3, reads_same (sym l.2) refl n.3, l.4)

pub sheet_read : (b : List ℕ) (d : Records) → read_sheet b ≡ read d → SheetRead b d
unfolding read_sheet read_groups head_of
sheet_read b d e =
    let h = onward_read (head_tests b) (head_nonzero b) 1 (read_groups (head_of b) (after b)) d e in
    let g = many_read group_tests group_of (read_names (head_of b)) group_nonzero (u16_at b 6) 2 [] (after b) d h.1 in
    let l = names_read (head_of b) _ g.0 g.1 d g.4 in
    let count : length d.groups ≡ u16_at b 6 = ap length l.2 ∙ g.2 in
    record {
      head = head_right b h.0;
      edition = l.1;
      group_count = count;
      name_count = l.3;
      claim_count = l.4;
      after_groups = g.1;
      after_names = l.0;
      groups = reads_same (sym l.2) refl g.3;
      names = rw count (subst (λ v. Reads (name_tests v (u16_at b 6)) name_of [] g.1 d.names l.0) (sym l.1) l.5);
      claims = rw l.3 l.6;
    }

-- no sheet is refused with the number 0
pub sheet_positive : (b : List ℕ) → Positive (read_sheet b)
unfolding read_sheet read_groups read_names read_claims closing
sheet_positive b =
    let h = head_of b in
    onward_positive (refusal (head_tests b)) 1 _
    (many_positive group_tests group_of (read_names h)
    (λ r gs c. many_positive (name_tests h.edition h.groups) name_of (read_claims h gs)
    (λ r ns c. many_positive (claim_tests h.names) claim_of (closing h.edition gs ns)
    (λ r cs c. onward_positive (refusal (test 7 (eqb (length c) 0) ∷ [])) r _ tt)
    h.claims r [] c)
    h.names r [] c)
    h.groups 2 [] (after b))

-- what was read meets the limits that the tests ensure
pub read_right : (b : List ℕ) (d : Records) → read_sheet b ≡ read d → Right d
read_right b d e =
    let s = sheet_read b d e in
    record {
      some_group = omega arith;
      group_count = rw (s.edition, s.group_count) s.head.groups;
      name_count = omega arith;
      claim_count = omega arith;
      groups = each_read (λ c. Unit {0}) (λ c k. tt) (λ xs c k. group_right xs c) tt s.groups;
      names = each_read (λ c. Unit {0}) (λ c k. tt) (λ xs c k. name_right d.edition (length d.groups) xs c) tt s.names;
      claims = each_read (λ c. Unit {0}) (λ c k. tt) (λ xs c k. claim_right (length d.names) xs c) tt s.claims;
    }

-- tables hold the groups of a sheet that is right
pub right_few : {d : Records} → Right d → length d.groups ≤ group_capacity
right_few {d} R = omega (arith, R.group_count, groups_within d.edition)

-- Facts by place. Groups, names and claims are numbered from 1; place i is number i + 1, and z stands past the end.
-- group i + 1 has a parent up to i, and one from 1 on unless it is the first
pub record ParentRight (i p : ℕ) : Type 0 where
  pub first : 1 ≤ i → 1 ≤ p
  pub last : p ≤ i

pub parent_right : (i p : ℕ) → parent_allowed (i + 1) p ≡ true → ParentRight i p
unfolding parent_allowed
parent_right i p h =
    split (eqb (i + 1) 1)
    (λ t. let e = eqb-true (i + 1) 1 t in let q = eqb-true p 0 (rw t at h) in omega arith)
    (λ t.
    let s = and_true (leb 1 p) (ltb p (i + 1)) (rw t at h) in
    let l = leb-true 1 p s.0 in
    let m = ltb-true p (i + 1) s.1 in
    omega arith)

module _ {d : Records} (R : Right d) (i : ℕ) where
  pub group_at_law : (z : GroupRecord) → i < length d.groups → GroupRight (take i d.groups) (get_or d.groups i z)
  group_at_law z l = each_at R.groups i z l

  pub parent_at : (z : GroupRecord) → i < length d.groups → ParentRight i (get_or d.groups i z).parent
  parent_at z l =
      let size : length (take i d.groups) ≡ i = simp length-take (omega arith) in
      parent_right i (get_or d.groups i z).parent (rw size at (group_at_law z l).parent)

  pub name_at : (z : NameRecord) → i < length d.names
      → NameRight d.edition (length d.groups) (take i d.names) (get_or d.names i z)
  name_at z l = each_at R.names i z l

pub root_parent : {d : Records} → Right d → (z : GroupRecord) → (get_or d.groups 0 z).parent ≡ 0
root_parent R z = omega (arith, parent_at R 0 z R.some_group)

-- the names of a claim are from 1 to the names
pub within_at : (n : ℕ) (xs : List ℕ) → all_within n xs ≡ true → (i z : ℕ) → i < length xs → (1 ≤ get_or xs i z) × (get_or xs i z ≤ n)
unfolding all_within
within_at n [] h i z l = absurd (omega arith)
within_at n (x ∷ xs) h zero z l =
    let s = and_true (leb 1 x && leb x n) (all_within n xs) h in
    let t = and_true (leb 1 x) (leb x n) s.0 in
    (leb-true _ _ t.0, leb-true _ _ t.1)
within_at n (x ∷ xs) h (suc i) z l = within_at n xs (and_true (leb 1 x && leb x n) (all_within n xs) h).1 i z (omega arith)

-- a field of two bytes is below 65,536
pub u16_most : (b : List ℕ) → Bytes b → (i : ℕ) → u16_at b i ≤ no_end
unfolding u16_at
u16_most b k i = omega (arith, k i, k (i + 1))

pub bytes_drop : (n : ℕ) (b : List ℕ) → Bytes b → Bytes (drop n b)
bytes_drop n b k i = rw (get_or-drop n b i 0) (k (n + i))

pub bytes_after : (b : List ℕ) → Bytes b → Bytes (after b)
unfolding after
bytes_after b k = bytes_drop (length_of b + 2) b k

group_end : (gs : List GroupRecord) (b : List ℕ) → Bytes b → Pass (group_tests gs b) → (group_of b).hi ≤ no_end
unfolding group_of
group_end gs b k p = u16_most b k 8

-- upper ends of claims, one behind another and by membership
abbrev pub ClaimEnd : List ClaimRecord → ClaimRecord → Type 0
ClaimEnd cs (count n lo hi) = hi ≤ no_end
ClaimEnd cs (lists k l r) = Unit {0}

pub each_end : (xs cs : List ClaimRecord) → ((n lo hi : ℕ) → Memᴰ (count n lo hi) cs → hi ≤ no_end) → Each ClaimEnd xs cs
each_end xs [] h = none
each_end xs (count n lo hi ∷ cs) h =
    more (h n lo hi (Memᴰ.head refl)) (each_end (xs ++ (count n lo hi ∷ [])) cs (λ m l u i. h m l u (Memᴰ.tail i)))
each_end xs (lists k l r ∷ cs) h = more tt (each_end (xs ++ (lists k l r ∷ [])) cs (λ m l u i. h m l u (Memᴰ.tail i)))

pub end_of_each : {xs cs : List ClaimRecord} → Each ClaimEnd xs cs → (n lo hi : ℕ) → Memᴰ (count n lo hi) cs → hi ≤ no_end
end_of_each none n lo hi i = absurd (Memᴰ.not-nil i)
end_of_each {xs} (more p e) n lo hi i =
    ⊎_elim (λ q. subst (ClaimEnd xs) (sym q) p) (λ j. end_of_each e n lo hi j) (Memᴰ.cases_cons i)

claim_end : (names : ℕ) (cs : List ClaimRecord) (b : List ℕ) → Bytes b → Pass (claim_tests names cs b) → ClaimEnd cs (claim_of b)
claim_end names cs b k p =
    claim_cases names cs b p (λ e f. rw (claim_count_law b e) (u16_most b k 8)) (λ j e f. rw (claim_lists b j e) tt)

-- what was read is within the limits
pub read_within : (b : List ℕ) → Bytes b → (d : Records) → read_sheet b ≡ read d → SheetWithin d
read_within b k d e =
    let s = sheet_read b d e in
    let g = kept_read Bytes bytes_after (bytes_after b k) s.groups in
    let n = kept_read Bytes bytes_after g s.names in
    record {
      right = read_right b d e;
      group_ends = each_read Bytes bytes_after group_end (bytes_after b k) s.groups;
      claim_ends = end_of_each (each_read Bytes bytes_after (claim_end (length d.names)) n s.claims);
    }

pub end_at : {d : Records} → SheetWithin d → (i : ℕ) (z : GroupRecord) → i < length d.groups
    → (get_or d.groups i z).hi ≤ no_end
end_at w i z l = each_at w.group_ends i z l

-- at most sheet_limit bytes are readable
group_bytes_law : (gs : List GroupRecord) (b : List ℕ) → Pass (group_tests gs b) → length_of b + 2 ≤ group_bytes
group_bytes_law gs b p = omega (arith, group_frame gs b p)

name_bytes_law : (e : Edition) (groups : ℕ) (ns : List NameRecord) (b : List ℕ) → Pass (name_tests e groups ns b)
    → length_of b + 2 ≤ name_bytes e
name_bytes_law e groups ns b p = omega (arith, name_frame e groups ns b p)

claim_bytes_law : (names : ℕ) (cs : List ClaimRecord) (b : List ℕ) → Pass (claim_tests names cs b) → length_of b + 2 ≤ claim_bytes
claim_bytes_law names cs b p =
    claim_cases names cs b p (λ e f. omega arith) (λ k e f. omega arith)

pub readable_length : (b : List ℕ) (d : Records) → read_sheet b ≡ read d → length b ≤ sheet_limit d.edition
unfolding after
readable_length b d e =
    let s = sheet_read b d e in
    let right = read_right b d e in
    omega (
      arith,
      reads_length group_bytes group_bytes_law s.groups,
      reads_length (name_bytes d.edition) (name_bytes_law d.edition (length d.groups)) s.names,
      reads_length claim_bytes (claim_bytes_law (length d.names)) s.claims,
      mul-le-mul_left (name_bytes d.edition) right.name_count,
      length-drop (length_of b + 2) b,
    )
