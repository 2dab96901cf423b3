-- Each sort of record of a sheet: an encoded record that is right passes its tests and is read with what follows it, and a
-- record that passes is the encoding of its value.
use Prim.Native.Nat.{ℕ, ◌+◌, ◌*◌, ◌≤◌, ◌<◌, ◌-◌, zero, suc, ◌%◌}
use mathlib.Core.Path.{◌≡◌, sym, ◌∙◌, refl}
use mathlib.Core.Bool.{true, ◌&&◌}
use mathlib.Core.List.{List, ◌++◌, flat_map, [], ◌∷◌, append_assoc}
use native.Mathlib.Omega.{arith}
use native.Mathlib.Nat.{zero-add, add-zero, suc-add}
use lib.ListN.{length, take, drop, take-append-drop, length-append}
use lib.Seq.{drop-drop, take-append_seam}
use lib.Dec.{leb}
use borrow.Author.Tests.{le-leb, eq-eqb, leb-true, ne_eqb}
use Rattle.laws.proofs.Cases.{and_true}
use Rattle.wire.specs.Limits.{list_limit, no_end, bound_limit, name_limit}
use Rattle.wire.specs.Edition.{Edition, label_limit, edition_number, edition_of}
use Rattle.wire.specs.Capacity.{group_capacity}
use Rattle.wire.specs.Bytes.{le16, u16_at}
use Rattle.wire.specs.Record.{length_of, kind_of, after, framed, Test}
use Rattle.wire.specs.SheetFormat.{u16s, last_claim, GroupRecord, group_tests, group_of, NameRecord, name_tests, name_of, left_of, right_of, count}
use Rattle.wire.specs.SheetFormat.{list_number, ClaimRecord, claim_tests, claim_of, all_within, claim_length, claim_fields, claim_names, lists}
use Rattle.wire.specs.SheetFormat.{HeadRecord, Records, head_tests, head_of}
use Rattle.wire.specs.Encoding.{encode_record, Bytes, encode_group, GroupRight, encode_name, NameRight, encode_claim, ListRight, ClaimRight, Right}
use Rattle.wire.specs.Encoding.{encode_head}
use Rattle.wire.proofs.EditionFacts.{name_fits, edition_back, edition_fits}
use Rattle.wire.proofs.Passing.{Pass}
use Rattle.wire.proofs.Sorts.{Framed, length_u16s, group_frame, name_frame, length_label, ListsFrame, claim_cases, claim_frame, claim_count_law}
use Rattle.wire.proofs.Sorts.{claim_lists, list_within, HeadRight}
use Rattle.wire.proofs.Facts.{parent_right, ClaimEnd, right_few}
use Rattle.wire.proofs.Fields.{Fields, u16s_drop, u16s_le16s, length_le16s, length_encoded, kind_encoded, body_encoded, after_encoded}
use Rattle.wire.proofs.Fields.{framed_encoded, drop_le16s, encode_read, none, more, length_le16, drop_le16}

-- A record whose body is fields of two bytes.
pub record FieldsOf (b : List ℕ) (kind : ℕ) (xs c : List ℕ) : Type 0 where
  pub frame : framed b ≡ true
  pub kind_is : kind_of b ≡ kind
  pub size : length_of b ≡ 2 * length xs + 2
  pub rest : after b ≡ c
  pub fields : u16s b 4 (length xs) ≡ xs

fields_encoded : (kind : ℕ) {xs : List ℕ} → kind ≤ last_claim → length xs ≤ 2 + (list_limit + list_limit) → Fields xs → (c : List ℕ)
    → FieldsOf (encode_record kind (flat_map le16 xs) ++ c) kind xs c
fields_encoded kind {xs} k l f c =
    let n = length_le16s xs in
    record {
      frame = framed_encoded kind (flat_map le16 xs) c (omega arith) (omega arith);
      kind_is = kind_encoded kind (flat_map le16 xs) c (omega arith) (omega arith);
      size = rw (← n) (length_encoded kind (flat_map le16 xs) c (omega arith) (omega arith));
      rest = after_encoded kind (flat_map le16 xs) c (omega arith) (omega arith);
      fields =
          sym (u16s_drop 4 (encode_record kind (flat_map le16 xs) ++ c) 0 (length xs))
          ∙ rw (body_encoded kind (flat_map le16 xs) c (omega arith) (omega arith)) (u16s_le16s f c);
    }

pub fields_read : (b : List ℕ) → Bytes b → Framed b → (n : ℕ) → length_of b ≡ 2 * n + 2 → (kind : ℕ) → kind_of b ≡ kind
    → encode_record kind (flat_map le16 (u16s b 4 n)) ++ after b ≡ b
unfolding after
fields_read b k f n l kind e =
    let size = length_le16s (u16s b 4 n) in
    let same : length_of b + 2 ≡ 4 + 2 * n = omega arith in
    rw (← e)
    (encode_read b k f (flat_map le16 (u16s b 4 n)) (rw same (drop_le16s b k 4 n (omega arith))) (omega (arith, length_u16s b 4 n)))

-- groups
group_fields_law : (g : GroupRecord) → Fields (g.parent ∷ g.lo ∷ g.hi ∷ g.mode ∷ []) → (c : List ℕ)
    → FieldsOf (encode_group g ++ c) 2 (g.parent ∷ g.lo ∷ g.hi ∷ g.mode ∷ []) c
unfolding encode_group
group_fields_law g f c = fields_encoded 2 (omega arith) (omega arith) f c

group_passes : (gs : List GroupRecord) (b : List ℕ) → framed b ≡ true → kind_of b ≡ 2 → length_of b ≡ 10 → GroupRight gs (group_of b)
    → Pass (group_tests gs b)
unfolding group_tests group_of
group_passes gs b f k l R =
    (f, (eq-eqb _ _ k, (eq-eqb _ _ l, (rw (le-leb _ _ R.lo, le-leb _ _ R.mode), (R.parent, tt)))))

group_value : (b : List ℕ) (g : GroupRecord) → u16s b 4 4 ≡ g.parent ∷ g.lo ∷ g.hi ∷ g.mode ∷ [] → group_of b ≡ g
unfolding u16s group_of
group_value b g e =
    let p : u16_at b 4 ≡ g.parent = cc in
    let l : u16_at b 6 ≡ g.lo = cc in
    let h : u16_at b 8 ≡ g.hi = cc in
    let m : u16_at b 10 ≡ g.mode = cc in
    rw (p, l, h, m)

pub group_back : (gs : List GroupRecord) (b : List ℕ) → Bytes b → Pass (group_tests gs b) → encode_group (group_of b) ++ after b ≡ b
unfolding encode_group group_of u16s
group_back gs b k p =
    let f = group_frame gs b p in
    fields_read b k f.frame 4 f.size 2 f.kind

-- what `many_encoded` asks of a sort of record
abbrev pub Good : {A : Type 0} → (List ℕ → List Test) → (List ℕ → A) → A → List ℕ → List ℕ → Type 0
Good tests value y b c = Pass (tests b) × (value b ≡ y) × (after b ≡ c)

pub group_good : (gs : List GroupRecord) (g : GroupRecord) (c : List ℕ)
    → GroupRight gs g → g.hi ≤ no_end → length gs < group_capacity → Good (group_tests gs) group_of g (encode_group g ++ c) c
group_good gs g c R e l =
    let p = parent_right (length gs) g.parent R.parent in
    let f = group_fields_law g (more (omega arith) (more (omega arith) (more e (more (omega arith) none)))) c in
    let v = group_value (encode_group g ++ c) g f.fields in
    (group_passes gs (encode_group g ++ c) f.frame f.kind_is f.size (rw v R), v, f.rest)

-- names
pub name_back : (e : Edition) (groups : ℕ) (ns : List NameRecord) (b : List ℕ) → Bytes b → Pass (name_tests e groups ns b)
    → encode_name (name_of b) ++ after b ≡ b
unfolding encode_name name_of after
name_back e groups ns b k p =
    let f = name_frame e groups ns b p in
    let l = length_label e b f in
    let same : length_of b + 2 ≡ 6 + (length_of b - 4) = omega arith in
    let tail : take (length_of b - 4) (drop 6 b) ++ drop (length_of b + 2) b ≡ drop 6 b =
    rw (same, ← drop-drop (length_of b - 4) 6 b) (take-append-drop (length_of b - 4) (drop 6 b)) in
    rw (← f.kind)
    (encode_read b k f.frame (le16 (u16_at b 4) ++ take (length_of b - 4) (drop 6 b))
    (rw (append_assoc, tail) (drop_le16 b k 4 (omega arith)))
    (omega (arith, length_le16 (u16_at b 4) (take (length_of b - 4) (drop 6 b)))))

module _ (e : Edition) (groups : ℕ) (ns : List NameRecord) (n : NameRecord) (c : List ℕ) (R : NameRight e groups ns n)
    (most : groups ≤ group_capacity) where
  name_size : length (le16 n.group ++ n.label) ≡ 2 + length n.label
  name_size = length_le16 n.group n.label

  name_group_law : u16_at (encode_name n ++ c) 4 ≡ n.group
  unfolding encode_name encode_record le16 u16_at
  name_group_law = omega (arith, R.group)

  name_label : drop 6 (encode_name n ++ c) ≡ n.label ++ c
  unfolding encode_name encode_record le16
  name_label = refl

  name_length : length_of (encode_name n ++ c) ≡ length n.label + 4
  unfolding encode_name
  name_length =
      let fits : length (le16 n.group ++ n.label) + 2 ≤ no_end = omega (arith, R.last, name_fits e, name_size) in
      omega (arith, name_size, length_encoded 3 (le16 n.group ++ n.label) c (omega arith) fits)

  name_value : name_of (encode_name n ++ c) ≡ n
  unfolding name_of
  name_value =
      let size : length n.label + 4 - 4 ≡ length n.label = omega arith in
      rw (name_group_law, name_label, name_length, size, take-append_seam n.label c)

  name_framed : (framed (encode_name n ++ c) ≡ true) × (kind_of (encode_name n ++ c) ≡ 3) × (after (encode_name n ++ c) ≡ c)
  unfolding encode_name
  name_framed =
      let body = le16 n.group ++ n.label in
      let fits : length body + 2 ≤ no_end = omega (arith, R.last, name_fits e, name_size) in
      let small : 3 ≤ no_end = omega arith in
      (framed_encoded 3 body c small fits, kind_encoded 3 body c small fits, after_encoded 3 body c small fits)

  name_passes : Pass (name_tests e groups ns (encode_name n ++ c))
  unfolding name_tests
  name_passes =
      let f = name_framed in
      let v = name_value in
      let least : 5 ≤ length n.label + 4 = omega (arith, R.first) in
      let most : length n.label + 4 ≤ label_limit e + 4 = omega (arith, R.last) in (
        f.0,
        (
          eq-eqb _ _ f.1,
          (
            rw (name_length, le-leb _ _ least, le-leb _ _ most),
            (rw v R.bytes, (rw name_group_law (le-leb _ _ R.group), (rw (v, R.new), tt))),
          ),
        ),
      )

  pub name_good : Good (name_tests e groups ns) name_of n (encode_name n ++ c) c
  name_good = (name_passes, name_value, name_framed.2)

-- claims: the fields of two lists
u16s_append : (b : List ℕ) (i m n : ℕ) → u16s b i (m + n) ≡ u16s b i m ++ u16s b (i + 2 * m) n
unfolding u16s
u16s_append b i zero n = rw (zero-add n, add-zero i)
u16s_append b i (suc m) n =
    let same : i + 2 * suc m ≡ i + 2 + 2 * m = omega arith in
    rw (suc-add m n, u16s_append b (i + 2) m n, same)

-- the fields of a claim of kinds 5 to 7
abbrev list_fields : List ℕ → List ℕ → List ℕ
list_fields l r = length l ∷ length r ∷ l ++ r

lists_fields : (b : List ℕ) → list_fields (left_of b) (right_of b) ≡ u16s b 4 (suc (suc (u16_at b 4 + u16_at b 6)))
unfolding left_of right_of u16s
lists_fields b =
    rw (length_u16s b 8 (u16_at b 4), length_u16s b (8 + 2 * u16_at b 4) (u16_at b 6), u16s_append b 8 (u16_at b 4) (u16_at b 6))

lists_back : (names : ℕ) (b : List ℕ) → Bytes b → Framed b → ListsFrame names b → (kind : ℕ) → kind_of b ≡ kind
    → encode_record kind (flat_map le16 (list_fields (left_of b) (right_of b))) ++ after b ≡ b
lists_back names b k f s kind e =
    rw (lists_fields b) (fields_read b k f (suc (suc (u16_at b 4 + u16_at b 6))) (omega arith) kind e)

count_back : (b : List ℕ) → Bytes b → Framed b → length_of b ≡ 8 → kind_of b ≡ 4
    → encode_claim (count (u16_at b 4) (u16_at b 6) (u16_at b 8)) ++ after b ≡ b
unfolding encode_claim u16s
count_back b k f l e = fields_read b k f 3 l 4 e

pub claim_back : (names : ℕ) (cs : List ClaimRecord) (b : List ℕ) → Bytes b → Pass (claim_tests names cs b)
    → encode_claim (claim_of b) ++ after b ≡ b
unfolding encode_claim
claim_back names cs b k p =
    let f = claim_frame names cs b p in
    claim_cases names cs b p (λ e s. rw (claim_count_law b e) (count_back b k f s.size e))
    (λ j e s. rw (claim_lists b j e) (lists_back names b k f s (list_number j) e))

-- names of claims fit two bytes
within_fields : (n : ℕ) (xs : List ℕ) → n ≤ no_end → all_within n xs ≡ true → Fields xs
unfolding all_within
within_fields n [] l h = none
within_fields n (x ∷ xs) l h =
    let s = and_true (leb 1 x && leb x n) (all_within n xs) h in
    let t = leb-true x n (and_true (leb 1 x) (leb x n) s.0).1 in
    let fits : x ≤ no_end = omega arith in
    more fits (within_fields n xs l s.1)

fields_append : {xs ys : List ℕ} → Fields xs → Fields ys → Fields (xs ++ ys)
fields_append none g = g
fields_append (more l f) g = more l (fields_append f g)

append_same : (xs us : List ℕ) {ys vs : List ℕ} → length xs ≡ length us → xs ++ ys ≡ us ++ vs → (xs ≡ us) × (ys ≡ vs)
append_same [] [] l e = (refl, e)
append_same (x ∷ xs) (u ∷ us) {ys} {vs} l e =
    let head : x ≡ u = cc in
    let tail : xs ++ ys ≡ us ++ vs = cc in
    let s = append_same xs us (omega arith) tail in
    (rw (head, s.0), s.1)
append_same [] (u ∷ us) l e = absurd (omega arith)
append_same (x ∷ xs) [] l e = absurd (omega arith)

-- what an encoded claim of kinds 5 to 7 has
record ListsOf (b : List ℕ) (l r : List ℕ) : Type 0 where
  pub lefts : u16_at b 4 ≡ length l
  pub rights : u16_at b 6 ≡ length r
  pub left : left_of b ≡ l
  pub right : right_of b ≡ r

lists_of : (b l r : List ℕ) → u16s b 4 (length (list_fields l r)) ≡ list_fields l r → ListsOf b l r
unfolding u16s left_of right_of
lists_of b l r e =
    let m : u16_at b 4 ≡ length l = cc in
    let n : u16_at b 6 ≡ length r = cc in
    let both : u16s b 8 (length (l ++ r)) ≡ l ++ r = cc in
    let s = append_same (u16s b 8 (length l)) l (length_u16s b 8 (length l))
    (sym (u16s_append b 8 (length l) (length r)) ∙ rw (length-append l r) at both) in
    record { lefts = m; rights = n; left = rw m s.0; right = rw (m, n) s.1 }

lists_passes : (names : ℕ) (cs : List ClaimRecord) (b l r c : List ℕ) (kind : ℕ) → 5 ≤ kind → kind ≤ last_claim
    → FieldsOf b kind (list_fields l r) c → ListRight names l → ListRight names r → Pass (claim_tests names cs b)
unfolding claim_tests claim_length claim_fields claim_names
lists_passes names cs b l r c kind five last f L R =
    let s = lists_of b l r f.fields in
    let n = length-append l r in
    let other = ne_eqb kind 4 (omega arith) in
    let even : length_of b % 2 ≡ 0 = omega (arith, f.size) in
    let least : 10 ≤ length_of b = omega (arith, f.size, L.first, R.first) in
    let most : length_of b ≤ 6 + 2 * (list_limit + list_limit) = omega (arith, f.size, L.last, R.last) in
    let size : 6 + 2 * (length l + length r) ≡ length_of b = omega (arith, f.size) in (
      f.frame,
      (
        rw (f.kind_is, le-leb 4 kind (omega arith), le-leb kind last_claim last),
        (
          rw (f.kind_is, other, eq-eqb _ _ even, le-leb _ _ least, le-leb _ _ most),
          (
            rw (
              f.kind_is,
              other,
              s.lefts,
              s.rights,
              le-leb _ _ L.first,
              le-leb _ _ L.last,
              le-leb _ _ R.first,
              le-leb _ _ R.last,
              eq-eqb _ _ size,
            ),
            (rw (f.kind_is, other, s.left, s.right, L.allowed, R.allowed), tt),
          ),
        ),
      ),
    )

count_passes : (names : ℕ) (cs : List ClaimRecord) (b c : List ℕ) (n lo hi : ℕ) → FieldsOf b 4 (n ∷ lo ∷ hi ∷ []) c
    → (all_within names (n ∷ []) ≡ true) × (lo ≤ bound_limit) → Pass (claim_tests names cs b)
unfolding claim_tests claim_length claim_fields claim_names u16s
count_passes names cs b c n lo hi f R =
    let e = f.fields in
    let name : u16_at b 4 ≡ n = cc in
    let low : u16_at b 6 ≡ lo = cc in (
      f.frame,
      (
        rw f.kind_is,
        (
          rw (f.kind_is, eq-eqb _ _ f.size),
          (
            rw (f.kind_is, low, le-leb _ _ R.1),
            (rw (f.kind_is, name) R.0, tt),
          ),
        ),
      ),
    )

lists_encoded : (names : ℕ) (l r : List ℕ) → names ≤ name_limit → ListRight names l → ListRight names r
    → (kind : ℕ) → kind ≤ last_claim → (c : List ℕ) → FieldsOf (encode_record kind (flat_map le16 (list_fields l r)) ++ c) kind (list_fields l r) c
lists_encoded names l r most L R kind last c =
    let some : names ≤ no_end = omega arith in
    let fields = fields_append (within_fields names l some L.allowed) (within_fields names r some R.allowed) in
    let size : length (list_fields l r) ≤ 2 + (list_limit + list_limit) = omega (arith, length-append l r, L.last, R.last) in
    let first : length l ≤ no_end = omega (arith, L.last) in
    let second : length r ≤ no_end = omega (arith, R.last) in
    fields_encoded kind last size (more first (more second fields)) c

count_value : (b c : List ℕ) (n lo hi : ℕ) → FieldsOf b 4 (n ∷ lo ∷ hi ∷ []) c → claim_of b ≡ count n lo hi
unfolding u16s
count_value b c n lo hi f =
    let e = f.fields in
    let name : u16_at b 4 ≡ n = cc in
    let low : u16_at b 6 ≡ lo = cc in
    let high : u16_at b 8 ≡ hi = cc in
    rw (claim_count_law b f.kind_is, name, low, high)

pub claim_good : (names : ℕ) → names ≤ name_limit → (cs : List ClaimRecord) (x : ClaimRecord) (c : List ℕ)
    → ClaimRight names cs x → ClaimEnd cs x → Good (claim_tests names cs) claim_of x (encode_claim x ++ c) c
unfolding encode_claim
claim_good names most cs (count n lo hi) c R e =
    let low : lo ≤ no_end = omega (arith, R.1) in
    let fields = fields_append (within_fields names (n ∷ []) (omega arith) R.0) (more low (more e none)) in
    let f = fields_encoded 4 (omega arith) (omega arith) fields c in
    (count_passes names cs _ c n lo hi f R, count_value _ c n lo hi f, f.rest)
claim_good names most cs (lists k l r) c R e =
    let w = list_within k in
    let f = lists_encoded names l r most R.0 R.1 (list_number k) w.1 c in
    let s = lists_of _ l r f.fields in
    (lists_passes names cs _ l r c (list_number k) w.0 w.1 f R.0 R.1, claim_lists _ k f.kind_is ∙ rw (s.left, s.right), f.rest)

-- the head
abbrev pub head_for : Records → HeadRecord
head_for d = record { edition = d.edition; groups = length d.groups; names = length d.names; claims = length d.claims }

head_passes : (b c : List ℕ) (d : Records) → Right d
    → FieldsOf b 1 (edition_number d.edition ∷ length d.groups ∷ length d.names ∷ length d.claims ∷ []) c
    → Pass (head_tests b) × (head_of b ≡ head_for d)
unfolding head_tests head_of u16s
head_passes b c d R f =
    let e = f.fields in
    let number : u16_at b 4 ≡ edition_number d.edition = cc in
    let back = edition_back d.edition in
    let groups : u16_at b 6 ≡ length d.groups = cc in
    let names : u16_at b 8 ≡ length d.names = cc in
    let claims : u16_at b 10 ≡ length d.claims = cc in (
      (
        f.frame,
        (
          eq-eqb _ _ f.kind_is,
          (
            eq-eqb _ _ f.size,
            (
              rw (
                number,
                back,
                eq-eqb (edition_number d.edition) (edition_number d.edition) refl,
                groups,
                names,
                claims,
                le-leb _ _ R.some_group,
                le-leb _ _ R.group_count,
                le-leb _ _ R.name_count,
                le-leb _ _ R.claim_count,
              ),
              tt,
            ),
          ),
        ),
      ),
      rw (number, back, groups, names, claims),
    )

pub head_good : (d : Records) → Right d → (c : List ℕ) → Good head_tests head_of (head_for d) (encode_head d ++ c) c
unfolding encode_head
head_good d R c =
    let groups : length d.groups ≤ no_end = omega (arith, right_few R) in
    let names : length d.names ≤ no_end = omega (arith, R.name_count) in
    let claims : length d.claims ≤ no_end = omega (arith, R.claim_count) in
    let f = fields_encoded 1 (omega arith) (omega arith) (more (edition_fits d.edition) (more groups (more names (more claims none)))) c in
    let p = head_passes _ c d R f in
    (p.0, p.1, f.rest)

pub head_back : (b : List ℕ) → Bytes b → HeadRight b → (d : Records) → d.edition ≡ edition_of (u16_at b 4)
    → length d.groups ≡ u16_at b 6 → length d.names ≡ u16_at b 8 → length d.claims ≡ u16_at b 10
    → encode_head d ++ after b ≡ b
unfolding encode_head u16s
head_back b k h d edition groups names claims =
    rw (edition, ← h.edition, groups, names, claims) (fields_read b k h.frame 4 h.size 1 h.kind)
