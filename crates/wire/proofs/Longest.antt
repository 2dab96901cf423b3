-- The longest readable sheet of an edition (document 01, "Records of a sheet"; document 02, card 5) has `sheet_limit` bytes: 6,924 in
-- edition 1, 10,508 in edition 2. It has all groups, all names with labels of the greatest length, and all claims with two full lists.
use Prim.Native.Nat.{ℕ, ◌≤◌, zero, suc, ◌<◌, ◌+◌, ◌-◌, ◌/◌, ◌%◌}
use mathlib.Core.Path.{◌≡◌, sym, subst, refl}
use mathlib.Core.Bool.{true, false, Bool, ◌&&◌}
use mathlib.Core.List.{List, [], ◌∷◌, ◌++◌, append-nil, append_assoc, flat_map}
use native.Mathlib.Omega.{arith}
use lib.ListN.{length, replicate, length-replicate}
use lib.Dec.{eqb, ltb}
use borrow.Author.Tests.{ne_eqb, le-leb, lt-ltb, eqb-true, ltb-true}
use Rattle.laws.specs.Tabulate.{tabulate}
use Rattle.laws.proofs.Cases.{split, and_true}
use Rattle.laws.proofs.TabulateLaws.{length_tabulate}
use Rattle.wire.specs.Limits.{list_limit, name_limit, claim_limit}
use Rattle.wire.specs.Edition.{Edition, label_limit, group_limit, edition1, edition2, edition_number}
use Rattle.wire.specs.Capacity.{sheet_limit}
use Rattle.wire.specs.Bytes.{le16}
use Rattle.wire.specs.Record.{read}
use Rattle.wire.specs.SheetFormat.{Records, read_sheet, GroupRecord, NameRecord, inside, ClaimRecord, lists, parent_allowed, all_within, label_byte}
use Rattle.wire.specs.SheetFormat.{label_bytes, same_label, used, list_number}
use Rattle.wire.specs.Encoding.{Bytes, Each, none, more, GroupRight, ListRight, NameRight, SheetWithin, encode_record, encode_head, encode_group}
use Rattle.wire.specs.Encoding.{encode_name, encode_claim, encode_sheet}
use Rattle.wire.proofs.EditionFacts.{labels_long, groups_many}
use Rattle.wire.proofs.Sorts.{used_snoc}
use Rattle.wire.proofs.Facts.{end_of_each, readable_length}
use Rattle.wire.proofs.RoundTripSheet.{read_encoded_sheet}

-- a readable sheet of edition e, and no readable sheet of e is longer
pub record Longest (e : Edition) : Type 0 where
  pub sheet : List ℕ
  pub records : Records
  pub bytes : Bytes sheet
  pub reads : read_sheet sheet ≡ read records
  pub edition : records.edition ≡ e
  pub size : length sheet ≡ sheet_limit e
  pub most : (b : List ℕ) (d : Records) → read_sheet b ≡ read d → d.edition ≡ e → length b ≤ length sheet

-- items each of which is right after those before it, with one item more; the first values of a function
each_last : {A : Type 0} {P : List A → A → Type 0} {xs ys : List A} (y : A) → Each P xs ys → P (xs ++ ys) y → Each P xs (ys ++ (y ∷ []))
each_last {P = P} {xs} y none p = more (subst (λ us. P us y) (append-nil xs) p) none
each_last {P = P} y (more {xs} {ys} {y = z} q e) p = more q (each_last y e (subst (λ us. P us y) (sym (append_assoc xs (z ∷ []) ys)) p))

each_tabulate : {A : Type 0} {P : List A → A → Type 0} (f : ℕ → A) (n : ℕ) → ((k : ℕ) → k < n → P (tabulate f k) (f k))
    → Each P [] (tabulate f n)
each_tabulate f zero right = none
each_tabulate f (suc n) right = each_last (f n) (each_tabulate f n (λ k l. right k (omega arith))) (right n (omega arith))

-- Each group is the son of the one before it; names are for the empty set, and their labels differ in the first two bytes.
abbrev group : ℕ → GroupRecord
group i = record { parent = i; lo = 0; hi = 0; mode = 0 }

abbrev label : Edition → ℕ → List ℕ
label e i = (65 + i / 16) ∷ (65 + i % 16) ∷ replicate (label_limit e - 2) 65

abbrev name : Edition → ℕ → NameRecord
name e i = record { group = 0; label = label e i }

abbrev claim : ℕ → ClaimRecord
claim i = lists inside (replicate list_limit 1) (replicate list_limit 1)

abbrev longest : Edition → Records
longest e = record {
  edition = e;
  groups = tabulate group (group_limit e);
  names = tabulate (name e) name_limit;
  claims = tabulate claim claim_limit;
}

parent_allowed_law : (i : ℕ) → parent_allowed (i + 1) i ≡ true
unfolding parent_allowed
parent_allowed_law zero = refl
parent_allowed_law (suc i) =
    rw (ne_eqb (suc i + 1) 1 (λ z. omega arith), le-leb 1 (suc i) (omega arith), lt-ltb (suc i) (suc i + 1) (omega arith))

group_right : (i : ℕ) → GroupRight (tabulate group i) (group i)
group_right i = record { parent = rw (length_tabulate group i) (parent_allowed_law i); lo = omega arith; mode = omega arith }

list_right : ListRight name_limit (replicate list_limit 1)
unfolding all_within
list_right = record { first = omega arith; last = omega arith; allowed = refl }

fill_bytes : (n : ℕ) → label_bytes (replicate n 65) ≡ true
unfolding label_bytes label_byte
fill_bytes zero = refl
fill_bytes (suc n) = fill_bytes n

label_bytes_law : (e : Edition) (i : ℕ) → i < name_limit → label_bytes (label e i) ≡ true
unfolding label_bytes label_byte
label_bytes_law e i l =
    rw (
      le-leb 65 (65 + i / 16) (omega arith),
      le-leb (65 + i / 16) 90 (omega arith),
      le-leb 65 (65 + i % 16) (omega arith),
      le-leb (65 + i % 16) 90 (omega arith),
    ) (fill_bytes (label_limit e - 2))

labels_differ : (e : Edition) (i j : ℕ) → i < j → same_label (label e i) (label e j) ≡ false
unfolding same_label
labels_differ e i j l =
    split (eqb (65 + i / 16) (65 + j / 16))
    (λ t. let same = eqb-true (65 + i / 16) (65 + j / 16) t in rw (t, ne_eqb (65 + i % 16) (65 + j % 16) (λ z. omega arith)))
    (λ t. rw t)

label_new : (e : Edition) (n j : ℕ) → n ≤ j → used (tabulate (name e) n) (label e j) ≡ false
unfolding used
label_new e zero j l = refl
label_new e (suc n) j l =
    rw (used_snoc (tabulate (name e) n) (name e n) (label e j), label_new e n j (omega arith), labels_differ e n j (omega arith))

name_right : (e : Edition) (groups i : ℕ) → i < name_limit → NameRight e groups (tabulate (name e) i) (name e i)
name_right e groups i l = record {
  group = omega arith;
  first = omega arith;
  last = omega (arith, length-replicate {A = ℕ} (label_limit e - 2) 65, labels_long e);
  bytes = label_bytes_law e i l;
  new = label_new e i i (omega arith);
}

longest_within : (e : Edition) → SheetWithin (longest e)
longest_within e = record {
  right = record {
    some_group = omega (arith, length_tabulate group (group_limit e), groups_many e);
    group_count = omega (arith, length_tabulate group (group_limit e));
    name_count = omega (arith, length_tabulate (name e) name_limit);
    claim_count = omega (arith, length_tabulate claim claim_limit);
    groups = each_tabulate group (group_limit e) (λ i l. group_right i);
    names = each_tabulate (name e) name_limit (name_right e _);
    claims = rw (length_tabulate (name e) name_limit) (each_tabulate claim claim_limit (λ i l. (list_right, list_right)));
  };
  group_ends = each_tabulate group (group_limit e) (λ i l. omega arith);
  claim_ends = end_of_each (each_tabulate claim claim_limit (λ i l. tt));
}

-- every number is a byte, as a test
unfoldable all_bytes : List ℕ → Bool
all_bytes [] = true
all_bytes (x ∷ b) = ltb x 256 && all_bytes b

bytes_all : (b : List ℕ) → all_bytes b ≡ true → Bytes b
unfolding all_bytes
bytes_all [] h i = omega arith
bytes_all (x ∷ b) h zero = ltb-true x 256 (and_true (ltb x 256) (all_bytes b) h).0
bytes_all (x ∷ b) h (suc i) = bytes_all b (and_true (ltb x 256) (all_bytes b) h).1 i

-- computed from the bytes, in each edition
longest_written : (e : Edition) → (length (encode_sheet (longest e)) ≡ sheet_limit e) × (all_bytes (encode_sheet (longest e)) ≡ true)
unfolding edition_number group_limit label_limit flat_map le16 list_number encode_record encode_head encode_group encode_name encode_claim encode_sheet all_bytes
longest_written edition1 = (refl, refl)
longest_written edition2 = (refl, refl)

pub longest_readable : (e : Edition) → Longest e
longest_readable e =
    let written = longest_written e in
    record {
      sheet = encode_sheet (longest e);
      records = longest e;
      bytes = bytes_all (encode_sheet (longest e)) written.1;
      reads = read_encoded_sheet (longest e) (longest_within e);
      edition = refl;
      size = written.0;
      most = λ b d r same. rw (written.0, ← same) (readable_length b d r);
    }

pub longest_bytes : (sheet_limit edition1 ≡ 6924) × (sheet_limit edition2 ≡ 10508)
unfolding group_limit label_limit
longest_bytes = (refl, refl)
