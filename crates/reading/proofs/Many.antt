-- Laws of reading many records of one sort: what is left from a place on, and what the tables hold after one more.
use Prim.Native.Nat.{ℕ, ◌+◌, ◌-◌, suc, ◌≤◌, ◌<◌}
use mathlib.Core.Path.{◌≡◌, sym, ◌∙◌, ap}
use mathlib.Core.Bool.{Bool, true, false}
use mathlib.Core.List.{List, [], ◌∷◌, ◌++◌}
use mathlib.Core.Logic.{⊎_elim}
use native.Mathlib.Omega.{arith}
use native.Mathlib.Numerals.{add-one}
use native.Mathlib.Nat.{add-zero, eq-or-lt_of_le}
use borrow.Author.Tests.{ne_eqb}
use lib.ListN.{take, drop, length, get_or, set}
use lib.Seq.{drop-drop, get_or-set_same, get_or-set_other, get_or-take}
use Rattle.std.proofs.lemmas.List.{length-take-le}
use Rattle.std.specs.Prelude.{Ok, Err, Option, None}
use Rattle.wire.specs.declared.refusals.Refusal.{Refusal}
use Rattle.wire.specs.Refusals.{refusal_number}
use Rattle.tables.specs.declared.groups.GroupNo.{GroupNo}
use Rattle.tables.specs.Entry.{no_group}
use Rattle.claim_records.specs.declared.claim.Claim.{Claim}
use Rattle.tables.specs.declared.groups.Group.{Group}
use Rattle.records.specs.declared.record.Record.{Record}
use Rattle.records.specs.declared.record.Name.{Name}
use Rattle.laws.specs.Tabulate.{tabulate}
use Rattle.laws.proofs.TabulateLaws.{tabulate_same}
use Rattle.wire.specs.Edition.{Edition}
use Rattle.wire.specs.Bytes.{u16_at}
use Rattle.wire.specs.Record.{Test, Reading, after, refusal, onward}
use Rattle.wire.specs.SheetFormat.{Records, read_many, name_of, NameRecord, name_tests, used, group_of, group_tests, claim_of}
use Rattle.wire.specs.SheetFormat.{claim_tests}
use Rattle.wire.specs.Encoding.{encode_claim}
use Rattle.wire.proofs.Passing.{never_read}
use Rattle.wire.proofs.Fields.{length_at}
use Rattle.tables.specs.Groups.{groups_in, group_record}
use Rattle.tables.specs.Names.{Means}
use Rattle.tables.specs.RecordsIn.{records_in}
use Rattle.labels.specs.WholeName.{WholeName, AllWhole}
use Rattle.labels.specs.LabelHash.{Seen, AllSeen}
use Rattle.claim_records.specs.ClaimHeld.{claim_record, ClaimHeld}
use Rattle.claim_records.specs.ClaimTable.{claims_in, no_claim}
use Rattle.records.specs.Answers.{group, name, claim}
use Rattle.records.proofs.Fields.{name_apart, group_whole, refusal_nonzero}
use Rattle.records.proofs.Carried.{Handed, group_same, name_same, claim_same, claim_bytes_law}
use Rattle.reading.specs.Loaded.{goes_on, passed_as, Goes, AllGrouped, AllHeld}
use Rattle.records.specs.declared.record.Record.TheVariants as record_of

-- i of the records are the list xs, and reading what is left from the place `at` on is reading the whole
pub record Left {A : Type 0} (tests : List A → List ℕ → List Test) (value : List ℕ → A) (s : List ℕ) (from count first i at : ℕ)
    (xs : List A) : Type 0 where
  pub same : (rest : ℕ → List A → List ℕ → Reading Records) →
      read_many tests value rest (count - i) (first + i) xs (drop at s) ≡ read_many tests value rest count first [] (drop from s)

module _ {A : Type 0} (tests : List A → List ℕ → List Test) (value : List ℕ → A) (s : List ℕ) (from count first : ℕ) where
  pub left_start : Left tests value s from count first 0 from []
  left_start = record { same = λ rest. let e : count - 0 ≡ count = omega arith in rw (e, add-zero) }

  module _ (i at : ℕ) (xs : List A) (left : Left tests value s from count first i at xs) (h : i < count) where
    some_left : count - i ≡ suc (count - (i + 1))
    some_left = omega arith

    after_one : (len : ℕ) → u16_at s at + 2 ≡ len → after (drop at s) ≡ drop (at + len) s
    unfolding after
    after_one len e = rw (length_at s at, drop-drop, e)

    number : first + i + 1 ≡ first + (i + 1)
    number = omega arith

    one : (rest : ℕ → List A → List ℕ → Reading Records) → read_many tests value rest (count - i) (first + i) xs (drop at s)
        ≡ onward (refusal (tests xs (drop at s))) (first + i)
        (read_many tests value rest (count - (i + 1)) (first + (i + 1)) (xs ++ (value (drop at s) ∷ [])) (after (drop at s)))
    unfolding read_many
    one rest = rw (some_left, number)

    pub left_more : (len : ℕ) → refusal (tests xs (drop at s)) ≡ 0 → u16_at s at + 2 ≡ len →
        Left tests value s from count first (i + 1) (at + len) (xs ++ (value (drop at s) ∷ []))
    unfolding onward
    left_more len e l = record { same = λ rest. (rw (e, after_one len l) at (sym (one rest))) ∙ left.same rest }

    pub left_stop : (e : Refusal) (place : ℕ) (ys : List A) → refusal (tests xs (drop at s)) ≡ refusal_number e → place ≡ first + i →
        Goes tests value s from count first (Err (record { refusal = e; place = place })) ys
    unfolding onward goes_on passed_as
    left_stop e place ys f p = record {
      goes = λ rest. rw p ((rw (f, ne_eqb _ _ (refusal_nonzero e)) at (sym (one rest))) ∙ left.same rest);
      room = λ a f. never_read f;
    }

  pub left_done : (i at : ℕ) (xs : List A) → Left tests value s from count first i at xs → i ≡ count → at ≤ length s →
      Goes tests value s from count first (Ok at) xs
  unfolding read_many goes_on passed_as
  left_done i at xs left e l = record {
    goes = λ rest. (let z : count - i ≡ 0 = omega arith in rw (z, e) at (left.same rest));
    room = λ a f. let z : at ≡ a = cc in omega arith;
  }

-- one more entry of a table
tabulate_more : {A : Type 0} (f g : ℕ → A) (n : ℕ) (x : A) → ((i : ℕ) → i < n → f i ≡ g i) → f n ≡ x →
    tabulate f (n + 1) ≡ tabulate g n ++ (x ∷ [])
tabulate_more f g n x h e = rw (add-one, tabulate_same f g n h, e)

-- what holds of each of the first n entries holds of one more
each_more : (P Q : ℕ → Type 0) (n : ℕ) → ((i : ℕ) → i < n → P i) → ((i : ℕ) → i < n → P i → Q i) → Q n →
    (i : ℕ) → i < n + 1 → Q i
each_more P Q n before kept here i k =
    ⊎_elim (λ (e : suc i ≡ n + 1). let same : i ≡ n = omega arith in rw same here)
    (λ (m : suc i < n + 1). kept i (omega arith) (before i (omega arith)))
    (eq-or-lt_of_le k)

-- the records whose offsets are in a table
module _ (s offsets : List ℕ) (n x : ℕ) (h : n < length offsets) where
  offset_kept : (i : ℕ) → i < n → get_or (set offsets n x) i 0 ≡ get_or offsets i 0
  offset_kept i l = get_or-set_other offsets n i x 0 (omega arith)

  offset_put : get_or (set offsets n x) n 0 ≡ x
  offset_put = get_or-set_same offsets n x 0 h

  records_more : {A : Type 0} (value : List ℕ → A) →
      records_in value s (set offsets n x) (n + 1) ≡ records_in value s offsets n ++ (value (drop x s) ∷ [])
  unfolding records_in
  records_more value =
      tabulate_more _ _ n _ (λ i l. ap (λ p. value (drop p s)) (offset_kept i l)) (ap (λ p. value (drop p s)) offset_put)

  pub whole_more : AllWhole s offsets n → WholeName s x → AllWhole s (set offsets n x) (n + 1)
  whole_more before here = each_more _ _ n before (λ i l e. rw (offset_kept i l) e) (rw offset_put here)

  pub grouped_more : (names : List (Option GroupNo)) (g : Option GroupNo) → n < length names → AllGrouped s names offsets n →
      Means (name_of (drop x s)).group g → AllGrouped s (set names n g) (set offsets n x) (n + 1)
  grouped_more names g k before here =
      each_more _ _ n before (λ i l e. rw (offset_kept i l, get_or-set_other names n i g None (omega arith)) e)
      (rw (offset_put, get_or-set_same names n g None k) here)

  pub seen_more : (seen : List Bool) → AllSeen s seen offsets n → Seen seen (name_of (drop x s)).label →
      AllSeen s seen (set offsets n x) (n + 1)
  seen_more seen before here = each_more _ _ n before (λ i l e. rw (offset_kept i l) e) (rw offset_put here)

-- the first n offsets of a table, as a list of their own
module _ (s offsets : List ℕ) (n : ℕ) (h : n ≤ length offsets) where
  pub length_first : length (take n offsets) ≡ n
  length_first = length-take-le n offsets h

  pub first_whole : AllWhole s offsets n → AllWhole s (take n offsets) (length (take n offsets))
  first_whole w = rw length_first (λ j l. rw (get_or-take n offsets j 0 l) (w j l))

  pub first_seen : (seen : List Bool) → AllSeen s seen offsets n → AllSeen s seen (take n offsets) (length (take n offsets))
  first_seen seen w = rw length_first (λ j l. rw (get_or-take n offsets j 0 l) (w j l))

  pub seen_first : (seen : List Bool) → AllSeen s seen (take n offsets) (length (take n offsets)) → AllSeen s seen offsets n
  seen_first seen w = λ j l. rw (get_or-take n offsets j 0 l) at ((rw length_first at w) j l)

  pub first_records : {A : Type 0} (value : List ℕ → A) →
      records_in value s (take n offsets) (length (take n offsets)) ≡ records_in value s offsets n
  unfolding records_in
  first_records value = rw length_first (tabulate_same _ _ n (λ i l. ap (λ p. value (drop p s)) (get_or-take n offsets i 0 l)))

-- one more entry of a table
module _ {A : Type 0} (d : A) (t : List A) (n : ℕ) (x : A) (h : n < length t) where
  entry_kept : (i : ℕ) → i < n → get_or (set t n x) i d ≡ get_or t i d
  entry_kept i l = get_or-set_other t n i x d (omega arith)

  entry_put : get_or (set t n x) n d ≡ x
  entry_put = get_or-set_same t n x d h

-- the groups
groups_more : (t : List Group) (n : ℕ) (g : Group) → n < length t → groups_in (set t n g) (n + 1) ≡ groups_in t n ++ (group_record g ∷ [])
unfolding groups_in
groups_more t n g h =
    tabulate_more _ _ n _ (λ i l. ap group_record (entry_kept no_group t n g h i l)) (ap group_record (entry_put no_group t n g h))

-- the claims
module _ (claims : List Claim) (n : ℕ) (c : Claim) (h : n < length claims) where
  claims_more : (s : List ℕ) → claims_in s (set claims n c) (n + 1) ≡ claims_in s claims n ++ (claim_record s c ∷ [])
  unfolding claims_in
  claims_more s =
      tabulate_more _ _ n _ (λ i l. ap (claim_record s) (entry_kept no_claim claims n c h i l)) (ap (claim_record s) (entry_put no_claim claims n c h))

  pub held_more : (s : List ℕ) (names : ℕ) → AllHeld s names claims n → ClaimHeld s names c → AllHeld s names (set claims n c) (n + 1)
  held_more s names before here =
      each_more _ _ n before (λ i l e. rw (entry_kept no_claim claims n c h i l) e) (rw (entry_put no_claim claims n c h) here)

-- a name's tests, its label's use set apart
pub name_alone : (v : Edition) (groups : ℕ) (f : Refusal) (ns : List NameRecord) (b : List ℕ) →
    refusal (name_tests v groups [] b) ≡ refusal_number f → refusal (name_tests v groups ns b) ≡ refusal_number f
name_alone v groups f ns b e = rw (name_apart v groups ns b, e, ne_eqb _ _ (refusal_nonzero f))

pub name_used : (v : Edition) (groups : ℕ) (ns : List NameRecord) (b : List ℕ) → refusal (name_tests v groups [] b) ≡ 0 →
    used ns (name_of b).label ≡ true → refusal (name_tests v groups ns b) ≡ 6
name_used v groups ns b e f = rw (name_apart v groups ns b, e, f)

-- one more group, name or claim, as the loops store it
pub group_again : {s : List ℕ} (t : List Group) {from count i at : ℕ} {x : Record} {g : Group} →
    Left group_tests group_of s from count 2 i at (groups_in t i) → i < count → i < length t →
    Handed (group_tests (groups_in t i)) (λ b. group (group_of b)) s at x → x ≡ record_of.Group g →
    Left group_tests group_of s from count 2 (i + 1) (at + 12) (groups_in (set t i g) (i + 1))
group_again {s} t {from} {count} {i} {at} {x} {g} left h room w e =
    let l = group_whole s at (groups_in t i) w.pass in
    rw (groups_more t i g room, group_same w e)
    (left_more group_tests group_of s from count 2 i at (groups_in t i) left h 12 w.pass (omega arith))

pub name_again : {s : List ℕ} (offsets : List ℕ) (v : Edition) (groups : ℕ) {from count i at : ℕ} {x : Record} {n : Name} →
    Left (name_tests v groups) name_of s from count (2 + groups) i at (records_in name_of s offsets i) → i < count → i < length offsets →
    Handed (name_tests v groups []) (λ b. name (name_of b)) s at x → x ≡ record_of.Name n → WholeName s at →
    used (records_in name_of s offsets i) (name_of (drop at s)).label ≡ false →
    Left (name_tests v groups) name_of s from count (2 + groups) (i + 1) (at + (6 + n.bytes)) (records_in name_of s (set offsets i at) (i + 1))
name_again {s} offsets v groups {from} {count} {i} {at} {x} {n} left h room w e k f =
    let z : refusal (name_tests v groups (records_in name_of s offsets i) (drop at s)) ≡ 0 =
    rw (name_apart v groups (records_in name_of s offsets i) (drop at s), w.pass, f) in
    let y = (name_same w e k).1 in
    rw (records_more s offsets i at room name_of)
    (left_more (name_tests v groups) name_of s from count (2 + groups) i at (records_in name_of s offsets i) left h (6 + n.bytes) z
    (omega arith))

pub claim_again : (names : ℕ) {s : List ℕ} (claims : List Claim) {from count first i at bytes : ℕ} {x : Record} {c : Claim} →
    Left (claim_tests names) claim_of s from count first i at (claims_in s claims i) → i < count → i < length claims →
    Handed (claim_tests names []) (λ b. claim (claim_of b)) s at x → x ≡ record_of.Claim c →
    bytes ≡ length (encode_claim (claim_record s c)) →
    Left (claim_tests names) claim_of s from count first (i + 1) (at + bytes) (claims_in s (set claims i c) (i + 1))
unfolding claim_tests
claim_again names {s} claims {from} {count} {first} {i} {at} {bytes} {c = c} left h room w e b =
    rw (claims_more claims i c room s, claim_same w e)
    (left_more (claim_tests names) claim_of s from count first i at (claims_in s claims i) left h bytes w.pass
    (sym (claim_bytes_law names w e b)))
