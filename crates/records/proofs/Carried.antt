-- Laws of the readers' answers: what an answer says of the tests, which of the four sorts a record is, and what it carries.
use Prim.Native.Nat.{ℕ, ◌+◌, ◌-◌, ◌≤◌, ◌<◌}
use mathlib.Core.Path.{◌≡◌, ◌∙◌, refl, ap, sym}
use mathlib.Core.List.{List, []}
use native.Mathlib.Omega.{arith}
use borrow.Author.Tests.{ne_eqb, eqb-true}
use denote.Enum.Declared.{tag_of}
use lib.ListN.{drop, length, get_or, take, length-take, length-drop}
use lib.Seq.{ext_get_or, get_or-take, get_or-drop}
use lib.Dec.{eqb}
use Rattle.records.specs.declared.record.Record.{Record}
use Rattle.records.specs.contracts.record.Record.{the_type}
use Rattle.wire.specs.declared.refusals.Refusal.{Refusal}
use Rattle.claim_records.specs.declared.claim.Claim.{Claim}
use Rattle.records.specs.declared.record.Head.{Head}
use Rattle.tables.specs.declared.groups.Group.{Group}
use Rattle.tables.specs.declared.groups.GroupNo.{GroupNo}
use Rattle.tables.specs.Groups.{group_record}
use Rattle.records.specs.declared.record.Name.{Name}
use Rattle.std.specs.Prelude.{Option, Result, Ok, Err}
use Rattle.wire.specs.Refusals.{refusal_number}
use Rattle.laws.proofs.Cases.{split}
use Rattle.laws.proofs.TabulateLaws.{length_tabulate, get_d_tabulate}
use Rattle.wire.specs.Bytes.{u16_at}
use Rattle.wire.specs.Record.{kind_of, Test, refusal, onward, Reading, read, refused}
use Rattle.wire.specs.SheetFormat.{GroupRecord, NameRecord, head_of, group_of, name_of, claim_of, claim_tests}
use Rattle.wire.specs.Encoding.{encode_claim}
use Rattle.wire.proofs.Fields.{length_at}
use Rattle.records.proofs.Fields.{refusal_nonzero}
use Rattle.tables.specs.Names.{meant_number}
use Rattle.labels.specs.WholeName.{WholeName}
use Rattle.labels.proofs.Strings.{label_length, label_at}
use Rattle.claim_records.specs.ClaimHeld.{claim_record}
use Rattle.claim_records.proofs.ClaimBytes.{claim_length_law}
use Rattle.records.specs.Answers.{Value, record_as, answer_as, AnswerOf, head, group, name, claim, head_record, bytes_from}
use Rattle.records.specs.declared.record.Record.TheVariants as record_of

-- the record x was handed up: all tests passed, and it carries what stands there
pub record Handed (tests : List ℕ → List Test) (value : List ℕ → Value) (s : List ℕ) (at : ℕ) (x : Record) : Type 0 where
  pub pass : refusal (tests (drop at s)) ≡ 0
  pub carries : record_as s at x ≡ (kind_of (drop at s), value (drop at s))

-- the answer to the tests: the first that failed, or the record
module _ {tests : List ℕ → List Test} {value : List ℕ → Value} {s : List ℕ} {at : ℕ} where
  pub answer_refused : {e : Refusal} → refusal (tests (drop at s)) ≡ refusal_number e → AnswerOf tests value s at (Err e)
  unfolding answer_as onward
  answer_refused {e} h = record { says = λ k. rw (h, ne_eqb _ _ (refusal_nonzero e)) }

  pub answer_record : {x : Record} → refusal (tests (drop at s)) ≡ 0 → record_as s at x ≡ (kind_of (drop at s), value (drop at s)) →
      AnswerOf tests value s at (Ok x)
  unfolding answer_as onward
  answer_record e f = record { says = λ k. rw (e, f) }

-- what an answer says of the tests: a record that they all passed, a refusal the first that failed
module _ {tests : List ℕ → List Test} {value : List ℕ → Value} {s : List ℕ} {at : ℕ} {r : Result Record Refusal}
    (w : AnswerOf tests value s at r) where
  pub answered_record : {x : Record} → r ≡ Ok x → Handed tests value s at x
  unfolding answer_as onward
  answered_record {x} e =
      let q = rw e at (w.says 0) in
      split (eqb (refusal (tests (drop at s))) 0)
      (λ t. let z : read (record_as s at x) ≡ read (kind_of (drop at s), value (drop at s)) = rw t at q in
      record { pass = eqb-true _ _ t; carries = cc })
      (λ t. let z : read (record_as s at x) ≡ refused (refusal (tests (drop at s))) 0 = rw t at q in
      let y : ◌≡◌ {A = ℕ} 0 1 = cc in absurd (omega arith))

  pub answered_refusal : {e : Refusal} → r ≡ Err e → refusal (tests (drop at s)) ≡ refusal_number e
  unfolding answer_as onward
  answered_refusal {e} f =
      let q = rw f at (w.says 0) in
      split (eqb (refusal (tests (drop at s))) 0)
      (λ t. let z : refused (refusal_number e) 0 ≡ read (kind_of (drop at s), value (drop at s)) = rw t at q in
      let y : ◌≡◌ {A = ℕ} 0 1 = cc in absurd (omega arith))
      (λ t. let z : ◌≡◌ {A = Reading (ℕ × Value)} (refused (refusal_number e) 0) (refused (refusal (tests (drop at s))) 0) = rw t at q in cc)

-- which of the four sorts a record is
abbrev sort : Value → ℕ
sort (head h) = 0
sort (group g) = 1
sort (name n) = 2
sort (claim c) = 3

tag_sort : (s : List ℕ) (at : ℕ) (x : Record) → tag_of the_type x ≡ sort (record_as s at x).1
unfolding record_as
tag_sort s at (record_of.Head h) = refl
tag_sort s at (record_of.Group g) = refl
tag_sort s at (record_of.Name n) = refl
tag_sort s at (record_of.Claim c) = refl

sort_of : {tests : List ℕ → List Test} {value : List ℕ → Value} {s : List ℕ} {at : ℕ} {x : Record} → Handed tests value s at x →
    sort (record_as s at x).1 ≡ sort (value (drop at s))
sort_of w = ap (λ p. sort p.1) w.carries

pub tag_of_handed : {tests : List ℕ → List Test} {value : List ℕ → Value} {s : List ℕ} {at : ℕ} {x : Record} → Handed tests value s at x →
    tag_of the_type x ≡ sort (value (drop at s))
tag_of_handed {s = s} {at = at} {x = x} w = tag_sort s at x ∙ sort_of w

module _ (s : List ℕ) (at : ℕ) where
  some_head : (x : Record) → sort (record_as s at x).1 ≡ 0 → ((h : Head) → x ≡ record_of.Head h → ⊥) → ⊥
  unfolding record_as
  some_head (record_of.Head h) e f = f h refl
  some_head (record_of.Group g) e f = omega arith
  some_head (record_of.Name n) e f = omega arith
  some_head (record_of.Claim c) e f = omega arith

  some_group : (x : Record) → sort (record_as s at x).1 ≡ 1 → ((g : Group) → x ≡ record_of.Group g → ⊥) → ⊥
  unfolding record_as
  some_group (record_of.Head h) e f = omega arith
  some_group (record_of.Group g) e f = f g refl
  some_group (record_of.Name n) e f = omega arith
  some_group (record_of.Claim c) e f = omega arith

  some_name : (x : Record) → sort (record_as s at x).1 ≡ 2 → ((n : Name) → x ≡ record_of.Name n → ⊥) → ⊥
  unfolding record_as
  some_name (record_of.Head h) e f = omega arith
  some_name (record_of.Group g) e f = omega arith
  some_name (record_of.Name n) e f = f n refl
  some_name (record_of.Claim c) e f = omega arith

  some_claim : (x : Record) → sort (record_as s at x).1 ≡ 3 → ((c : Claim) → x ≡ record_of.Claim c → ⊥) → ⊥
  unfolding record_as
  some_claim (record_of.Head h) e f = omega arith
  some_claim (record_of.Group g) e f = omega arith
  some_claim (record_of.Name n) e f = omega arith
  some_claim (record_of.Claim c) e f = f c refl

-- a record that was handed up is one of the sort that was read
module _ {tests : List ℕ → List Test} {s : List ℕ} {at : ℕ} {x : Record} where
  pub head_handed : Handed tests (λ b. head (head_of b)) s at x → ((h : Head) → x ≡ record_of.Head h → ⊥) → ⊥
  head_handed w f = some_head s at x (sort_of w) f

  pub group_handed : Handed tests (λ b. group (group_of b)) s at x → ((g : Group) → x ≡ record_of.Group g → ⊥) → ⊥
  group_handed w f = some_group s at x (sort_of w) f

  pub name_handed : Handed tests (λ b. name (name_of b)) s at x → ((n : Name) → x ≡ record_of.Name n → ⊥) → ⊥
  name_handed w f = some_name s at x (sort_of w) f

  pub claim_handed : Handed tests (λ b. claim (claim_of b)) s at x → ((c : Claim) → x ≡ record_of.Claim c → ⊥) → ⊥
  claim_handed w f = some_claim s at x (sort_of w) f

-- what a record of each sort carries
module _ {tests : List ℕ → List Test} {s : List ℕ} {at : ℕ} {x : Record} where
  pub head_same : {h : Head} → Handed tests (λ b. head (head_of b)) s at x → x ≡ record_of.Head h → head_record h ≡ head_of (drop at s)
  unfolding record_as
  head_same {h} w e = let z : head (head_record h) ≡ head (head_of (drop at s)) = ap (λ p. p.1) (rw e at w.carries) in cc

  pub group_same : {g : Group} → Handed tests (λ b. group (group_of b)) s at x → x ≡ record_of.Group g →
      group_record g ≡ group_of (drop at s)
  unfolding record_as
  group_same {g} w e =
      let r : GroupRecord = group_record g in
      let z : group r ≡ group (group_of (drop at s)) = ap (λ p. p.1) (rw e at w.carries) in cc

  pub name_same : {n : Name} → Handed tests (λ b. name (name_of b)) s at x → x ≡ record_of.Name n → WholeName s at →
      (meant_number n.means ≡ (name_of (drop at s)).group) × (n.bytes ≡ u16_at s at - 4)
  unfolding record_as bytes_from
  name_same {n} w e k =
      let r : NameRecord = record { group = meant_number n.means; label = bytes_from s (at + 6) n.bytes } in
      let z : name r ≡ name (name_of (drop at s)) = ap (λ p. p.1) (rw e at w.carries) in
      let y : r ≡ name_of (drop at s) = cc in (
        ap (λ r. r.group) y,
        sym (length_tabulate (λ i. get_or s (at + 6 + i) 0) n.bytes) ∙ ap (λ r. length r.label) y
            ∙ label_length s at k.least k.room,
      )

  pub claim_same : {c : Claim} → Handed tests (λ b. claim (claim_of b)) s at x → x ≡ record_of.Claim c →
      claim_record s c ≡ claim_of (drop at s)
  unfolding record_as
  claim_same {c} w e =
      let z : claim (claim_record s c) ≡ claim (claim_of (drop at s)) = ap (λ p. p.1) (rw e at w.carries) in cc

-- a name's record, made of what it means and how many bytes its label has
label_from : (s : List ℕ) (at n : ℕ) → n ≡ u16_at s at - 4 → at + 6 + n ≤ length s → bytes_from s (at + 6) n ≡ (name_of (drop at s)).label
unfolding bytes_from
label_from s at n e h =
    rw (label_at s at, ← e) (ext_get_or 0 _ (take n (drop (at + 6) s))
    (length_tabulate (λ i. get_or s (at + 6 + i) 0) n ∙ sym (simp (length-take, length-drop) (omega arith)))
    (λ i l. let k : i < n = omega (arith, length_tabulate (λ i. get_or s (at + 6 + i) 0) n) in
    get_d_tabulate (λ i. get_or s (at + 6 + i) 0) n i 0 k ∙ sym (get_or-take n (drop (at + 6) s) i 0 k ∙ get_or-drop (at + 6) s i 0)))

pub name_made : (s : List ℕ) (at n : ℕ) (m : Option GroupNo) → u16_at (drop at s) 2 ≡ 3 → meant_number m ≡ u16_at (drop at s) 4 →
    n ≡ u16_at s at - 4 → at + 6 + n ≤ length s →
    record_as s at (record_of.Name (record { means = m; bytes = n })) ≡ (kind_of (drop at s), name (name_of (drop at s)))
unfolding record_as name_of
name_made s at n m k g e h = rw (k, g, label_from s at n e h)

pub claim_bytes_law : (names : ℕ) {s : List ℕ} {at n : ℕ} {x : Record} {c : Claim} → Handed (claim_tests names []) (λ b. claim (claim_of b)) s at x →
    x ≡ record_of.Claim c → n ≡ length (encode_claim (claim_record s c)) → n ≡ u16_at s at + 2
claim_bytes_law names {s} {at} w e l =
    l ∙ ap (λ r. length (encode_claim r)) (claim_same w e) ∙ claim_length_law names (drop at s) w.pass ∙ ap (λ n. n + 2) (length_at s at)
