-- Laws of claims through their names: a claim that the tables hold is the one that is written down.
use Prim.Native.Nat.{ℕ, ◌≤◌, zero, suc, ◌+◌, ◌*◌, ◌<◌, ◌-◌}
use mathlib.Core.Path.{◌≡◌, refl, ap, ◌∙◌, sym}
use mathlib.Core.List.Memᴰ
use mathlib.Core.List.{List, Memᴰ, [], ◌∷◌, map}
use mathlib.Core.List.{◌++◌}
use mathlib.Core.List.{append_assoc, append-nil}
use mathlib.Core.Logic.{⊎_elim}
use native.Mathlib.Omega.{arith}
use lib.ListN.{length, take, set, length-map, length-take}
use lib.Seq.{take-suc-set}
use native.Mathlib.Numerals.{add-one}
use Rattle.std.proofs.lemmas.List.{map-append}
use Rattle.claim_records.specs.declared.claim.Lists.{Lists}
use Rattle.claim_records.specs.declared.claim.Claim.{Claim as ClaimRead}
use Rattle.wire.specs.Bytes.{u16_at}
use Rattle.wire.specs.SheetFormat.{ListKind, inside, apart, place, u16s, NameRecord}
use Rattle.wire.proofs.Sorts.{length_u16s}
use Rattle.meaning.specs.Claim.{counted, within, separate}
use Rattle.meaning.specs.Place.{Question, all_say, some_place, lists_ask}
use Rattle.meaning.specs.OfRecords.{name_group, claimed}
use Rattle.tables.specs.declared.groups.GroupNo.{GroupNo}
use Rattle.claim_records.specs.ClaimHeld.{left_names, right_names, list_as, claim_record}
use Rattle.std.specs.Prelude.{Option}
use Rattle.questions.specs.Groups.{groups_among, numbers_of, AllGroups}
use Rattle.questions.proofs.GroupsLaws.{AllUpTo, among_all, among_more, among_none, among_one, length_numbers}
use Rattle.claims.specs.Named.{meant_in, meanings, AskableBy, AskableLists, claim_meant, Askable}
use Rattle.claim_records.specs.declared.claim.Claim.TheVariants as claim

-- the question speaks of groups of a sheet of n groups, or of none
abbrev pub SpeaksUpTo : ℕ → Question → Type 0
SpeaksUpTo n (all_say (counted g lo hi)) = g ≤ n
SpeaksUpTo n (all_say (within l r)) = AllUpTo n l × AllUpTo n r
SpeaksUpTo n (all_say (separate l r)) = AllUpTo n l × AllUpTo n r
SpeaksUpTo n (some_place l r) = AllUpTo n l × AllUpTo n r

lists_up_to : {n : ℕ} {l r : List ℕ} (k : ListKind) → AllUpTo n l × AllUpTo n r → SpeaksUpTo n (lists_ask k l r)
lists_up_to inside w = w
lists_up_to apart w = w
lists_up_to place w = w

-- what is so of the fields at their offsets is so of each on the list
fields_all : (P : ℕ → Type 0) (s : List ℕ) (i n : ℕ) → ((j : ℕ) → j < n → P (u16_at s (i + 2 * j)))
    → (x : ℕ) → Memᴰ x (u16s s i n) → P x
unfolding u16s
fields_all P s i zero h x m = absurd (Memᴰ.not-nil m)
fields_all P s i (suc n) h x m =
    ⊎_elim
    (λ (e : x ≡ u16_at s i). let o : i + 2 * 0 ≡ i = omega arith in rw e (rw o at (h 0 (omega arith))))
    (λ k. fields_all P s (i + 2) n
    (λ j l. let o : i + 2 * suc j ≡ i + 2 + 2 * j = omega arith in rw o at (h (suc j) (omega arith))) x k)
    (Memᴰ.cases_cons m)

-- names that the table has groups for
module _ {Held : ℕ → Type 0} {names : List (Option GroupNo)} {size : ℕ} (w : AskableBy Held names size) (l : List ℕ)
    (h : (x : ℕ) → Memᴰ x l → (1 ≤ x) × (x ≤ w.count)) where
  pub meanings_known : AllUpTo size (meanings names l)
  meanings_known g m =
      let v = Memᴰ.of_map (meant_in names) l m in
      let x = h v.0 v.1 in
      rw (← v.2) (w.known v.0 x.0 x.1)

  -- the groups among what they mean
  pub meanings_listed : AllGroups size (groups_among (meanings names l))
  meanings_listed = among_all size (meanings names l) meanings_known

map_same : (f h : ℕ → ℕ) (l : List ℕ) → ((x : ℕ) → Memᴰ x l → f x ≡ h x) → map f l ≡ map h l
map_same f h [] e = refl
map_same f h (x ∷ l) e = rw (e x (Memᴰ.head refl), map_same f h l (λ y m. e y (Memᴰ.tail m)))

-- as many meanings as names
pub meant_length : (sheet : List ℕ) (from n : ℕ) (names : List (Option GroupNo)) → length (meanings names (u16s sheet from n)) ≡ n
meant_length sheet from n names = length-map (u16s sheet from n) (meant_in names) ∙ length_u16s sheet from n

-- the two lists of a claim
module _ {sheet : List ℕ} {l : Lists} {names : List (Option GroupNo)} {size : ℕ} (w : AskableLists sheet l names size) where
  pub left_named : (x : ℕ) → Memᴰ x (left_names sheet l) → (1 ≤ x) × (x ≤ w.count)
  left_named = fields_all (λ x. (1 ≤ x) × (x ≤ w.count)) sheet l.at l.m w.held.left

  pub right_named : (x : ℕ) → Memᴰ x (right_names sheet l) → (1 ≤ x) × (x ≤ w.count)
  right_named = fields_all (λ x. (1 ≤ x) × (x ≤ w.count)) sheet (l.at + 2 * l.m) l.n w.held.right

  -- what they speak of, and that name records which agree with the table mean the same
  pub lists_speak : AllUpTo size (meanings names (left_names sheet l)) × AllUpTo size (meanings names (right_names sheet l))
  lists_speak = (meanings_known w _ left_named, meanings_known w _ right_named)

  lists_named : (ns : List NameRecord) → ((n : ℕ) → 1 ≤ n → n ≤ w.count → meant_in names n ≡ name_group ns n)
      → (meanings names (left_names sheet l) ≡ map (name_group ns) (left_names sheet l))
      × (meanings names (right_names sheet l) ≡ map (name_group ns) (right_names sheet l))
  lists_named ns h = (
    map_same _ _ _ (λ x m. let n = left_named x m in h x n.0 n.1),
    map_same _ _ _ (λ x m. let n = right_named x m in h x n.0 n.1),
  )

-- What is asked speaks of groups of the sheet, or of none.
pub asked_speaks : (sheet : List ℕ) (c : ClaimRead) {names : List (Option GroupNo)} {size : ℕ} → Askable sheet c names size
    → SpeaksUpTo size (claim_meant names (claim_record sheet c))
unfolding claim_meant
asked_speaks sheet (claim.Count k) w = w.known k.name.0 w.held.0 w.held.1
asked_speaks sheet (claim.Lists l) w = lists_up_to (list_as l.kind) (lists_speak w)

-- Where the table of names agrees with the name records, it is what the claim that is written down asks.
pub claim_named : (sheet : List ℕ) (c : ClaimRead) {names : List (Option GroupNo)} {size : ℕ} (w : Askable sheet c names size)
    (ns : List NameRecord) → ((n : ℕ) → 1 ≤ n → n ≤ w.count → meant_in names n ≡ name_group ns n)
    → claim_meant names (claim_record sheet c) ≡ claimed ns (claim_record sheet c)
unfolding claim_meant claimed
claim_named sheet (claim.Count k) w ns h = rw (h k.name.0 w.held.0 w.held.1)
claim_named sheet (claim.Lists l) w ns h = let e = lists_named w ns h in rw (e.0, e.1)

-- how many groups are listed
pub listed_length : (list : List GroupNo) (k : ℕ) (l : List ℕ) → k ≤ length list → numbers_of (take k list) ≡ l → k ≡ length l
listed_length list k l h e =
    let n : length (numbers_of (take k list)) ≡ length l = ap length e in
    omega (arith, length_numbers (take k list), length-take k list)

-- the list with one more group
pub list_more : (list : List GroupNo) (k : ℕ) (g : GroupNo) → k < length list → 1 ≤ g.0
    → numbers_of (take (k + 1) (set list k g)) ≡ numbers_of (take k list) ++ groups_among (g.0 ∷ [])
list_more list k g h a =
    rw (add-one, take-suc-set list k g h, map-append (λ (x : GroupNo). x.0) (take k list) (g ∷ []), among_one g.0 a)

-- The groups of the names one after another: of all of them, of one more, of no more.
pub meant_first : (sheet : List ℕ) (from n : ℕ) (names : List (Option GroupNo))
    → groups_among (meanings names (u16s sheet (from + 2 * 0) (n - 0))) ≡ groups_among (meanings names (u16s sheet from n))
meant_first sheet from n names =
    let e : from + 2 * 0 ≡ from = omega arith in
    let o : n - 0 ≡ n = omega arith in
    rw (e, o)

pub meant_next : (sheet : List ℕ) (from n i : ℕ) (names : List (Option GroupNo)) (l t r : List ℕ) → i < n
    → t ≡ l ++ groups_among (meant_in names (u16_at sheet (from + 2 * i)) ∷ [])
    → l ++ groups_among (meanings names (u16s sheet (from + 2 * i) (n - i))) ≡ r
    → t ++ groups_among (meanings names (u16s sheet (from + 2 * (i + 1)) (n - (i + 1)))) ≡ r
unfolding u16s
meant_next sheet from n i names l t r h x e =
    let o : n - i ≡ suc (n - (i + 1)) = omega arith in
    let p : from + 2 * i + 2 ≡ from + 2 * (i + 1) = omega arith in
    rw (x, append_assoc, ← p) (rw (o, among_more) at e)

pub meant_last : (sheet : List ℕ) (from n i : ℕ) (names : List (Option GroupNo)) (l r : List ℕ) → n ≤ i
    → l ++ groups_among (meanings names (u16s sheet (from + 2 * i) (n - i))) ≡ r → l ≡ r
unfolding u16s
meant_last sheet from n i names l r h e =
    let o : n - i ≡ 0 = omega arith in
    sym (append-nil l) ∙ (rw (o, among_none) at e)
