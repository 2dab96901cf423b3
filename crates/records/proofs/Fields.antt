-- Laws of the frame of a record at a place, and of what its tests show.
use Prim.Native.Nat.{ℕ, ◌+◌, ◌≤◌}
use mathlib.Core.Path.{◌≡◌, sym, refl}
use mathlib.Core.Bool.{true, false, ◌&&◌, Bool, cond, not}
use mathlib.Core.List.{List, [], ◌∷◌}
use native.Mathlib.Omega.{arith}
use borrow.Author.Tests.{le-leb, leb-true, lt-leb, eq-eqb, ne_eqb}
use lib.ListN.{drop, length, length-drop}
use lib.Dec.{leb, eqb}
use Rattle.laws.proofs.Cases.{split, and_true, compare_le, compare_eq}
use Rattle.wire.specs.Edition.{Edition, label_limit}
use Rattle.wire.specs.Bytes.{u16_at}
use Rattle.wire.specs.Record.{framed, refusal, Test, test}
use Rattle.wire.specs.Refusals.{refusal_number}
use Rattle.wire.specs.declared.refusals.Refusal.{Refusal}
use Rattle.wire.specs.declared.refusals.Refusal.TheVariants as refusal
use Rattle.std.specs.Prelude.{Ok, Err}
use Rattle.wire.specs.SheetFormat.{ClaimRecord, claim_tests, last_claim, GroupRecord, group_tests, NameRecord, name_tests, name_of, used}
use Rattle.wire.proofs.Passing.{passed}
use Rattle.wire.proofs.Sorts.{framed_of, Framed, framed_true, group_nonzero, group_frame, name_nonzero, name_frame, claim_nonzero, claim_frame}
use Rattle.wire.proofs.Fields.{length_at, read_at}
use Rattle.labels.specs.WholeName.{WholeName}
use Rattle.claim_records.specs.Body.{Whole, claim_body}
use Rattle.records.specs.Answers.{FrameAt, kind_in}

-- each refusal has a number
pub refusal_nonzero : (e : Refusal) → refusal_number e ≡ 0 → ⊥
refusal_nonzero refusal.Cut h = omega arith
refusal_nonzero refusal.WrongKind h = omega arith
refusal_nonzero refusal.WrongLength h = omega arith
refusal_nonzero refusal.FieldRange h = omega arith
refusal_nonzero refusal.BadReference h = omega arith
refusal_nonzero refusal.LabelTwice h = omega arith
refusal_nonzero refusal.Trailing h = omega arith
refusal_nonzero refusal.ManyGroups h = omega arith
refusal_nonzero refusal.LongLabel h = omega arith
refusal_nonzero refusal.Impossible h = omega arith
refusal_nonzero refusal.NoSuchClaim h = omega arith
refusal_nonzero refusal.TooManyRows h = omega arith
refusal_nonzero refusal.BadRow h = omega arith
refusal_nonzero refusal.BadSide h = omega arith
refusal_nonzero refusal.MemberOrder h = omega arith
refusal_nonzero refusal.BitAbove h = omega arith
refusal_nonzero refusal.ReplyShort h = omega arith

-- a frame by its numbers
whole_framed : (s : List ℕ) (at : ℕ) → 2 ≤ u16_at s at → at + 2 + u16_at s at ≤ length s → framed (drop at s) ≡ true
whole_framed s at h k =
    let l = length_at s at in
    let d = length-drop at s in
    framed_of (drop at s) (record { four = omega arith; least = omega arith; whole = omega arith })

framed_whole : (s : List ℕ) (at : ℕ) → Framed (drop at s) → (2 ≤ u16_at s at) × (at + 2 + u16_at s at ≤ length s)
framed_whole s at f = omega (arith, length_at s at, length-drop at s)

module _ (s : List ℕ) (at : ℕ) {first last : ℕ} where
  pub framed_none : at ≤ length s → (2 ≤ u16_at s at → at + 2 + u16_at s at ≤ length s → ⊥) → FrameAt s at first last (Err refusal.Cut)
  unfolding refusal
  framed_none l h =
      let e : framed (drop at s) ≡ false = split (framed (drop at s))
      (λ t. let g = framed_whole s at (framed_true (drop at s) t) in absurd (h g.0 g.1)) (λ t. t) in
      record { met = rw e; whole = tt }

  pub framed_other : (kind : ℕ) → kind ≡ u16_at s (at + 2) → 2 ≤ u16_at s at → at + 2 + u16_at s at ≤ length s →
      (leb first kind && leb kind last) ≡ false → FrameAt s at first last (Err refusal.WrongKind)
  unfolding refusal
  framed_other kind k h l e = record { met = rw (whole_framed s at h l, read_at s at 2 kind k, e); whole = tt }

  pub framed_some : (len kind : ℕ) → len ≡ u16_at s at → kind ≡ u16_at s (at + 2) → 2 ≤ len → at + 2 + len ≤ length s →
      first ≤ kind → kind ≤ last → FrameAt s at first last (Ok len)
  unfolding refusal
  framed_some len kind e k h l a b = record {
    met = rw (whole_framed s at (omega arith) (omega arith), read_at s at 2 kind k, le-leb _ _ a, le-leb _ _ b);
    whole = record { says = sym e; least = h; room = l };
  }

-- a whole record of that length stands at a place, and its kind is from `first` to `last`
pub record Led (s : List ℕ) (at first last len : ℕ) : Type 0 where
  pub frame : framed (drop at s) ≡ true
  pub least : first ≤ u16_at (drop at s) 2
  pub most : u16_at (drop at s) 2 ≤ last
  pub whole : Whole s at len

-- the tests of a frame, and those that follow
frame_cases : (a b : Bool) (rest : List Test) → refusal (test 1 a ∷ test 2 b ∷ rest) ≡
    cond (eqb (refusal (test 1 a ∷ test 2 b ∷ [])) 0) (refusal rest) (refusal (test 1 a ∷ test 2 b ∷ []))
unfolding refusal
frame_cases true true rest = refl
frame_cases true false rest = refl
frame_cases false b rest = refl

frame_both : (a b : Bool) → 0 ≡ refusal (test 1 a ∷ test 2 b ∷ []) → (a ≡ true) × (b ≡ true)
unfolding refusal
frame_both true true e = (refl, refl)
frame_both true false e = absurd (omega arith)
frame_both false b e = absurd (omega arith)

module _ {s : List ℕ} {at first last : ℕ} where
  pub frame_led : {len : ℕ} → FrameAt s at first last (Ok len) → Led s at first last len
  frame_led f =
      let e = frame_both (framed (drop at s)) (kind_in first last (drop at s)) f.met in
      let a = and_true _ _ e.1 in
      record { frame = e.0; least = leb-true _ _ a.0; most = leb-true _ _ a.1; whole = f.whole }

  -- the record is cut, or has another kind
  pub frame_refused : {e : Refusal} → FrameAt s at first last (Err e) → (rest : List Test) →
      refusal (test 1 (framed (drop at s)) ∷ test 2 (kind_in first last (drop at s)) ∷ rest) ≡ refusal_number e
  frame_refused {e} f rest =
      rw (frame_cases (framed (drop at s)) (kind_in first last (drop at s)) rest, ← f.met, ne_eqb _ _ (refusal_nonzero e))

-- one kind only
pub led_kind : {s : List ℕ} {at k len : ℕ} → Led s at k k len → u16_at (drop at s) 2 ≡ k
led_kind w = omega arith

pub one_kind : (k x : ℕ) → eqb x k ≡ (leb k x && leb x k)
one_kind k x =
    compare_eq x k (λ e. rw (e, eq-eqb k k refl, le-leb k k (omega arith)))
    (λ h. compare_le k x (λ a. rw (ne_eqb x k h, le-leb k x a, lt-leb x k (omega arith))) (λ a. rw (ne_eqb x k h, lt-leb k x a)))

-- the tests of a claim don't look at the claims before
pub claim_alone : (names : ℕ) (cs : List ClaimRecord) (b : List ℕ) →
    refusal (claim_tests names cs b) ≡ refusal (claim_tests names [] b)
unfolding claim_tests
claim_alone names cs b = refl

-- the tests of a claim after its frame and kind
pub claim_past : (names : ℕ) {s : List ℕ} {at len : ℕ} → Led s at 4 last_claim len →
    refusal (claim_tests names [] (drop at s)) ≡ refusal (claim_body names (drop at s))
unfolding refusal claim_tests claim_body
claim_past names w = simp (w.frame, le-leb _ _ w.least, le-leb _ _ w.most)

-- what a record that passed its tests shows
pub group_whole : (s : List ℕ) (at : ℕ) (gs : List GroupRecord) → refusal (group_tests gs (drop at s)) ≡ 0 →
    (u16_at s at ≡ 10) × (at + 12 ≤ length s)
group_whole s at gs e =
    let f = group_frame gs (drop at s) (passed _ (group_nonzero gs (drop at s)) e) in
    let l = length_at s at in
    let d = length-drop at s in
    (omega arith, omega arith)

pub name_whole : (e : Edition) (s : List ℕ) (at groups : ℕ) (ns : List NameRecord) → refusal (name_tests e groups ns (drop at s)) ≡ 0 →
    WholeName s at × (u16_at s at ≤ label_limit e + 4)
name_whole e s at groups ns w =
    let f = name_frame e groups ns (drop at s) (passed _ (name_nonzero e groups ns (drop at s)) w) in
    let l = length_at s at in
    let g = framed_whole s at f.frame in
    (record { least = omega arith; room = omega arith }, omega arith)

pub claim_whole : (s : List ℕ) (at names : ℕ) (cs : List ClaimRecord) → refusal (claim_tests names cs (drop at s)) ≡ 0 →
    (2 ≤ u16_at s at) × (at + 2 + u16_at s at ≤ length s)
claim_whole s at names cs e = framed_whole s at (claim_frame names cs (drop at s) (passed _ (claim_nonzero names cs (drop at s)) e))

-- a name's tests, its label's use set apart
abbrev six : Bool → Bool → Bool → Bool → Bool → Bool → List Test
six a b c d e f = test 1 a ∷ test 2 b ∷ test 3 c ∷ test 4 d ∷ test 5 e ∷ test 6 f ∷ []

last_apart : (a b c d e u : Bool) →
    refusal (six a b c d e (not u)) ≡ cond (eqb (refusal (six a b c d e true)) 0) (cond u 6 0) (refusal (six a b c d e true))
unfolding refusal
last_apart false b c d e u = refl
last_apart true false c d e u = refl
last_apart true true false d e u = refl
last_apart true true true false e u = refl
last_apart true true true true false u = refl
last_apart true true true true true true = refl
last_apart true true true true true false = refl

pub name_apart : (e : Edition) (groups : ℕ) (ns : List NameRecord) (b : List ℕ) → refusal (name_tests e groups ns b)
    ≡ cond (eqb (refusal (name_tests e groups [] b)) 0) (cond (used ns (name_of b).label) 6 0) (refusal (name_tests e groups [] b))
unfolding name_tests used
name_apart e groups ns b = last_apart _ _ _ _ _ (used ns (name_of b).label)
