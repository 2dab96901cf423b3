-- The sets that a readable register lists, row by row: rows do not fall, so each member is listed once, and a row more adds its
-- groups to the member that it names.
use Prim.Native.Nat.{ℕ, ◌≤◌, ◌-◌, ◌<◌, max, ◌+◌}
use mathlib.Core.Path.{◌≡◌, refl, sym, ap, ◌∙◌}
use mathlib.Core.Bool.{false, Bool, true, cond, ◌&&◌, ◌||◌}
use mathlib.Core.List.{List, [], ◌∷◌, ◌++◌, append-nil, append_assoc}
use native.Mathlib.Omega.{arith}
use lib.ListN.{get_or, length, length-append, get_or-append}
use lib.Seq.{get_or_at}
use lib.Dec.{eqb}
use borrow.Author.Tests.{lt-ltb, le-ltb, eq-eqb, ne_eqb}
use Rattle.laws.specs.Sum.{bit}
use Rattle.laws.proofs.Cases.{split, compare_le, compare_eq}
use Rattle.wire.specs.Edition.{Edition}
use Rattle.wire.specs.Member.{no_member, one_member, Member, precedes}
use Rattle.wire.specs.Record.{read}
use Rattle.wire.specs.RegisterFormat.{Row, last_member, in_group, read_register}
use Rattle.wire.specs.Encoding.{Each, none, more, RowRight}
use Rattle.wire.proofs.RoundTripRegister.{register_read}
use Rattle.wire.proofs.MemberKeyLaws.{member_key, one_true, one_false, precedes_true, one_same, rises_or_one}
use Rattle.wire.proofs.RowFacts.{last_member_behind}
use Rattle.meaning.specs.Sets.{Distinct}
use Rattle.meaning.specs.OfRecords.{members, listed, listed_sets}
use Rattle.meaning.specs.MemberIn.{member_in}

-- the key of member i, and of the last row's
abbrev key_at : List Row → ℕ → ℕ
key_at rs i = member_key (get_or (members rs) i no_member)

abbrev last_key : List Row → ℕ
last_key rs = member_key (last_member rs)

-- there are no more members than rows
pub members_few : (rs : List Row) → length (members rs) ≤ length rs
unfolding members
members_few [] = omega arith
members_few (r ∷ []) = omega arith
members_few (r ∷ (q ∷ rs)) =
    split (one_member r.member q.member) (λ e. rw e (omega (arith, members_few (q ∷ rs)))) (λ e. rw e (omega (arith, members_few (q ∷ rs))))

-- of rows that do not fall the members rise; the last one is the last row's, and who is above it has no row
pub record Ordered (rs : List Row) : Type 0 where
  pub some : 0 < (last_member rs).number → 1 ≤ length (members rs)
  pub rise : (i j : ℕ) → i < j → j < length (members rs) → key_at rs i < key_at rs j
  pub last : 1 ≤ length (members rs) → key_at rs (length (members rs) - 1) ≡ last_key rs
  pub above : (g : ℕ) (x : Member) → last_key rs < member_key x → listed rs g x ≡ false

pub ordered_none : Ordered []
unfolding members listed last_member
ordered_none =
    record {
      some = λ l. absurd (omega arith);
      rise = λ i j l m. absurd (omega arith);
      last = λ l. absurd (omega arith);
      above = λ g x l. refl;
    }

zero_bit : (a : Bool) → bit a ≡ 0 → a ≡ false
zero_bit true e = absurd (omega arith)
zero_bit false e = refl

-- a row more: its groups are added to its member's
listed_behind : (rs : List Row) (r : Row) (g : ℕ) (x : Member)
    → bit (listed (rs ++ (r ∷ [])) g x) ≡ max (bit (listed rs g x)) (cond (one_member r.member x) (bit (in_group r g)) 0)
unfolding listed
listed_behind [] r g x = one (one_member r.member x) (in_group r g)
  where
    one : (a b : Bool) → bit (a && b || false) ≡ max 0 (cond a (bit b) 0)
    one true true = omega arith
    one true false = omega arith
    one false b = omega arith
listed_behind (q ∷ rs) r g x =
    either (one_member q.member x && in_group q g) (listed (rs ++ (r ∷ [])) g x) (listed rs g x) _ (listed_behind rs r g x)
  where
    either : (a b c : Bool) (n : ℕ) → bit b ≡ max (bit c) n → bit (a || b) ≡ max (bit (a || c)) n
    either true true c n e = omega arith
    either true false c n e = omega arith
    either false b c n e = e

-- it goes on with the last member, or names one more
pub members_joined : (rs : List Row) (r : Row) → last_member rs ≡ r.member → 0 < r.member.number → members (rs ++ (r ∷ [])) ≡ members rs
unfolding members last_member
members_joined [] r e l = absurd (omega (arith, ap (λ m. m.number) e))
members_joined (q ∷ []) r e l = rw (one_true q.member r.member (ap member_key e)) (ap (λ m. m ∷ []) (sym e))
members_joined (q ∷ (p ∷ rs)) r e l = rw (members_joined (p ∷ rs) r e l)

pub members_new : (rs : List Row) (r : Row) → precedes (last_member rs) r.member ≡ true → members (rs ++ (r ∷ []))
    ≡ members rs ++ (r.member ∷ [])
unfolding members last_member
members_new [] r l = refl
members_new (q ∷ []) r l = rw (one_false q.member r.member (λ e. omega (arith, precedes_true q.member r.member l)))
members_new (q ∷ (p ∷ rs)) r l =
    rw (members_new (p ∷ rs) r l) (split (one_member q.member p.member) (λ e. rw e) (λ e. rw e))

-- rows rs that do not fall, and a row r behind them
module _ (rs : List Row) (r : Row) (o : Ordered rs) where
  -- who is above both has no row
  none_above : (g : ℕ) (x : Member) → last_key rs < member_key x → member_key r.member < member_key x
      → listed (rs ++ (r ∷ [])) g x ≡ false
  none_above g x l h =
      let y = rw (o.above g x l, one_false r.member x (λ z. omega arith)) at (listed_behind rs r g x) in
      zero_bit (listed (rs ++ (r ∷ [])) g x) (omega arith)

  -- the row goes on with the last member
  module _ (e : last_member rs ≡ r.member) (l : 0 < r.member.number) where
    some_before : 1 ≤ length (members rs)
    some_before = o.some (rw e l)

    same : members (rs ++ (r ∷ [])) ≡ members rs
    same = members_joined rs r e l

    joined_ordered : Ordered (rs ++ (r ∷ []))
    joined_ordered =
        record {
          some = λ h. rw same some_before;
          rise = rw same o.rise;
          last = λ h. rw (same, last_member_behind rs r) (o.last some_before ∙ ap member_key e);
          above = λ g x h. let k = rw (last_member_behind rs r) at h in none_above g x (omega (arith, ap member_key e)) k;
        }

    pub joined_in : (i g : ℕ)
        → bit (member_in (rs ++ (r ∷ [])) i g) ≡ max (bit (member_in rs i g)) (cond (eqb i (length (members rs) - 1)) (bit (in_group r g)) 0)
    joined_in i g =
        rw same
        (compare_le (length (members rs)) i
        (λ h. rw (le-ltb i (length (members rs)) h, ne_eqb i (length (members rs) - 1) (λ z. omega (arith, some_before))) (omega arith))
        (λ h. rw (lt-ltb i (length (members rs)) h) (listed_behind rs r g (get_or (members rs) i no_member) ∙ (rw (named i h)))))
      where
        named : (i : ℕ) → i < length (members rs) → one_member r.member (get_or (members rs) i no_member) ≡ eqb i (length (members rs) - 1)
        named i h =
            let z = o.last some_before in
            compare_eq i (length (members rs) - 1)
            (λ x. let y = rw (← x) at z in
            rw (eq-eqb i (length (members rs) - 1) x) (one_true r.member (get_or (members rs) i no_member) (omega (arith, ap member_key e))))
            (λ x. rw (ne_eqb i (length (members rs) - 1) x)
            (one_false r.member (get_or (members rs) i no_member)
            (λ y. omega (arith, ap member_key e, o.rise i (length (members rs) - 1) (omega arith) (omega arith)))))

  -- the row names one member more
  module _ (f : precedes (last_member rs) r.member ≡ true) where
    last_below : last_key rs < member_key r.member
    last_below = precedes_true (last_member rs) r.member f

    one_more : members (rs ++ (r ∷ [])) ≡ members rs ++ (r.member ∷ [])
    one_more = members_new rs r f

    count_new : length (members rs ++ (r.member ∷ [])) ≡ length (members rs) + 1
    count_new = length-append (members rs) (r.member ∷ [])

    before : (i : ℕ) → i < length (members rs) → get_or (members rs ++ (r.member ∷ [])) i no_member ≡ get_or (members rs) i no_member
    before i h = get_or-append (members rs) (r.member ∷ []) no_member i h

    at_end : get_or (members rs ++ (r.member ∷ [])) (length (members rs)) no_member ≡ r.member
    at_end = get_or_at (members rs) r.member [] no_member (length (members rs)) refl

    -- members before are below
    below_new : (i : ℕ) → i < length (members rs) → key_at rs i < member_key r.member
    below_new i h =
        let z = o.last (omega arith) in
        compare_eq i (length (members rs) - 1)
        (λ x. let y = rw (← x) at z in omega (arith, last_below))
        (λ x. omega (arith, last_below, o.rise i (length (members rs) - 1) (omega arith) (omega arith)))

    new_ordered : Ordered (rs ++ (r ∷ []))
    new_ordered =
        record {
          some = λ h. rw (one_more, count_new) (omega arith);
          rise = rw one_more (λ i j h m.
              let n = rw count_new at m in
              compare_eq j (length (members rs))
              (λ x. rw (x, at_end, before i (omega arith)) (below_new i (omega arith)))
              (λ x. rw (before i (omega arith), before j (omega arith)) (o.rise i j h (omega arith))));
          last = λ h.
              let n : length (members rs) + 1 - 1 ≡ length (members rs) = omega arith in
              rw (one_more, count_new, n, at_end, last_member_behind rs r);
          above = λ g x h. let k = rw (last_member_behind rs r) at h in none_above g x (omega (arith, last_below)) k;
        }

    pub new_in : (i g : ℕ)
        → bit (member_in (rs ++ (r ∷ [])) i g) ≡ max (bit (member_in rs i g)) (cond (eqb i (length (members rs))) (bit (in_group r g)) 0)
    new_in i g =
        rw (one_more, count_new)
        (compare_eq i (length (members rs))
        (λ x. let d = listed_behind rs r g r.member in
        let y = rw (o.above g r.member last_below, one_true r.member r.member refl) at d in
        rw (
          x,
          lt-ltb (length (members rs)) (length (members rs) + 1) (omega arith),
          le-ltb (length (members rs)) (length (members rs)) (omega arith),
          eq-eqb (length (members rs)) (length (members rs)) refl,
          at_end,
        ) y)
        (λ x. compare_le (length (members rs)) i
        (λ h. rw (le-ltb i (length (members rs) + 1) (omega arith), le-ltb i (length (members rs)) h, ne_eqb i (length (members rs)) x) (omega arith))
        (λ h. let d = listed_behind rs r g (get_or (members rs) i no_member) in
        let y = rw (one_false r.member (get_or (members rs) i no_member) (λ z. omega (arith, below_new i h))) at d in
        rw (lt-ltb i (length (members rs) + 1) (omega arith), lt-ltb i (length (members rs)) h, ne_eqb i (length (members rs)) x, before i h) y)))

-- a row more that does not fall
pub ordered_after : (rs : List Row) (r : Row) → Ordered rs → 0 < r.member.number → precedes r.member (last_member rs) ≡ false
    → Ordered (rs ++ (r ∷ []))
ordered_after rs r o l f =
    split (one_member r.member (last_member rs))
    (λ z. joined_ordered rs r o (sym (one_same r.member (last_member rs) z)) l)
    (λ z. new_ordered rs r o (rises_or_one (last_member rs) r.member f z))

-- the rows of a readable register do not fall
ordered_each : {e : Edition} {groups : ℕ} {rs qs : List Row} → Ordered rs → Each (RowRight e groups) rs qs → Ordered (rs ++ qs)
ordered_each {rs = rs} o none = rw (append-nil rs) o
ordered_each o (more {xs} {ys} {y} p m) =
    rw (append_assoc xs (y ∷ []) ys) at (ordered_each (ordered_after xs y o p.someone p.follows) m)

-- and list each member once
distinct_of_ordered : (rs : List Row) → Ordered rs → Distinct (listed_sets rs)
distinct_of_ordered rs o =
    record {
      once = λ i j k l e.
          let z = ap member_key e in
          compare_le i j
          (λ h. compare_le j i (λ m. omega arith) (λ m. absurd (omega (arith, o.rise i j m l))))
          (λ h. absurd (omega (arith, o.rise j i h k)));
    }

pub distinct_of_right : {e : Edition} {groups : ℕ} {rs : List Row} → Each (RowRight e groups) [] rs → Distinct (listed_sets rs)
distinct_of_right right = distinct_of_ordered _ (ordered_each ordered_none right)

pub distinct_of_readable : (e : Edition) (groups : ℕ) (b : List ℕ) (rs : List Row) → read_register e groups b ≡ read rs
    → Distinct (listed_sets rs)
distinct_of_readable e groups b rs x = distinct_of_right (register_read e groups b rs x).right
