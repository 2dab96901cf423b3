-- Laws of the hashes of labels: equal labels have one hash, so a label whose hash was not seen was not used before.
use Prim.Native.Nat.{ℕ, ◌+◌, suc, ◌*◌, ◌%◌, ◌≤◌, ◌<◌, zero}
use mathlib.Core.Path.{◌≡◌, refl}
use mathlib.Core.Bool.{Bool, true, false≢true, false}
use mathlib.Core.List.{List, [], ◌∷◌}
use native.Mathlib.Omega.{arith}
use native.Mathlib.Numerals.{add-one}
use borrow.Author.Tests.{eqb-true}
use lib.ListN.{drop, length, get_or, set}
use Rattle.std.proofs.Math.ListN.{drop_of_length-le}
use lib.Seq.{drop-cons, get_or-set_same, get_or-set_other}
use lib.Dec.{eqb}
use Rattle.laws.proofs.Cases.{and_true, split, compare_eq}
use Rattle.wire.specs.SheetFormat.{name_of, same_label, used}
use Rattle.tables.specs.RecordsIn.{records_in}
use Rattle.labels.specs.LabelHash.{hash_from, label_hash, label_hashes, Seen, AllSeen}
use Rattle.labels.proofs.Strings.{used_none, used_more}

-- the bytes of a label from a place on, after others with the hash h
module _ (l : List ℕ) (i h : ℕ) where
  pub hash_more : i < length l → hash_from h (drop i l) ≡ hash_from ((h * 33 + get_or l i 0) % label_hashes) (drop (i + 1) l)
  unfolding hash_from
  hash_more k = rw (drop-cons l i 0 k, add-one)

  pub hash_end : length l ≤ i → hash_from h (drop i l) ≡ h
  unfolding hash_from
  hash_end k = rw (drop_of_length-le l k)

same_labels : (l m : List ℕ) → same_label l m ≡ true → l ≡ m
unfolding same_label
same_labels [] [] e = refl
same_labels [] (y ∷ m) e = absurd (false≢true e)
same_labels (x ∷ l) [] e = absurd (false≢true e)
same_labels (x ∷ l) (y ∷ m) e =
    let w = and_true (eqb x y) (same_label l m) e in
    rw (eqb-true x y w.0, same_labels l m w.1)

module _ (seen : List Bool) (l : List ℕ) (none : get_or seen (label_hash l) false ≡ false) where
  unlike_seen : (m : List ℕ) → Seen seen m → same_label m l ≡ false
  unlike_seen m h =
      split (same_label m l)
      (λ e. let k : get_or seen (label_hash l) false ≡ true = rw (same_labels m l e) at h in absurd (false≢true (cc)))
      (λ e. e)

  pub unseen : (s offsets : List ℕ) (n : ℕ) → AllSeen s seen offsets n → used (records_in name_of s offsets n) l ≡ false
  unseen s offsets zero h = used_none s offsets l
  unseen s offsets (suc n) h =
      rw add-one at
      (used_more s offsets l n (unseen s offsets n (λ i k. h i (omega arith))) (unlike_seen _ (h n (omega arith))))

-- one more hash is seen, and those before
module _ (seen : List Bool) (v : ℕ) (room : v < length seen) where
  pub seen_set : get_or (set seen v true) v false ≡ true
  seen_set = get_or-set_same seen v true false room

  pub seen_kept : (i : ℕ) → get_or seen i false ≡ true → get_or (set seen v true) i false ≡ true
  seen_kept i h = compare_eq i v (λ e. rw e seen_set) (λ e. rw (get_or-set_other seen v i true false e) h)
