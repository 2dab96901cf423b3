-- Laws of the table of pairs: a stored pair is read back, and the others stay.
use Prim.Native.Nat.{ℕ, ◌-◌, ◌≤◌}
use mathlib.Core.Path.{◌≡◌, refl, ap}
use mathlib.Core.List.{List}
use native.Mathlib.Omega.{arith}
use lib.ListN.{set, length, get_or}
use lib.Seq.{get_or-set_same, get_or-set_other}
use Rattle.spans.specs.declared.pair.Pair.{Pair}
use Rattle.spans.specs.Held.{pair_of}
use Rattle.measuring.specs.Pairs.{no_pair, pair_in, PairPut}

pub pair_put : (t : List Pair) (g : ℕ) (p : Pair) → 1 ≤ g → g ≤ length t → PairPut t g (pair_of p) (set t (g - 1) p)
unfolding pair_in
pair_put t g p a l = record {
  put = λ c. ap (λ q. pair_of q c) (get_or-set_same t (g - 1) p no_pair (omega arith));
  others = λ h b n c. ap (λ q. pair_of q c) (get_or-set_other t (g - 1) (h - 1) p no_pair (λ e. n (omega arith)));
}

-- an entry's spans
pub pair_read : (t : List Pair) (g : ℕ) → pair_of (get_or t (g - 1) no_pair) ≡ pair_in t g
unfolding pair_in
pair_read t g = refl
