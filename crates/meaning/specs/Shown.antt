-- The sets that runs and marks show: document 01, "The arrangement". "Group g is shown with the members of the run ..,
-- from first up to the number before first plus count, and with member 0 where the mark is 1."
use Rattle.std.specs.Prelude.{ℕ, suc, ◌+◌, Bool, cond, ◌&&◌, leb, ltb, eqb}
use Rattle.laws.specs.Sum.{sum}
use Rattle.meaning.specs.Sets.{Sets, numbered}

-- m is in the run that starts at `first` and has `count` members
unfoldable pub in_run : ℕ → ℕ → ℕ → Bool
in_run first count m = leb first m && ltb m (first + count)

-- the sets shown, with the numbers below n as members: nobody is lost where every run starts at 1 or later and n is above all
abbrev pub shown : (ℕ → ℕ) → (ℕ → ℕ) → (ℕ → Bool) → ℕ → Sets ℕ
shown first count mark n = numbered n (λ g m. cond (eqb m 0) (mark g) (in_run (first g) (count g) m))

-- a number above 0 and above every run of the groups up to `size`
unfoldable pub above : ℕ → (ℕ → ℕ) → (ℕ → ℕ) → ℕ
above size first count = suc (sum (λ g. first g + count g) (suc size))
