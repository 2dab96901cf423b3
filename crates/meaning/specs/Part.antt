-- The part of the tree at a group, and the bottom-up bounds: the least and the greatest count of a group over sets that fit
-- the part at it, before any parent has narrowed them (document 01, "The arrangement"; 004, Lemma 5).
use Rattle.std.specs.Prelude.{ℕ, zero, suc, ◌≤◌, Bool, cond, ◌&&◌, ◌||◌, ◌↔◌, eqb}
use Rattle.meaning.specs.Sheet.{Sheet, Group, Top, inf, AtMost}
use Rattle.meaning.specs.Fits.{Attains}

-- h is g, or one of the next n parents above h is
unfoldable pub under : Sheet → ℕ → ℕ → ℕ → Bool
under s g zero h = eqb h g
under s g (suc n) h = eqb h g || under s g n (s.parent h)

-- The sheet of the part at g: g has no parent, and only the groups at or below g keep their bounds and modes.
unfoldable pub part_at : Sheet → ℕ → Sheet
part_at s g =
    let kept : ℕ → Bool = under s g s.size in
    record {
      size = s.size;
      parent = λ h. cond (eqb h g) 0 (s.parent h);
      lo = λ h. cond (kept h) (s.lo h) 0;
      hi = λ h. cond (kept h) (s.hi h) inf;
      disjoint = λ h. kept h && s.disjoint h;
      cover = λ h. kept h && s.cover h;
      same = λ h. kept h && s.same h;
    }

-- L g and U g are the least and the greatest count of g over the sets that fit the part at g, and every count between is had
pub record BottomUp (s : Sheet) (L : ℕ → ℕ) (U : ℕ → Top) : Type 0 where
  pub counts : (g : ℕ) → Group s g → (k : ℕ) → ((L g ≤ k) × AtMost k (U g)) ↔ Attains (part_at s g) g k
