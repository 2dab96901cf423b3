-- The arrangement of document 01 is one only: sets that fit settle the bottom-up bounds of every group, and these the runs.
use Prim.Native.Nat.{ℕ, suc, ◌+◌, ◌≤◌}
use mathlib.Core.Path.{◌≡◌, refl, ap, ap₂}
use mathlib.Core.Bool.{false}
use mathlib.Core.Logic.Iff
use mathlib.Core.Logic.{◌↔◌}
use native.Mathlib.Omega.{arith}
use native.Mathlib.Nat.{le_refl}
use Rattle.meaning.specs.Sheet.{Top, fin, inf, AtMost, Sheet, Group}
use Rattle.meaning.specs.Tree.{Tree, Rooted}
use Rattle.meaning.specs.Sets.{count}
use Rattle.meaning.specs.Fits.{Attains, Possible}
use Rattle.meaning.specs.Part.{part_at, BottomUp}
use Rattle.meaning.specs.Arranged.{ArrangedBottomUp}
use Rattle.sizes.specs.Balanced.{Sizes}
use Rattle.sizes.specs.Span.{Span, none, span, In}
use Rattle.sizes.specs.Fold.{spans_of}
use Rattle.sizes.specs.Ranged.{free}
use Rattle.sizes.specs.Runs.{Starts}
use Rattle.sizes.proofs.Possible.{nowhere, sizes_choice, fits_sizes}
use Rattle.sizes.proofs.SpanLaws.{at_le}
use Rattle.sizes.proofs.Exact.{sound}
use Rattle.sizes.proofs.MeasuredLaws.{spans_measured}
use Rattle.sizes.proofs.ArrangedFits.{arranged_unique, arranged_sizes, arranged_starts}
use Rattle.sizes.proofs.Part.{part_attains}
use Rattle.sizes.proofs.ArrangedAlike.{arranged_alike}

-- intervals that are not empty and have the same numbers have the same upper end
tops_once : (l m : ℕ) (u v : Top) → AtMost l u → AtMost m v → ((k : ℕ) → ((l ≤ k) × AtMost k u) ↔ ((m ≤ k) × AtMost k v)) → u ≡ v
tops_once l m (fin a) (fin b) h i e = ap fin (omega (arith, (e a).0 (h, le_refl a), (e b).1 (i, le_refl b)))
tops_once l m (fin a) inf h i e = absurd (omega (arith, (e (suc (a + m))).1 (omega arith, tt)))
tops_once l m inf (fin b) h i e = absurd (omega (arith, (e (suc (b + l))).0 (omega arith, tt)))
tops_once l m inf inf h i e = refl

-- and intervals of which each has the numbers of P and no others, one at least, have the same ends
pub ends_once : {P : ℕ → Type 0} (l m : ℕ) (u v : Top) → ((k : ℕ) → ((l ≤ k) × AtMost k u) ↔ P k)
    → ((k : ℕ) → ((m ≤ k) × AtMost k v) ↔ P k) → (n : ℕ) → P n → (l ≡ m) × (u ≡ v)
ends_once l m u v a b n h =
    let e : (k : ℕ) → ((l ≤ k) × AtMost k u) ↔ ((m ≤ k) × AtMost k v) = λ k. Iff.trans (a k) (Iff.symm (b k)) in
    let i = (a n).1 h in
    let j = (b n).1 h in
    let x = at_le l n u i.0 i.1 in
    let y = at_le m n v j.0 j.1 in
    (omega (arith, ((e l).0 (le_refl l, x)).0, ((e m).1 (le_refl m, y)).0), tops_once l m u v x y e)

-- the size that a group has among sizes of the whole sheet is had by sets that fit the part at it
pub part_had : {s : Sheet} {f : ℕ → ℕ} → Tree s → s.parent 0 ≡ 0 → Sizes s f → (g : ℕ) → Group s g → Attains (part_at s g) g (f g)
part_had {s} {f} t o w g q =
    let m = spans_measured s free t in
    (part_attains s t o g q (spans_of s free) m (f g)).0
    (sound s free (spans_of s free) t m f nowhere (sizes_choice free (λ h i. refl) w) g q)

-- The bottom-up bounds of every group are one only, where some sets fit (document 01, "The arrangement").
pub bottom_up_once : {s : Sheet} → Tree s → s.parent 0 ≡ 0 → Possible s → {L L' : ℕ → ℕ} {U U' : ℕ → Top} → BottomUp s L U
    → BottomUp s L' U' → (g : ℕ) → Group s g → (L g ≡ L' g) × (U g ≡ U' g)
bottom_up_once t o w {L} {L'} {U} {U'} x y g q =
    ends_once (L g) (L' g) (U g) (U' g) (x.counts g q) (y.counts g q) (count w.0 g) (part_had t o (fits_sizes w.1) g q)

-- So the arrangement is one only: any two replies have the same run for every group.
pub arrangement_once : {s : Sheet} → Tree s → Rooted s → s.parent 0 ≡ 0 → Possible s → {first size first' size' : ℕ → ℕ}
    → ArrangedBottomUp s first size → ArrangedBottomUp s first' size' → (g : ℕ) → Group s g
    → (first g ≡ first' g) × (size g ≡ size' g)
arrangement_once t r o w {first} {size} {first'} {size'} x y =
    let e = bottom_up_once t o w x.2 y.2 in
    let z = arranged_alike t (λ g q. refl) (λ g q. refl) (λ g q. (e g q).0) (λ g q. (e g q).1) r x.3 in
    arranged_unique t r y.0 y.1 first size first' size' z y.3

-- a span that has the numbers from l to u and no others, one at least, has these ends
span_once : (a : Span) (l : ℕ) (u : Top) → ((k : ℕ) → In k a ↔ ((l ≤ k) × AtMost k u)) → (n : ℕ) → In n a → a ≡ span l u
span_once none l u h n i = absurd i
span_once (span m v) l u h n i =
    let e = ends_once m l v u h (λ k. (λ x. x, λ x. x)) n ((h n).0 i) in
    ap₂ span e.0 e.1

-- Its sizes are allowed, and its starts are those of the runs that show them.
pub arrangement_runs : {s : Sheet} → Tree s → Rooted s → s.parent 0 ≡ 0 → Possible s → {first size : ℕ → ℕ}
    → ArrangedBottomUp s first size → Sizes s size × Starts s size first
arrangement_runs {s} t r o w (L, U, b, a) =
    let z = spans_of s free in
    let m = spans_measured s free t in
    let f = count w.0 in
    let ends : (g : ℕ) → Group s g → z g false ≡ span (L g) (U g) =
    λ g q. span_once (z g false) (L g) (U g) (λ k. Iff.trans (part_attains s t o g q z m k) (Iff.symm (b.counts g q k))) (f g)
    (sound s free z t m f nowhere (sizes_choice free (λ h i. refl) (fits_sizes w.1)) g q) in
    (arranged_sizes t r m ends a, arranged_starts t r m ends a)
