-- Laws of the records of a reply: they stay under writes after them, one more record, and records as the stores leave them.
use Prim.Native.Nat.{ℕ, ◌+◌, ◌≤◌, suc, ◌*◌, ◌<◌}
use mathlib.Core.Path.{◌∙◌, ◌≡◌}
use mathlib.Core.List.{List}
use mathlib.Core.Logic.{inl, ⊎_elim}
use native.Mathlib.Omega.{arith}
use native.Mathlib.Nat.{eq-or-lt_of_le}
use lib.ListN.{get_or, length}
use lib.Seq.{sets}
use Rattle.replies.specs.declared.verdict.Verdict.{Verdict}
use Rattle.wire.specs.Limits.{range_bytes, shown_bytes, verdict_bytes}
use Rattle.wire.specs.Bytes.{le16, le32}
use Rattle.spans.specs.declared.span.Span.{Span}
use Rattle.replies.specs.Wrote.{Wrote}
use Rattle.replies.specs.Written.{RangeAt, ShownAt, no_range, RangesPut, SetsPut, U16sPut}
use Rattle.replies.specs.Shown.{VerdictIn}
use Rattle.replies.proofs.WroteLaws.{u16_kept, u32_kept, wrote_u16, u16_put, wrote_then, wrote_u32, u32_put}

-- a record stays under a write after it
pub range_kept : {l m : List ℕ} {at k a u f c b : ℕ} → Wrote l b k m → at + range_bytes ≤ b → RangeAt l at a u f c → RangeAt m at a u f c
range_kept {at = at} w h r = record {
  sized = u16_kept w at (inl (omega arith)) ∙ r.sized;
  kind = u16_kept w (at + 2) (inl (omega arith)) ∙ r.kind;
  least = u32_kept w (at + 4) (inl (omega arith)) ∙ r.least;
  greatest = u32_kept w (at + 8) (inl (omega arith)) ∙ r.greatest;
  first = u32_kept w (at + 12) (inl (omega arith)) ∙ r.first;
  count = u32_kept w (at + 16) (inl (omega arith)) ∙ r.count;
}

pub shown_kept : {l m : List ℕ} {at k f c b v : ℕ} → Wrote l b k m → at + shown_bytes ≤ b → ShownAt l at f c v → ShownAt m at f c v
shown_kept {at = at} w h r = record {
  sized = u16_kept w at (inl (omega arith)) ∙ r.sized;
  kind = u16_kept w (at + 2) (inl (omega arith)) ∙ r.kind;
  first = u32_kept w (at + 4) (inl (omega arith)) ∙ r.first;
  count = u32_kept w (at + 8) (inl (omega arith)) ∙ r.count;
  mark = u16_kept w (at + 12) (inl (omega arith)) ∙ r.mark;
}

pub verdict_kept : {l m : List ℕ} {v : Verdict} {k : ℕ} → Wrote l verdict_bytes k m → VerdictIn v l → VerdictIn v m
verdict_kept w r = record {
  sized = u16_kept w 0 (inl (omega arith)) ∙ r.sized;
  kind = u16_kept w 2 (inl (omega arith)) ∙ r.kind;
  verdict = u16_kept w 4 (inl (omega arith)) ∙ r.verdict;
}

-- one more record
pub ranges_more : {l m : List ℕ} (ranges : List Span) (firsts counts : List ℕ) (n : ℕ) → RangesPut l n ranges firsts counts
    → Wrote l (range_bytes * n) range_bytes m
    → RangeAt m (range_bytes * n) (get_or ranges n no_range).least (get_or ranges n no_range).most (get_or firsts n 0) (get_or counts n 0)
    → RangesPut m (n + 1) ranges firsts counts
ranges_more ranges firsts counts n p w r g h =
    ⊎_elim (λ (e : suc g ≡ n + 1). let same : g ≡ n = omega arith in rw same r)
    (λ (k : suc g < n + 1). range_kept w (omega arith) (p g (omega arith))) (eq-or-lt_of_le h)

pub sets_more : {l m : List ℕ} (firsts counts marks : List ℕ) (n : ℕ) → SetsPut l n firsts counts marks
    → Wrote l (verdict_bytes + shown_bytes * n) shown_bytes m
    → ShownAt m (verdict_bytes + shown_bytes * n) (get_or firsts n 0) (get_or counts n 0) (get_or marks n 0) → SetsPut m (n + 1) firsts counts marks
sets_more firsts counts marks n p w r g h =
    ⊎_elim (λ (e : suc g ≡ n + 1). let same : g ≡ n = omega arith in rw same r)
    (λ (k : suc g < n + 1). shown_kept w (omega arith) (p g (omega arith))) (eq-or-lt_of_le h)

-- one more field of two bytes
pub u16s_more : (l : List ℕ) {m : List ℕ} (ws : List ℕ) (n : ℕ) → U16sPut l n ws → m ≡ sets l (2 * n) (le16 (get_or ws n 0))
    → 2 * n + 2 ≤ length l → get_or ws n 0 < 65536 → U16sPut m (n + 1) ws
u16s_more l ws n p e h b i k =
    ⊎_elim (λ (o : suc i ≡ n + 1). let same : i ≡ n = omega arith in rw same (u16_put l (2 * n) (get_or ws n 0) e h b))
    (λ (o : suc i < n + 1). u16_kept (wrote_u16 (2 * n) (get_or ws n 0) e) (2 * i) (inl (omega arith)) ∙ p i (omega arith)) (eq-or-lt_of_le k)

-- The records as the stores leave them. `w` is what the stores from one of them on change.
pub range_put : (l0 l1 l2 l3 l4 l5 l6 : List ℕ) (at l u f n : ℕ) →
    l1 ≡ sets l0 at (le16 18) →
    l2 ≡ sets l1 (at + 2) (le16 17) →
    l3 ≡ sets l2 (at + 4) (le32 l) →
    l4 ≡ sets l3 (at + 8) (le32 u) →
    l5 ≡ sets l4 (at + 12) (le32 f) →
    l6 ≡ sets l5 (at + 16) (le32 n) → at + 20 ≤ length l0 →
    l < 4294967296 → u < 4294967296 → f < 4294967296 → n < 4294967296 → Wrote l0 at 20 l6 × RangeAt l6 at l u f n
range_put l0 l1 l2 l3 l4 l5 l6 at l u f n e0 e1 e2 e3 e4 e5 h b0 b1 b2 b3 =
    let w5 : Wrote l5 (at + 16) 4 l6 = wrote_u32 (at + 16) n e5 in
    let w4 : Wrote l4 (at + 12) 8 l6 = wrote_then (wrote_u32 (at + 12) f e4) w5 (omega arith) (omega arith) (omega arith) (omega arith) in
    let w3 : Wrote l3 (at + 8) 12 l6 = wrote_then (wrote_u32 (at + 8) u e3) w4 (omega arith) (omega arith) (omega arith) (omega arith) in
    let w2 : Wrote l2 (at + 4) 16 l6 = wrote_then (wrote_u32 (at + 4) l e2) w3 (omega arith) (omega arith) (omega arith) (omega arith) in
    let w1 : Wrote l1 (at + 2) 18 l6 = wrote_then (wrote_u16 (at + 2) 17 e1) w2 (omega arith) (omega arith) (omega arith) (omega arith) in
    let w0 : Wrote l0 at 20 l6 = wrote_then (wrote_u16 at 18 e0) w1 (omega arith) (omega arith) (omega arith) (omega arith) in
    let n1 : at + 20 ≤ length l1 = omega (arith, (wrote_u16 at 18 e0).sized) in
    let n2 : at + 20 ≤ length l2 = omega (arith, (wrote_u16 (at + 2) 17 e1).sized) in
    let n3 : at + 20 ≤ length l3 = omega (arith, (wrote_u32 (at + 4) l e2).sized) in
    let n4 : at + 20 ≤ length l4 = omega (arith, (wrote_u32 (at + 8) u e3).sized) in
    let n5 : at + 20 ≤ length l5 = omega (arith, (wrote_u32 (at + 12) f e4).sized) in (
      w0,
      record {
        sized = u16_kept w1 at (inl (omega arith)) ∙ u16_put l0 at 18 e0 (omega arith) (omega arith);
        kind = u16_kept w2 (at + 2) (inl (omega arith)) ∙ u16_put l1 (at + 2) 17 e1 (omega arith) (omega arith);
        least = u32_kept w3 (at + 4) (inl (omega arith)) ∙ u32_put l2 (at + 4) l e2 (omega arith) (omega arith);
        greatest = u32_kept w4 (at + 8) (inl (omega arith)) ∙ u32_put l3 (at + 8) u e3 (omega arith) (omega arith);
        first = u32_kept w5 (at + 12) (inl (omega arith)) ∙ u32_put l4 (at + 12) f e4 (omega arith) (omega arith);
        count = u32_put l5 (at + 16) n e5 (omega arith) (omega arith);
      },
    )

pub shown_put : (l0 l1 l2 l3 l4 l5 : List ℕ) (at f n m : ℕ) →
    l1 ≡ sets l0 at (le16 12) →
    l2 ≡ sets l1 (at + 2) (le16 19) →
    l3 ≡ sets l2 (at + 4) (le32 f) →
    l4 ≡ sets l3 (at + 8) (le32 n) →
    l5 ≡ sets l4 (at + 12) (le16 m) → at + 14 ≤ length l0 → f < 4294967296 → n < 4294967296 → m < 65536 → Wrote l0 at 14 l5 × ShownAt l5 at f n m
shown_put l0 l1 l2 l3 l4 l5 at f n m e0 e1 e2 e3 e4 h b0 b1 b2 =
    let w4 : Wrote l4 (at + 12) 2 l5 = wrote_u16 (at + 12) m e4 in
    let w3 : Wrote l3 (at + 8) 6 l5 = wrote_then (wrote_u32 (at + 8) n e3) w4 (omega arith) (omega arith) (omega arith) (omega arith) in
    let w2 : Wrote l2 (at + 4) 10 l5 = wrote_then (wrote_u32 (at + 4) f e2) w3 (omega arith) (omega arith) (omega arith) (omega arith) in
    let w1 : Wrote l1 (at + 2) 12 l5 = wrote_then (wrote_u16 (at + 2) 19 e1) w2 (omega arith) (omega arith) (omega arith) (omega arith) in
    let w0 : Wrote l0 at 14 l5 = wrote_then (wrote_u16 at 12 e0) w1 (omega arith) (omega arith) (omega arith) (omega arith) in
    let n1 : at + 14 ≤ length l1 = omega (arith, (wrote_u16 at 12 e0).sized) in
    let n2 : at + 14 ≤ length l2 = omega (arith, (wrote_u16 (at + 2) 19 e1).sized) in
    let n3 : at + 14 ≤ length l3 = omega (arith, (wrote_u32 (at + 4) f e2).sized) in
    let n4 : at + 14 ≤ length l4 = omega (arith, (wrote_u32 (at + 8) n e3).sized) in (
      w0,
      record {
        sized = u16_kept w1 at (inl (omega arith)) ∙ u16_put l0 at 12 e0 (omega arith) (omega arith);
        kind = u16_kept w2 (at + 2) (inl (omega arith)) ∙ u16_put l1 (at + 2) 19 e1 (omega arith) (omega arith);
        first = u32_kept w3 (at + 4) (inl (omega arith)) ∙ u32_put l2 (at + 4) f e2 (omega arith) (omega arith);
        count = u32_kept w4 (at + 8) (inl (omega arith)) ∙ u32_put l3 (at + 8) n e3 (omega arith) (omega arith);
        mark = u16_put l4 (at + 12) m e4 (omega arith) (omega arith);
      },
    )
