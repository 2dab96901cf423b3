-- The contract of `sheet_ranges` settles every exit (document 01, "We agree on this").
use Prim.Native.Nat.{ℕ, ◌+◌, ◌*◌}
use mathlib.Core.Path.{◌≡◌, refl}
use mathlib.Core.List.{List}
use native.Mathlib.Omega.{arith}
use Rattle.wire.specs.Limits.{range_bytes}
use Rattle.wire.specs.SheetFormat.{read_sheet}
use Rattle.wire.specs.Encoding.{Bytes}
use Rattle.meaning.specs.Sheet.{Sheet, Group}
use Rattle.meaning.specs.Sets.{count}
use Rattle.meaning.specs.Fits.{Possible}
use Rattle.meaning.specs.OfRecords.{sheet_of}
use Rattle.sizes.proofs.Readable.{readable_possible_or_not, readable_arrangement_once}
use Rattle.replies.specs.Reply.{call}
use Rattle.replies.specs.Alike.{Alike}
use Rattle.replies.proofs.Alike.{alike_then, alike_many, u16_alike, u32_alike}
use Rattle.replies.proofs.Exits.{once_read, once_possible, once_room, replied_alike}
use Rattle.range_reply.specs.RangesReply.{range_at, range_least, range_greatest, run_first, run_count, RangesIn, RangesCall}
use Rattle.range_reply.proofs.RangesOnce.{range_once}

-- Ranges.
-- the record of a group, from its range and its run
module _ (s : Sheet) {out out' : List ℕ} (x : Bytes out) (y : Bytes out') (v : RangesIn s out) (w : RangesIn s out') where
  ranges_alike : Possible s → ((g : ℕ) → Group s g → (run_first out g ≡ run_first out' g) × (run_count out g ≡ run_count out' g))
      → Alike out out' 0 (range_bytes * s.size)
  ranges_alike p runs =
      alike_many range_bytes s.size
      (λ g l k.
      let q : Group s g = omega arith in
      let i = range_at g in
      let f = v.frame g q in
      let f' = w.frame g q in
      let e = range_once (range_least out g) (range_least out' g) (range_greatest out g) (range_greatest out' g) (v.range g q) (w.range g q)
      (count p.0 g) (p.0, p.1, refl) in
      let o = runs g q in
      alike_then (alike_then (alike_then (alike_then (alike_then
      (u16_alike x y i f.0 f'.0)
      (u16_alike x y (i + 2) f.1 f'.1))
      (u32_alike x y (i + 4) e.0))
      (u32_alike x y (i + 8) e.1))
      (u32_alike x y (i + 12) o.0))
      (u32_alike x y (i + 16) o.1))

-- Two exits of `sheet_ranges` that meet its contract for the same sheet and the same buffer at entry are the same: the number
-- returned and every byte.
pub ranges_settled : (sheet : List ℕ) {before after after' : List ℕ} {r r' : ℕ} → RangesCall sheet (call before r after)
    → RangesCall sheet (call before r' after') → Bytes after → Bytes after' → (r ≡ r') × (after ≡ after')
ranges_settled sheet v w x y =
    once_read (λ z. z) (read_sheet sheet) v w
    (λ d e v w. once_possible (λ z. z) (readable_possible_or_not sheet d e) v w
    (λ p v w. once_room (λ z. z) v w
    (λ a b m n. replied_alike a b
    (ranges_alike (sheet_of d.groups) x y m n p (readable_arrangement_once sheet d e p m.arranged n.arranged)))))
