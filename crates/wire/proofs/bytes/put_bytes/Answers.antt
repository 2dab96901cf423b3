-- A copied part is a run of stores.
use Rattle.std.proofs.Common.{◌≡◌, ◌+◌, ◌-◌, length}
use Rattle.std.proofs.lemmas.List.Edits.{sets-eq}
use mathlib.Core.List.{append_assoc}
use mathlib.Core.Path.{refl}
use lib.Seq.{drop-drop}
use native.Mathlib.Omega.{arith}
use Rattle.wire.proofs.bytes.put_bytes.Goals as goal

pub returns : goal.returns
returns c =
    let a = c.args in
    let n : a.at + length a.bytes.now - a.at ≡ length a.bytes.now = omega arith in
    rw (n, c.copy_from_slice.ensures.after, sets-eq a.bytes.now a.out.now a.at c.requires, append_assoc, drop-drop) refl
