use Rattle.std.proofs.Common.{sym, arith}
use Rattle.labels.proofs.Hashes.{unseen, seen_set, seen_kept}
use Rattle.labels.proofs.used.used_label.Goals as goal

pub returns-then-not-seen-hash : goal.returns-then-not-seen-hash
returns-then-not-seen-hash c =
    let hash = c.label_hash-hash in
    let m = c.args.seen.now in (
      sym (unseen m _ (rw (← hash.ensures.0) c.if-not-seen-hash.true) _ _ _ c.requires.1.1),
      (
        λ i l. seen_kept m hash.result (omega arith) _ (c.requires.1.1 i l),
        rw (← hash.ensures.0) (seen_set m hash.result (omega arith)),
      ),
    )

pub returns : goal.returns
returns c =
    let hash = c.label_hash-hash in
    (c.used_before.ensures, (c.requires.1.1, rw (← hash.ensures.0) c.if-not-seen-hash.false))
