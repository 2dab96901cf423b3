-- To read what is left from here is to read all, and the table has the claims so far.
use Rattle.std.proofs.Common.{◌≤◌, length}
use Rattle.wire.specs.Limits.{claim_limit}
use Rattle.wire.specs.SheetFormat.{claim_tests, claim_of}
use Rattle.claim_records.specs.ClaimTable.{claims_in}
use Rattle.reading.specs.Loaded.{AllHeld}
use Rattle.reading.proofs.Many.{Left}
use Rattle.reading.proofs.load.load_claims.Given as goal

abbrev pub invariant-loop-i : goal.invariant-loop-i
invariant-loop-i l = record {
  room : l.at ≤ length l.s;
  long : claim_limit ≤ length l.claims;
  left : Left (claim_tests l.head.names) claim_of l.s l.from l.head.claims l.first l.i l.at (claims_in l.s l.claims l.i);
  held : AllHeld l.s l.head.names l.claims l.i;
}
