-- `verdict_on` meets its contract: a claim holds where sets answer it exactly if it asks for a member.
use Rattle.claims.proofs.DecidedLaws.{verdict_holds, verdict_denied}
use Rattle.claims.proofs.decision.verdict_on.Goals as goal

pub returns-then-asks_place-answered : goal.returns-then-asks_place-answered
returns-then-asks_place-answered c = λ sheet names. verdict_holds c.args.claim sheet names c.args.answered c.asks_place.ensures c.if-asks_place-answered.true

pub returns-else-asks_place-answered : goal.returns-else-asks_place-answered
returns-else-asks_place-answered c = λ sheet names. verdict_denied c.args.claim sheet names c.args.answered c.asks_place.ensures c.if-asks_place-answered.false
