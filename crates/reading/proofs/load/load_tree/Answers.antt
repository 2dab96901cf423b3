-- The head, and then the records after it.
use Rattle.std.proofs.Common.{[], arith}
use Rattle.std.proofs.lemmas.Result.{err_from_is_err_and}
use Rattle.reading.proofs.Stages.{head_turned, head_read, head_loads}
use Rattle.reading.proofs.load.load_tree.Goals as goal

pub returns-in_err-head : goal.returns-in_err-head
returns-in_err-head c =
    let p = err_from_is_err_and c.from_residual.result c.from_residual.ensures.1 in
    rw (p.1, p.2) (record { names = []; labels = []; claims = []; loads = head_turned c.in_err-head.ensures })

pub load_records-requires : goal.load_records-requires
load_records-requires c =
    let h = head_read c.in_ok-head.ensures in
    (h.0, (h.1, record { group_room = c.requires; name_room = omega arith; label_room = omega arith; claim_room = omega arith }))

pub returns : goal.returns
returns c = record {
  names = c.load_records.new.names;
  labels = c.load_records.new.labels;
  claims = c.load_records.new.claims;
  loads = head_loads c.in_ok-head.ensures c.load_records.ensures;
}
