-- `start_runs` meets its contract.
use Rattle.std.proofs.Common.{arith}
use lib.Seq.{get_or-set_same}
use Rattle.runs.proofs.StartedLaws.{started_root, started_told}
use Rattle.runs.proofs.starts.start_runs.Goals as goal

pub loop-i-init : goal.loop-i-init
loop-i-init c =
    let t = c.args.groups.now.tabled in (
      omega arith,
      started_root t.tree t.rooted c.requires.balanced c.requires.top (get_or-set_same c.args.firsts.now 0 1 0 (omega arith))
          (get_or-set_same c.args.ends.now 0 1 0 (omega arith)),
    )

pub returns : goal.returns
returns c = started_told c.args.groups.now.tabled c.requires c.loop-i.invariant.1 (omega arith)

-- after the last group
pub returns-2 : goal.returns-2
returns-2 c = started_told c.args.groups.now.tabled c.requires c.start_son.ensures (omega arith)
