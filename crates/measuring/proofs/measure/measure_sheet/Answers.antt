-- `measure_sheet` meets its contract: every group is the first one or below it.
use Rattle.measuring.proofs.DoneLaws.{all_done}
use Rattle.measuring.proofs.measure.measure_sheet.Goals as goal

pub returns : goal.returns
returns c =
    let t = c.args.groups.now.tabled in
    all_done _ _ _ _ _ _ t.tree t.rooted c.measure_group.ensures.done c.measure_group.ensures.spanned
