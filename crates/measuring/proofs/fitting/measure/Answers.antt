-- `measure` meets its contract: no flag forbids anything, so the root's interval says whether some sets fit.
use Rattle.measuring.proofs.FittingLaws.{root_told, arrangeable}
use Rattle.measuring.proofs.fitting.measure.Goals as goal

pub returns : goal.returns
returns c =
    let t = c.args.groups.now.tabled in
    let w = c.measure_sheet.ensures in
    record { told = root_told t w _ c.is_possible.ensures; measured = arrangeable t w }
