-- The sheet's length.
use Rattle.jobboard.proofs.Reports.{reported_values}
use Rattle.jobboard.proofs.jobboard_sheet.Goals as goal

pub returns : goal.returns
returns c = reported_values _ _ c.sheet.ensures tt c.one.ensures
