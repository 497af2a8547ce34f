-- The job and the records read.
use Rattle.jobboard.proofs.Reports.{reported_values}
use Rattle.jobboard.proofs.jobboard_between.Goals as goal

pub returns : goal.returns
returns c = reported_values _ _ c.between.ensures tt c.two.ensures
