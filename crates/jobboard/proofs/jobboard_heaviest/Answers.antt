-- The heaviest load.
use Rattle.jobboard.proofs.Reports.{reported_values}
use Rattle.jobboard.proofs.jobboard_heaviest.Goals as goal

pub returns : goal.returns
returns c = reported_values _ _ c.heaviest.ensures tt c.one.ensures
