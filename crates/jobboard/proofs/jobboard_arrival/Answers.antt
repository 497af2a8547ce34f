-- The holder, the bench that rose and the moved jobs.
use Rattle.jobboard.proofs.Reports.{reported_values}
use Rattle.jobboard.proofs.jobboard_arrival.Goals as goal

pub returns : goal.returns
returns c = reported_values _ _ c.arrival.ensures tt c.three.ensures
