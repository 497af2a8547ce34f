-- The turned paths, which are within the allowance, and whether the board is level.
use Rattle.jobboard.proofs.Reports.{reported_values}
use Rattle.jobboard.proofs.jobboard_levelling.Goals as goal

pub returns : goal.returns
returns c = reported_values _ _ c.levelling.ensures c.ranges.allowance.fits c.two.ensures
