-- Whether the board is level.
use Rattle.jobboard.proofs.Reports.{reported_values}
use Rattle.jobboard.proofs.jobboard_level_check.Goals as goal

pub returns : goal.returns
returns c = reported_values _ _ c.level_check.ensures tt c.one.ensures
