-- The bench that fell and the moved jobs.
use Rattle.jobboard.proofs.Reports.{reported_values}
use Rattle.jobboard.proofs.jobboard_closing.Goals as goal

pub returns : goal.returns
returns c = reported_values _ _ c.closing-answer.ensures tt c.two.ensures
