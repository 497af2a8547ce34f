-- The load of a bench.
use Rattle.jobboard.proofs.Reports.{reported_values}
use Rattle.jobboard.proofs.jobboard_load.Goals as goal

pub returns : goal.returns
returns c = reported_values _ _ c.load.ensures tt c.one.ensures
