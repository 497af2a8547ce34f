-- The benches in the set and the inside jobs.
use Rattle.jobboard.proofs.Reports.{reported_values}
use Rattle.jobboard.proofs.jobboard_tight_set.Goals as goal

pub returns : goal.returns
returns c = reported_values _ _ c.tight_set.ensures tt c.two.ensures
