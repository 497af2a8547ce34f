-- No values: the number tells all.
use Rattle.jobboard.proofs.Reports.{reported_number}
use Rattle.jobboard.proofs.jobboard_blank.Goals as goal

pub returns : goal.returns
returns c = reported_number c.blank.ensures c.number.ensures
