-- No values: the number tells all.
use Rattle.jobboard.proofs.Reports.{reported_number}
use Rattle.jobboard.proofs.jobboard_check.Goals as goal

pub returns : goal.returns
returns c = reported_number c.form_check.ensures c.number.ensures
