-- No job is due at any bench.
use Rattle.table_rising.proofs.Meeting.{most_due}
use Rattle.table_rising.proofs.none_due.Goals as goal

pub returns : goal.returns
returns c = most_due c.args.s c.args.due.now c.greatest.ensures
