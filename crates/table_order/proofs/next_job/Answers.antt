-- A standing job's next job is the lowest above it that its holder holds.
use Rattle.table_order.proofs.Ordered.{next_first}
use Rattle.table_order.proofs.next_job.Goals as goal

pub returns : goal.returns
returns c = next_first c.requires.in_order c.requires.t c.next.ensures.stored
