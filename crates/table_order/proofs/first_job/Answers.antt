-- The head of bench x's chain is the lowest job that x holds.
use Rattle.table_order.proofs.Ordered.{head_first}
use Rattle.table_order.proofs.first_job.Goals as goal

pub returns : goal.returns
returns c = head_first c.requires.in_order c.requires.bench_in c.head.ensures.stored
