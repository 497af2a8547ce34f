use Rattle.table_splices.proofs.ToGap.{to_gap_stands}
use Rattle.table_splices.proofs.find_gap.Goals as goal

pub next_job-behind-requires-clause-t : goal.next_job-behind-requires-clause-t
next_job-behind-requires-clause-t c = to_gap_stands c.requires.in_order c.requires.bench_in c.loop-behind.invariant c.loop-behind-test.true
