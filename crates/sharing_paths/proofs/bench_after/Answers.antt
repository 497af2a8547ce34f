-- The next job's holder is read where there is a next job.
use Rattle.sharing_paths.proofs.bench_after.Goals as goal

pub holder-requires : goal.holder-requires
holder-requires c = record { holds_board = c.requires.holds_board; job_in = rw c.from.ensures (c.requires.job_at c.if-at-n.true) }
