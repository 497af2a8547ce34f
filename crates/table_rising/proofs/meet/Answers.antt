-- A job is met by its record: it fits, so its holder is a bench, and it is due there; else all stays as it was.
use Rattle.std.proofs.Common.{sym, arith}
use Rattle.table_size.specs.Sizes.{BenchIn}
use Rattle.table_record_form.proofs.KindOfRecord.{Fits, fitting_fits}
use Rattle.table_rising.proofs.Meeting.{read_bench_lem}
use Rattle.table_rising.proofs.meet.Goals as goal
use Rattle.table_rising.proofs.meet.Goals.{After-name_at-x, In-Fitting}

-- the record fits
fits : (c : In-Fitting) → Fits c.args.s.benches c.read_record-r.result
fits c = fitting_fits c.args.s.benches c.read_record-r.result (sym c.in-Fitting.ensures)

pub name_at-x-requires-clause-le_k : goal.name_at-x-requires-clause-le_k
name_at-x-requires-clause-le_k c = (fits (goal.at.name_at-x-requires-clause-le_k c).In-Fitting).holder_least

pub name_at-x-requires-clause-k_bound : goal.name_at-x-requires-clause-k_bound
name_at-x-requires-clause-k_bound c = (fits (goal.at.name_at-x-requires-clause-k_bound c).In-Fitting).holder_most

-- its holder is a bench
bench : (c : After-name_at-x) → BenchIn c.args.s c.name_at-x.result
bench c = read_bench_lem c.args.s c.read_record-r.ensures (sym c.in-Fitting.ensures) c.name_at-x.ensures

pub bounds-due-x : goal.bounds-due-x
bounds-due-x c = omega (arith, (bench (goal.at.bounds-due-x c).After-name_at-x).most, c.args.s.benches_most)

pub overflow_add-loads : goal.overflow_add-loads
overflow_add-loads c =
    omega (arith, c.requires.before.below c.name_at-x.result (bench (goal.at.overflow_add-loads c).After-name_at-x), c.requires.job_in.most, c.args.s.jobs_most)
