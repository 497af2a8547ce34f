-- Number, load and jobs, one behind the other, are the line.
use native.Mathlib.Omega.{arith}
use Rattle.sheet_lines.proofs.OneLine.{first_written}
use Rattle.sheet_lines.proofs.write_first.Goals as goal

pub returns : goal.returns
returns c = first_written c.requires.x_bound c.requires.load_bound (omega arith) c.write_bench_number.ensures c.write_number.ensures c.write_jobs.ensures
