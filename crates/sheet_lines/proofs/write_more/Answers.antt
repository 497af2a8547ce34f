-- Blanks and jobs, one behind the other, are the line.
use native.Mathlib.Omega.{arith}
use Rattle.sheet_lines.proofs.OneLine.{more_written}
use Rattle.sheet_lines.proofs.write_more.Goals as goal

pub returns : goal.returns
returns c = more_written (omega arith) c.write_blanks.ensures c.write_jobs.ensures
