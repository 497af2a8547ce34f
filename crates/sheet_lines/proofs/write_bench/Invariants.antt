-- The loop's invariant: with the lines that are written, what is left of the list makes all lines behind the first. The
-- measure is the page behind the lines that are written.
use Prim.Native.Nat.{ℕ, ◌-◌}
use mathlib.Core.List.{List}
use lib.ListN.{length}
use Rattle.sheet_jobs.specs.JobLists.{ListFrom}
use Rattle.sheet_lines.proofs.BenchLines.{LinesLeft}
use Rattle.sheet_lines.proofs.write_bench.Given as goal

abbrev pub invariant-loop-j : goal.invariant-loop-j
invariant-loop-j l =
    (js : List ℕ) → ListFrom l.next l.initial.j js → LinesLeft l.next l.initial.page l.page l.initial.end l.end l.j js

abbrev pub decreases-loop-j : goal.decreases-loop-j
decreases-loop-j l = length l.page - l.end
