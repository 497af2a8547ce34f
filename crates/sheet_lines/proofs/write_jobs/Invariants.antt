-- The loop's invariant: with the cells that are written, what is left of the list makes the whole line.
use Prim.Native.Nat.{ℕ}
use mathlib.Core.List.{List}
use Rattle.sheet_jobs.specs.JobLists.{ListFrom}
use Rattle.sheet_lines.proofs.OneLine.{Cells}
use Rattle.sheet_lines.proofs.write_jobs.Given as goal

abbrev pub invariant-loop-cell : goal.invariant-loop-cell
invariant-loop-cell l =
    (js : List ℕ) → ListFrom l.next l.initial.j js → Cells l.next l.initial.page l.page l.at l.cell l.j js
