-- All jobs are met. The loop's invariant: those before `j` were, and of an encoded table those that are due are in turn.
use Rattle.std.proofs.Common.{◌-◌}
use Rattle.table_rising.specs.Passing.{Encoded}
use Rattle.table_rising.proofs.Meeting.{Meeting}
use Rattle.table_rising.proofs.InTurn.{InTurn}
use Rattle.table_rising.proofs.meet_all.Given as goal

abbrev pub invariant-loop-j : goal.invariant-loop-j
invariant-loop-j l = Meeting l.t l.s l.due l.loads l.count (l.j - 1) × (Encoded l.t l.s → InTurn l.t l.s l.due (l.j - 1))
