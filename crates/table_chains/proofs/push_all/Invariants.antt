-- All jobs are pushed. The loop's invariant: the jobs from j on were pushed, and the count is of those that stand; what is left to push
-- makes the whole.
use Prim.Native.Nat.{◌-◌}
use Rattle.table_chains.proofs.Rebuilding.{Pushing}
use Rattle.table_chains.proofs.push_all.Given as goal

abbrev pub invariant-loop-j : goal.invariant-loop-j
invariant-loop-j l = Pushing l.initial.t l.t l.s l.count (l.j - 1)
