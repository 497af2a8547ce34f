-- The records on bench x's chain one by one. The loop's invariant: what is left of the walk ends as the whole does. The
-- measure is the number of job numbers above the last one read.
use Prim.Native.Nat.{◌-◌}
use Rattle.table_pair.proofs.AlongChain.{Along}
use Rattle.table_pair.proofs.walk.Given as goal

abbrev pub invariant-loop-j : goal.invariant-loop-j
invariant-loop-j l = Along l.t l.s l.x l.y l.met l.before l.records l.j

abbrev pub decreases-loop-j : goal.decreases-loop-j
decreases-loop-j l = l.jobs - l.before
