-- The loop's invariant: the benches heavier than this load were searched from (`Searched`). The measure is the load.
use Rattle.spec_table.specs.Table.{decode}
use Rattle.sharing_start.specs.PathStart.{Searched}
use Rattle.sharing_start.proofs.first_start.Given as goal

abbrev pub invariant-loop-load : goal.invariant-loop-load
invariant-loop-load l = Searched (decode l.t) l.s l.load 1 l.found l.queue l.came

abbrev pub decreases-loop-load : goal.decreases-loop-load
decreases-loop-load l = l.load
