-- The loop's invariant: so many of the benches more are counted (`CountedOn`).
use Rattle.graph_lists.specs.Arrays.{at}
use Rattle.sharing_loads.proofs.CountingLoads.{CountedOn}
use Rattle.sharing_loads.proofs.count_on.Given as goal

abbrev pub invariant-loop-n : goal.invariant-loop-n
invariant-loop-n l = CountedOn (at l.loads) l.fn.c.benches l.initial.left l.more l.n-index l.best l.left
