-- The benches with load h or more are marked, and it is told whether there are others. The loop's invariant: those before x are, and of
-- those it is told.
use Rattle.sharing_tight_set.proofs.AsSet.{Marking}
use Rattle.sharing_tight_set.proofs.mark_heavy.Given as goal

abbrev pub invariant-loop-x : goal.invariant-loop-x
invariant-loop-x l = Marking l.loads l.h l.fn.s.benches l.marks l.less l.x
