-- The marked benches are counted and their loads added up. The loop's invariant: so are those before x.
use Rattle.sharing_tight_set.proofs.AsSet.{Measuring}
use Rattle.sharing_tight_set.proofs.measure.Given as goal

abbrev pub invariant-loop-x : goal.invariant-loop-x
invariant-loop-x l = Measuring l.loads l.marks l.count l.jobs l.x
