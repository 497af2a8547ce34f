-- The marked benches are written to the list. The loop's invariant: so are those before x.
use Rattle.sharing_tight_set.proofs.AsSet.{Writing}
use Rattle.sharing_tight_set.proofs.write.Given as goal

abbrev pub invariant-loop-x : goal.invariant-loop-x
invariant-loop-x l = Writing l.initial.list l.marks l.list l.count l.x
