-- The loop's invariant: so many benches are counted, and with fewer the count did not end. The measure is how many
-- benches are left.
use Prim.Native.Nat.{◌-◌}
use Rattle.sharing_loads.specs.HeaviestLoad.{CountOf, NotBefore}
use Rattle.sharing_loads.proofs.count_stretches.Given as goal

abbrev pub invariant-loop-c : goal.invariant-loop-c
invariant-loop-c l = CountOf l.s l.loads l.c × NotBefore l.s l.loads l.c

abbrev pub decreases-loop-c : goal.decreases-loop-c
decreases-loop-c l = l.benches - l.c.benches
