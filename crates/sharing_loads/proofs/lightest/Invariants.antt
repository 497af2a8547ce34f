-- The loop's invariant: `low` is the lightest of the benches before x.
use Prim.Native.Nat.{◌<◌}
use Rattle.sharing_loads.specs.LoadRanks.{LightestAt}
use Rattle.sharing_loads.proofs.lightest.Given as goal

abbrev pub invariant-loop-x : goal.invariant-loop-x
invariant-loop-x l = (l.low < l.x) × LightestAt l.loads (λ z. z) 1 l.x l.low
