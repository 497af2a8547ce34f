-- The loop's invariant: `lower` is the greatest load below `load` of the benches that were passed (`LowerBefore`).
use Prim.Native.Nat.{◌+◌}
use Rattle.sharing_loads.proofs.Lower.{LowerBefore}
use Rattle.sharing_loads.proofs.next_lower.Given as goal

abbrev pub invariant-loop-n : goal.invariant-loop-n
invariant-loop-n l = LowerBefore l.loads l.load (l.n-index + 1) l.lower
