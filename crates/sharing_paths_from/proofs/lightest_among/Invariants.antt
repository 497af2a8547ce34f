-- The loop's invariant: `low` is the lightest of the benches before this place (`Among`).
use Prim.Native.Nat.{◌+◌}
use Rattle.sharing_paths_from.proofs.Choosing.{Among}
use Rattle.sharing_paths_from.proofs.lightest_among.Given as goal

abbrev pub invariant-loop-y : goal.invariant-loop-y
invariant-loop-y l = Among l.queue l.begin l.end l.loads l.low (l.begin + 1 + l.y-index)
