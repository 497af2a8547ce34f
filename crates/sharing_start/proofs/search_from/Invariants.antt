-- The loop's invariant: the search from x has come to place `begin` (`Seeking`). The measure is the number of benches that may be left.
use Prim.Native.Nat.{◌-◌}
use Rattle.spec_table.specs.Table.{most_benches, decode}
use Rattle.graph_lists.specs.Arrays.{at}
use Rattle.sharing_start.proofs.Starting.{Seeking}
use Rattle.sharing_start.proofs.search_from.Given as goal

abbrev pub invariant-loop-begin : goal.invariant-loop-begin
invariant-loop-begin l =
    Seeking (decode l.t) l.s (at l.loads l.x) l.x l.begin l.end l.queue l.came

abbrev pub decreases-loop-begin : goal.decreases-loop-begin
decreases-loop-begin l = most_benches - l.begin
