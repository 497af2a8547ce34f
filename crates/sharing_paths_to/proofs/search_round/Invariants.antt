-- The loop's invariant: the round has come to the benches at places `begin` to `end` (`InRound`). It is said of any arrays that `seed` made those
-- at the loop's start of. The measure is the number of benches that may be left.
use Prim.Native.Nat.{◌+◌, ◌-◌}
use Rattle.spec_table.specs.Board.{Board}
use Rattle.spec_table.specs.Table.{most_benches, decode}
use Rattle.sharing_paths_to.specs.ClosingSearch.{InRound}
use Rattle.sharing_paths_to.proofs.search_round.Given as goal

abbrev pub invariant-loop-begin : goal.invariant-loop-begin
invariant-loop-begin l =
    (c : Board) → InRound (decode l.t) c l.s l.loads l.x l.load l.initial.begin l.initial.end l.initial.level l.initial.queue l.initial.came → InRound (decode l.t) c l.s l.loads l.x l.load l.begin l.end l.level l.queue l.came

abbrev pub decreases-loop-begin : goal.decreases-loop-begin
decreases-loop-begin l = most_benches + 1 - l.begin
