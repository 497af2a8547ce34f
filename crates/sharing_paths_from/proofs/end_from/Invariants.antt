-- The loop's invariant, on every board that the contract speaks of: the levels before place `begin` were looked at, and `best` comes first
-- of their benches (`Levels`). The measure is the number of benches that may be left.
use Prim.Native.Nat.{ℕ, ◌+◌, ◌-◌}
use Rattle.spec_table.specs.Board.{Board}
use Rattle.spec_table.specs.Table.{most_benches, decode}
use Rattle.sharing_paths_from.specs.ArrivalSearch.{FirstLevel}
use Rattle.sharing_paths_from.proofs.Levels.{Levels}
use Rattle.sharing_paths_from.proofs.end_from.Given as goal

abbrev pub invariant-loop-begin : goal.invariant-loop-begin
invariant-loop-begin l =
    (b : Board) (job other : ℕ) → FirstLevel (decode l.t) b l.s l.loads l.x job other l.goal l.end-2 l.initial.queue l.initial.came → Levels b l.s.benches l.loads l.x l.goal l.best l.bound l.begin l.end l.level l.queue l.came

abbrev pub decreases-loop-begin : goal.decreases-loop-begin
decreases-loop-begin l =
    most_benches + 1 - l.begin
