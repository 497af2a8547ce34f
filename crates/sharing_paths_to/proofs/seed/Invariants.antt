-- The loop's invariant: the benches of this load below x are found (`Seeding`).
use Prim.Native.Nat.{ℕ, ◌+◌, ◌≤◌}
use Rattle.spec_table.specs.Board.{Board}
use Rattle.graph_lists.specs.Arrays.{at}
use Rattle.sharing_paths_to.specs.ClosingSearch.{Rounds}
use Rattle.sharing_paths_to.proofs.Seeding.{Seeding}
use Rattle.sharing_paths_to.proofs.seed.Given as goal

abbrev pub invariant-loop-x : goal.invariant-loop-x
invariant-loop-x l =
    (b c : Board) (y : ℕ) → at l.loads y + 2 ≤ l.load → Rounds b c l.fn.s l.loads y l.load l.found l.initial.queue l.initial.came → Seeding b c l.fn.s l.loads y l.load l.found l.x l.end l.queue l.came
