-- The loop's invariant: the rounds from the benches heavier than `load` are over, and did not find x (`Rounds`). The measure is `load`.
use Rattle.spec_table.specs.Board.{Board}
use Rattle.spec_table.specs.Table.{decode}
use Rattle.table_board.specs.BoardView.{Loaded}
use Rattle.sharing_paths_to.specs.ClosingSearch.{WithoutJob, Rounds}
use Rattle.sharing_paths_to.proofs.find_to.Given as goal

abbrev pub invariant-loop-load : goal.invariant-loop-load
invariant-loop-load l =
    (c : Board) → WithoutJob (decode l.t) c l.s l.x → Loaded c l.loads → Rounds (decode l.t) c l.s l.loads l.x l.load l.found l.path l.came

abbrev pub decreases-loop-load : goal.decreases-loop-load
decreases-loop-load l = l.load
