-- The loop's invariant: every search that is at the level has taken the steps from its benches before `place` (`Sweeping`).
use Rattle.spec_table.specs.Table.{decode}
use Rattle.sharing_search.proofs.OnBoard.{Sweeping}
use Rattle.sharing_search.proofs.expand_level.Given as goal

abbrev pub invariant-loop-place : goal.invariant-loop-place
invariant-loop-place l =
    Sweeping (decode l.t) l.s l.begin l.end l.initial.queue l.initial.came l.place l.found l.queue l.came
