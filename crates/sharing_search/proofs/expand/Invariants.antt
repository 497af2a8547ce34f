-- The loop's invariant: every search that is at bench x has taken the steps by its jobs before j (`Expanding`). The measure is the number of
-- jobs that may be left.
use Rattle.spec_table.specs.Table.{most_jobs, decode}
use Rattle.graph_lists.proofs.Listing.{left}
use Rattle.sharing_search.proofs.OnBoard.{Expanding}
use Rattle.sharing_search.proofs.expand.Given as goal

abbrev pub invariant-loop-j : goal.invariant-loop-j
invariant-loop-j l =
    Expanding (decode l.t) l.s l.x l.job l.limit l.found-2 l.initial.queue l.initial.came l.j l.found l.queue l.came

abbrev pub decreases-loop-j : goal.decreases-loop-j
decreases-loop-j l = left most_jobs l.j
