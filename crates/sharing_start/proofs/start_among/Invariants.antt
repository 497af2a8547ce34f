-- The loop's invariant: the benches of this load before x were searched from (`Searched`).
use Rattle.spec_table.specs.Table.{decode}
use Rattle.sharing_start.specs.PathStart.{Searched}
use Rattle.sharing_start.proofs.start_among.Given as goal

abbrev pub invariant-loop-x : goal.invariant-loop-x
invariant-loop-x l =
    Searched (decode l.t) l.fn.s l.load l.x l.found l.queue l.came
