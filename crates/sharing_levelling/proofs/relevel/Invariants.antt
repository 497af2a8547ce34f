-- The loop flips one path after the other. Its invariant: the table is in order, the loads are the board's, `start` is where the next path
-- starts, and the paths flipped are levelling's (`Flipping`).
use Rattle.spec_table.specs.Table.{decode}
use Rattle.sharing_levelling.proofs.Flipping.{Flipping}
use Rattle.sharing_levelling.proofs.relevel.Given as goal

abbrev pub invariant-loop-paths : goal.invariant-loop-paths
invariant-loop-paths l = Flipping (decode l.initial.t) l.t l.s l.allowance l.loads l.path l.paths l.start
