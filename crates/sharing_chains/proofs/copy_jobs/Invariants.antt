-- At each standing job the one after it and its other bench. The loop's invariant: those of the jobs before j are copied.
use Rattle.sharing_chains.proofs.Copying.{JobsBefore}
use Rattle.sharing_chains.proofs.copy_jobs.Given as goal

abbrev pub invariant-loop-j : goal.invariant-loop-j
invariant-loop-j l = JobsBefore l.t l.next l.to l.j
