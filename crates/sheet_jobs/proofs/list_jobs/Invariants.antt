-- The loop's invariant: the jobs from j on are listed by their holders.
use Prim.Native.Nat.{◌-◌}
use Rattle.spec_table.specs.Table.{decode}
use Rattle.sheet_jobs.proofs.JobListing.{ListedAfter}
use Rattle.sheet_jobs.proofs.list_jobs.Given as goal

abbrev pub invariant-loop-j : goal.invariant-loop-j
invariant-loop-j l = ListedAfter (decode l.t) l.s (l.j - 1) l.head l.next
