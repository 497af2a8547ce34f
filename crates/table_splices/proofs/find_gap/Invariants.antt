-- The loop's invariant: the walk has come past the job `before` to the next one, `behind` (`ToGap`). The measure is how far `before` is
-- below j.
use Prim.Native.Nat.{◌-◌}
use Rattle.spec_table.specs.Table.{decode}
use Rattle.table_splices.proofs.ToGap.{ToGap}
use Rattle.table_splices.proofs.find_gap.Given as goal

abbrev pub invariant-loop-behind : goal.invariant-loop-behind
invariant-loop-behind l = ToGap (decode l.t) l.s l.x l.j l.before l.behind

abbrev pub decreases-loop-behind : goal.decreases-loop-behind
decreases-loop-behind l = l.j - l.before
