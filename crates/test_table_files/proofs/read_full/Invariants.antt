-- The bytes read lie within those lent. The measure is how many are left.
use Rattle.std.proofs.Common.{◌-◌, ◌≤◌, length}
use Rattle.test_table_files.proofs.read_full.Given as goal

abbrev pub invariant-loop-done : goal.invariant-loop-done
invariant-loop-done g l = l.done ≤ length l.bytes

abbrev pub decreases-loop-done : goal.decreases-loop-done
decreases-loop-done g l = length l.bytes - l.done
