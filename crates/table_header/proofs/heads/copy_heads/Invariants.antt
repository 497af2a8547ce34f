-- At each bench the head of its chain. The loop's invariant: those of the benches before `x` are copied.
use Rattle.std.proofs.Common.{◌-◌}
use Rattle.table_header.proofs.Copying.{HeadsTo}
use Rattle.table_header.proofs.heads.copy_heads.Given as goal

abbrev pub invariant-loop-x : goal.invariant-loop-x
invariant-loop-x l = HeadsTo l.t l.s l.heads (l.x - 1)
