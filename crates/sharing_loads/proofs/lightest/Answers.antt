use native.Mathlib.Omega.{arith}
use Rattle.sharing_loads.proofs.LowestLoad.{lightest_start, lightest_lower, lightest_same}
use Rattle.sharing_loads.proofs.lightest.Goals as goal
use Rattle.sharing_loads.proofs.lightest.Goals.{then-loads-x, else-loads-x}

pub loop-x-init : goal.loop-x-init
loop-x-init c = (omega arith, lightest_start)

pub loop-x-preserved : goal.loop-x-preserved
loop-x-preserved c = (
  elim c.if-loads-x.branch [ then-loads-x w ↦ omega (arith, w.low-is) | else-loads-x w ↦ omega (arith, w.low-is) ],
  elim c.if-loads-x.branch [
    | then-loads-x w ↦ rw w.low-is (lightest_lower c.loop-x.invariant.1 (omega arith) (omega (arith, w.if-loads-x.true)) (λ e. omega (arith, w.if-loads-x.true)))
    | else-loads-x w ↦ rw w.low-is (lightest_same c.loop-x.invariant.1 w.if-loads-x.false (λ e. omega arith))
  ],
)
