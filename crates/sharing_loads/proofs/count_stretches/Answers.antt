use native.Mathlib.Omega.{arith}
use Rattle.sharing_loads.proofs.CountingLoads.{not_ended}
use Rattle.sharing_loads.proofs.count_stretches.Goals as goal

pub loop-c-preserved : goal.loop-c-preserved
loop-c-preserved c = (c.count_on-next.ensures.count_of_2, λ m l. not_ended c.count_on-next.ensures.count_of_2 c.if-next.false m (omega arith))
