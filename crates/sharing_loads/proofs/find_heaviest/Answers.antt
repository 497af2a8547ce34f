use native.Mathlib.Omega.{arith}
use Rattle.sharing_loads.proofs.CountingLoads.{standing_few, count_start, count_ends_lem}
use Rattle.sharing_loads.proofs.find_heaviest.Goals as goal

pub overflow_cast-start : goal.overflow_cast-start
overflow_cast-start c = omega (arith, standing_few c.requires.sound_table c.standing.ensures)

pub count_stretches-long-requires-clause-count_of : goal.count_stretches-long-requires-clause-count_of
count_stretches-long-requires-clause-count_of c = count_start c.requires.sound_table c.requires.loaded c.standing.ensures

pub returns : goal.returns
returns c = rw c.from.ensures (count_ends_lem c.requires.sound_table c.requires.loaded c.loop-c.invariant.0 c.loop-c.invariant.1 c.loop-c-test.false)
