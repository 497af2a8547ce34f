-- The loop's invariant: the reader can go on, and what was lent is as long as it was. The measure is what is left of the chunk.
use Rattle.std.proofs.Common.{length}
use Rattle.counter_io.proofs.Serving.{Going}
use Rattle.counter_io.proofs.answer.Given as goal

abbrev pub invariant-loop-chunk : goal.invariant-loop-chunk
invariant-loop-chunk g l = Going l.initial.bytes l.initial.out l.bytes l.out l.initial.reader l.reader

abbrev pub decreases-loop-chunk : goal.decreases-loop-chunk
decreases-loop-chunk g l = length l.chunk
