-- The loop's invariant: the reader can go on, and what was lent is as long as it was.
use Rattle.counter_io.proofs.Serving.{Going}
use Rattle.counter_io.proofs.converse.Given as goal

abbrev pub invariant-loop : goal.invariant-loop
invariant-loop g l = Going l.initial.bytes l.initial.out l.bytes l.out l.initial.reader l.reader
