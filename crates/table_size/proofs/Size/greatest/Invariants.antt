-- The loop's invariant: `most` is the greatest number of the benches before the next.
use Rattle.std.proofs.Common.{get_or}
use Rattle.table_size.proofs.Highest.{Highest}
use Rattle.table_size.proofs.Size.greatest.Given as goal

abbrev pub invariant-loop-n : goal.invariant-loop-n
invariant-loop-n l = Highest l.fn.self.benches (λ x. get_or l.fn.numbers x 0) l.n-index l.most
