-- One comparison is the two tests of `within`, by `wrapped_within`.
use Rattle.std.proofs.Common.{arith}
use Rattle.table_size.proofs.Sizes.{wrapped_within}
use Rattle.table_size.proofs.Size.has_job.Goals as goal

pub returns : goal.returns
returns c = wrapped_within c.args.self.jobs c.args.j _ (omega arith) (omega arith) (omega arith)
