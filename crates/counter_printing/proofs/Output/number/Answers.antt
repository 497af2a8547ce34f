-- A space, and the digits behind it.
use Rattle.std.proofs.Common.{arith}
use Rattle.counter_printing.proofs.WrittenText.{field_short}
use Rattle.counter_printing.proofs.Output.number.Goals as goal

pub decimal-requires : goal.decimal-requires
decimal-requires c = omega (arith, field_short c.args.n (omega arith))

pub returns-clause-short : goal.returns-clause-short
returns-clause-short c = omega (arith, field_short c.args.n (omega arith))
