-- The digits of n are those of n / 10 and the last one.
use native.Mathlib.Omega.{arith}
use Rattle.counter_printing.proofs.WrittenText.{digits_room, wrote_last}
use Rattle.counter_printing.proofs.Output.+decimal.Goals as goal

pub decimal-requires : goal.decimal-requires
decimal-requires t c = (omega arith, omega (arith, digits_room c.args.n c.if-n-lt10.false))

pub byte-requires-else-n-lt10 : goal.byte-requires-else-n-lt10
byte-requires-else-n-lt10 t c = omega (arith, digits_room c.args.n c.if-n-lt10.false)

pub returns-else-n-lt10 : goal.returns-else-n-lt10
returns-else-n-lt10 t c = wrote_last c.args.n c.if-n-lt10.false c.decimal.ensures c.byte-else-n-lt10.ensures
