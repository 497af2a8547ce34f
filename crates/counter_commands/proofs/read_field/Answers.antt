-- A space and a digit begin a field.
use Rattle.std.proofs.Common.{arith}
use Rattle.counter_commands.proofs.Fields.{no_byte, no_space, no_digit, begins}
use Rattle.counter_commands.proofs.read_field.Goals as goal

pub returns-in_default : goal.returns-in_default
returns-in_default c = no_byte c.args.fields.now c.requires (omega arith)

pub returns-then-before-ne32 : goal.returns-then-before-ne32
returns-then-before-ne32 c = no_space c.args.fields.now c.requires (omega arith)

pub returns-in_err-n : goal.returns-in_err-n
returns-in_err-n c = rw c.from_residual.ensures (no_digit c.args.fields.now (omega arith) (omega arith) c.in_err-n.ensures)

pub loop-i-init : goal.loop-i-init
loop-i-init c =
    let b = begins c.args.fields.now (omega arith) (omega arith) c.in_ok-n.n c.in_ok-n.ensures in
    record { small = b.0; goes = b.1 }
