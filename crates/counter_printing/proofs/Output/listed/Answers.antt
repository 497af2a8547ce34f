-- One word behind the other.
use Rattle.std.proofs.Common.{arith}
use Rattle.counter_printing.proofs.WrittenText.{wrote_start, wrote_word}
use Rattle.counter_printing.proofs.Output.listed.Goals as goal

pub loop-i-init : goal.loop-i-init
loop-i-init c = record { wrote = wrote_start c.args.self.now; short = omega arith }

pub loop-i-preserved : goal.loop-i-preserved
loop-i-preserved c = record { wrote = wrote_word (omega arith) c.read.ensures c.loop-i.invariant.wrote c.number.ensures.wrote; short = omega arith }
