-- `decimal` calls itself at n / 10, so its measure is n.
use Rattle.counter_printing.proofs.Output.+decimal.Given as goal

abbrev pub decreases-decimal : goal.decreases-decimal
decreases-decimal l = l.n
