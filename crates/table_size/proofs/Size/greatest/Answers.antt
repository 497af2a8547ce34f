use Rattle.std.proofs.Common.{ℕ, arith, length-drop}
use Rattle.std.proofs.lemmas.Grind.{common_steps}
use Rattle.std.proofs.lemmas.List.{length-take}
use Rattle.table_size.proofs.Highest.{highest_turn, highest_end}
use Rattle.table_size.proofs.Size.greatest.Goals as goal

pub loop-n-preserved : goal.loop-n-preserved
loop-n-preserved c = highest_turn c.loop-n.invariant (omega (arith, length-take {A = ℕ}, length-drop {A = ℕ})) (grind (arith, common_steps))

pub returns : goal.returns
returns c = highest_end c.loop-n.invariant (omega (arith, length-take {A = ℕ}, length-drop {A = ℕ}))
