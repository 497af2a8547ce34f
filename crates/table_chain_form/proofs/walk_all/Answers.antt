use Rattle.std.proofs.Common.{arith}
use Rattle.table_chain_form.proofs.Lengths.{walks_broken, walks_less, walks_turn, walks_end}
use Rattle.table_chain_form.proofs.walk_all.Goals as goal

pub returns-in_default-clause-value : goal.returns-in_default-clause-value
returns-in_default-clause-value c = walks_broken c.requires.size_of c.loop-x.invariant (omega arith) c.walk.ensures c.in_default.is

pub overflow_sub-loads : goal.overflow_sub-loads
overflow_sub-loads c = omega (arith, walks_less c.requires.size_of c.loop-x.invariant (omega arith) c.walk.ensures c.in-Some.is)

pub loop-x-preserved : goal.loop-x-preserved
loop-x-preserved c = walks_turn c.requires.size_of c.loop-x.invariant (omega arith) c.walk.ensures c.in-Some.is

pub returns-clause-value : goal.returns-clause-value
returns-clause-value c = walks_end c.requires.size_of c.loop-x.invariant (omega arith)
