-- The chains one by one, and their lengths. Invariant: what is left of the walks from bench x on is all walks, and the lengths of
-- the chains before are written.
use Rattle.table_chain_form.proofs.Lengths.{WalkedTo}
use Rattle.table_chain_form.proofs.walk_all.Given as goal

abbrev pub invariant-loop-x : goal.invariant-loop-x
invariant-loop-x l = WalkedTo l.t l.s l.count l.left l.x l.loads
