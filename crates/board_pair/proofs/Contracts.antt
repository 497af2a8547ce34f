-- The question's own contract: it asks nothing of its caller, and is all that demand 3 asks of it: whatever it was lent
-- (a), answered (r) and left (s) is as defined.
use contract.Lifetimes.{Lfts}
use Rattle.spec_calls.specs.Calls.{between}
use mathlib.Core.List.{[]}
use Rattle.spec_calls.specs.JobBook.{AsDefined}
use Rattle.board_answers.specs.Answered.{left_by}
use Rattle.board_answers.proofs.Formal.{leaves_outcome}
use Rattle.board_pair.proofs.between.Reads as between-benches

pub between_meets : (κs : Lfts 1) (a : _) (r : _) (s : _) → between-benches.Post κs a r s → AsDefined (between a.1.0 a.1.1.0) a.0.now (left_by r a.0.now [])
between_meets κs a r s p = leaves_outcome p

-- "on any bytes": "Callers test nothing beforehand"
pub between_asks_nothing : (κs : Lfts 1) (a : _) → between-benches.Pre κs a
between_asks_nothing κs a = tt
