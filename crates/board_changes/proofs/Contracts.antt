-- Each change's own contract: it asks nothing of its caller, and is all that demand 3 asks of it: whatever it was lent
-- (a), answered (r) and left (s) is as defined.
use mathlib.Core.Path.{◌≡◌}
use mathlib.Core.List.{[], ◌∷◌}
use contract.Lifetimes.{Lfts}
use Rattle.spec_calls.specs.Calls.{blanking, arrival, closing, levelling}
use Rattle.spec_calls.specs.JobBook.{AsDefined}
use Rattle.board_answers.specs.Answered.{left_by}
use Rattle.board_answers.proofs.Formal.{leaves_outcome}
use Rattle.board_changes.proofs.blank.Reads as blank
use Rattle.board_changes.proofs.arrival.Reads as arrive
use Rattle.board_changes.proofs.closing.Reads as close
use Rattle.board_changes.proofs.levelling.Reads as level

pub arrival_meets : (κs : Lfts 2) (a : _) (r : _) (s : _) → arrive.Post κs a r s → AsDefined (arrival (record { job = a.1.0; given = a.1.1.0 ∷ a.1.1.1.0 ∷ []; list = a.1.1.1.1.0.now })) a.0.now (left_by r s.0.now s.1.1.1.1.0.now)
arrival_meets κs a r s p = leaves_outcome p

pub closing_meets : (κs : Lfts 2) (a : _) (r : _) (s : _) → close.Post κs a r s → AsDefined (closing (record { job = a.1.0; list = a.1.1.0.now })) a.0.now (left_by r s.0.now s.1.1.0.now)
closing_meets κs a r s p = leaves_outcome p

module _ (κs : Lfts 1) where
  pub blank_meets : (a : _) (r : _) (s : _) → blank.Post κs a r s → left_by r s.0.now [] ≡ blanking a.1.0 a.1.1.0 a.0.now
  blank_meets a r s p = leaves_outcome p

  pub levelling_meets : (a : _) (r : _) (s : _) → level.Post κs a r s → AsDefined (levelling a.1.0) a.0.now (left_by r s.0.now [])
  levelling_meets a r s p = leaves_outcome p

-- "Callers test nothing beforehand": no change asks for anything
pub changes_ask_nothing : (κ1 : Lfts 1) (κ2 : Lfts 2) → ((a : _) → blank.Pre κ1 a) × ((a : _) → arrive.Pre κ2 a) × ((a : _) → close.Pre κ2 a) × ((a : _) → level.Pre κ1 a)
changes_ask_nothing κ1 κ2 = (λ a. tt, λ a. tt, λ a. tt, λ a. tt)
