-- The sheet's own contract: it asks nothing of its caller, and is all that demand 3 asks of it: whatever it was lent (a),
-- answered (r) and left (s) is as defined.
use contract.Lifetimes.{Lfts}
use Rattle.spec_calls.specs.Calls.{ask, wall_sheet}
use Rattle.spec_calls.specs.JobBook.{AsDefined}
use Rattle.board_answers.specs.Answered.{left_by}
use Rattle.board_answers.proofs.Formal.{leaves_outcome}
use Rattle.board_sheet.proofs.sheet.Reads as sheet

pub sheet_meets : (κs : Lfts 2) (a : _) (r : _) (s : _) → sheet.Post κs a r s → AsDefined (ask wall_sheet a.1.0.now) a.0.now (left_by r a.0.now s.1.0.now)
sheet_meets κs a r s p = leaves_outcome p

-- "Callers test nothing beforehand": the sheet asks for nothing
pub sheet_asks_nothing : (κs : Lfts 2) (a : _) → sheet.Pre κs a
sheet_asks_nothing κs a = tt
