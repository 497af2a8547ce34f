-- Each question's own contract: it asks nothing of its caller, and is all that demand 3 asks of it: whatever it was lent
-- (a), answered (r) and left (s) is as defined.
use mathlib.Core.List.{[]}
use contract.Lifetimes.{Lfts}
use Rattle.spec_calls.specs.Calls.{ask, load_of, heaviest_load, tight_set_of, form_check, level_check}
use Rattle.spec_calls.specs.JobBook.{AsDefined}
use Rattle.board_answers.specs.Answered.{left_by}
use Rattle.board_answers.proofs.Formal.{leaves_outcome}
use Rattle.board_questions.proofs.form_check.Reads as form_check_lem
use Rattle.board_questions.proofs.level_check.Reads as level-check
use Rattle.board_questions.proofs.load.Reads as load
use Rattle.board_questions.proofs.heaviest.Reads as heaviest
use Rattle.board_questions.proofs.tight_set.Reads as tight_set_lem

module _ (κs : Lfts 1) where
  pub form_check_meets : (a : _) (r : _) (s : _) → form_check_lem.Post κs a r s → AsDefined (ask form_check []) a.0.now (left_by r a.0.now [])
  form_check_meets a r s p = leaves_outcome p

  pub level_check_meets : (a : _) (r : _) (s : _) → level-check.Post κs a r s → AsDefined (ask level_check []) a.0.now (left_by r a.0.now [])
  level_check_meets a r s p = leaves_outcome p

  pub load_meets : (a : _) (r : _) (s : _) → load.Post κs a r s → AsDefined (ask (load_of a.1.0) []) a.0.now (left_by r a.0.now [])
  load_meets a r s p = leaves_outcome p

  pub heaviest_meets : (a : _) (r : _) (s : _) → heaviest.Post κs a r s → AsDefined (ask heaviest_load []) a.0.now (left_by r a.0.now [])
  heaviest_meets a r s p = leaves_outcome p

pub tight_set_meets : (κs : Lfts 2) (a : _) (r : _) (s : _) → tight_set_lem.Post κs a r s → AsDefined (ask (tight_set_of a.1.0) a.1.1.0.now) a.0.now (left_by r a.0.now s.1.1.0.now)
tight_set_meets κs a r s p = leaves_outcome p

-- "Callers test nothing beforehand": no question asks for anything
pub questions_ask_nothing : (κs : Lfts 1) (λs : Lfts 2) → ((a : _) → form_check_lem.Pre κs a) × ((a : _) → level-check.Pre κs a) × ((a : _) → load.Pre κs a) × ((a : _) → heaviest.Pre κs a) × ((a : _) → tight_set_lem.Pre λs a)
questions_ask_nothing κs λs = (λ a. tt, λ a. tt, λ a. tt, λ a. tt, λ a. tt)
