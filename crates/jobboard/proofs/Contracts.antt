-- Each C call's own contract: it asks nothing of its caller, and whatever it was lent (a), returned (r) and left (s) is
-- reported of the call's defined outcome. Numbers alone do not tell a load from a heaviest load, so each call has its own.
use mathlib.Core.List.{[], ◌∷◌}
use contract.Lifetimes.{Lfts}
use Rattle.spec_calls.specs.Calls.{outcome, blanking, arrival, closing, levelling, ask, load_of, heaviest_load, tight_set_of, form_check, level_check, wall_sheet, between}
use Rattle.jobboard.specs.Desk.{Reported}
use Rattle.jobboard.proofs.jobboard_blank.Reads as c-blank
use Rattle.jobboard.proofs.jobboard_check.Reads as c-check
use Rattle.jobboard.proofs.jobboard_arrival.Reads as c-arrival
use Rattle.jobboard.proofs.jobboard_closing.Reads as c-closing
use Rattle.jobboard.proofs.jobboard_levelling.Reads as c-levelling
use Rattle.jobboard.proofs.jobboard_level_check.Reads as c-level-check
use Rattle.jobboard.proofs.jobboard_load.Reads as c-load
use Rattle.jobboard.proofs.jobboard_heaviest.Reads as c-heaviest
use Rattle.jobboard.proofs.jobboard_tight_set.Reads as c-tight-set
use Rattle.jobboard.proofs.jobboard_sheet.Reads as c-sheet
use Rattle.jobboard.proofs.jobboard_between.Reads as c-between

pub blank_reports : (κs : Lfts 1) (a : _) (r : _) (s : _) → c-blank.Post κs a r s → Reported (blanking a.1.0 a.1.1.0 a.0.now) r s.0.now [] [] []
blank_reports κs a r s p = p

pub check_reports : (κs : Lfts 1) (a : _) (r : _) (s : _) → c-check.Post κs a r s → Reported (outcome (ask form_check []) a.0.now) r a.0.now [] [] []
check_reports κs a r s p = p

pub arrival_reports : (κs : Lfts 5) (a : _) (r : _) (s : _) → c-arrival.Post κs a r s → Reported (outcome (arrival (record { job = a.1.0; given = a.1.1.0 ∷ a.1.1.1.0 ∷ []; list = a.1.1.1.1.0.now })) a.0.now) r s.0.now s.1.1.1.1.0.now (a.1.1.1.1.1.0.now ∷ a.1.1.1.1.1.1.0.now ∷ a.1.1.1.1.1.1.1.0.now ∷ []) (s.1.1.1.1.1.0.now ∷ s.1.1.1.1.1.1.0.now ∷ s.1.1.1.1.1.1.1.0.now ∷ [])
arrival_reports κs a r s p = p

pub closing_reports : (κs : Lfts 4) (a : _) (r : _) (s : _) → c-closing.Post κs a r s → Reported (outcome (closing (record { job = a.1.0; list = a.1.1.0.now })) a.0.now) r s.0.now s.1.1.0.now (a.1.1.1.0.now ∷ a.1.1.1.1.0.now ∷ []) (s.1.1.1.0.now ∷ s.1.1.1.1.0.now ∷ [])
closing_reports κs a r s p = p

pub levelling_reports : (κs : Lfts 3) (a : _) (r : _) (s : _) → c-levelling.Post κs a r s → Reported (outcome (levelling a.1.0) a.0.now) r s.0.now [] (a.1.1.0.now ∷ a.1.1.1.0.now ∷ []) (s.1.1.0.now ∷ s.1.1.1.0.now ∷ [])
levelling_reports κs a r s p = p

pub level_check_reports : (κs : Lfts 2) (a : _) (r : _) (s : _) → c-level-check.Post κs a r s → Reported (outcome (ask level_check []) a.0.now) r a.0.now [] (a.1.0.now ∷ []) (s.1.0.now ∷ [])
level_check_reports κs a r s p = p

pub load_reports : (κs : Lfts 2) (a : _) (r : _) (s : _) → c-load.Post κs a r s → Reported (outcome (ask (load_of a.1.0) []) a.0.now) r a.0.now [] (a.1.1.0.now ∷ []) (s.1.1.0.now ∷ [])
load_reports κs a r s p = p

pub heaviest_reports : (κs : Lfts 2) (a : _) (r : _) (s : _) → c-heaviest.Post κs a r s → Reported (outcome (ask heaviest_load []) a.0.now) r a.0.now [] (a.1.0.now ∷ []) (s.1.0.now ∷ [])
heaviest_reports κs a r s p = p

pub tight_set_reports : (κs : Lfts 4) (a : _) (r : _) (s : _) → c-tight-set.Post κs a r s → Reported (outcome (ask (tight_set_of a.1.0) a.1.1.0.now) a.0.now) r a.0.now s.1.1.0.now (a.1.1.1.0.now ∷ a.1.1.1.1.0.now ∷ []) (s.1.1.1.0.now ∷ s.1.1.1.1.0.now ∷ [])
tight_set_reports κs a r s p = p

pub sheet_reports : (κs : Lfts 3) (a : _) (r : _) (s : _) → c-sheet.Post κs a r s → Reported (outcome (ask wall_sheet a.1.0.now) a.0.now) r a.0.now s.1.0.now (a.1.1.0.now ∷ []) (s.1.1.0.now ∷ [])
sheet_reports κs a r s p = p

pub between_reports : (κs : Lfts 3) (a : _) (r : _) (s : _) → c-between.Post κs a r s → Reported (outcome (between a.1.0 a.1.1.0) a.0.now) r a.0.now [] (a.1.1.1.0.now ∷ a.1.1.1.1.0.now ∷ []) (s.1.1.1.0.now ∷ s.1.1.1.1.0.now ∷ [])
between_reports κs a r s p = p

-- "Callers test nothing beforehand": no C call asks for anything
pub calls_ask_nothing : (κ1 : Lfts 1) (κ2 : Lfts 2) (κ3 : Lfts 3) (κ4 : Lfts 4) (κ5 : Lfts 5) → ((a : _) → c-blank.Pre κ1 a) × ((a : _) → c-check.Pre κ1 a) × ((a : _) → c-arrival.Pre κ5 a) × ((a : _) → c-closing.Pre κ4 a) × ((a : _) → c-levelling.Pre κ3 a) × ((a : _) → c-level-check.Pre κ2 a) × ((a : _) → c-load.Pre κ2 a) × ((a : _) → c-heaviest.Pre κ2 a) × ((a : _) → c-tight-set.Pre κ4 a) × ((a : _) → c-sheet.Pre κ3 a) × ((a : _) → c-between.Pre κ3 a)
calls_ask_nothing κ1 κ2 κ3 κ4 κ5 = (λ a. tt, λ a. tt, λ a. tt, λ a. tt, λ a. tt, λ a. tt, λ a. tt, λ a. tt, λ a. tt, λ a. tt, λ a. tt)
