-- Demand 3 of the board's functions, by their own contracts.
use Prim.Native.Nat.{ℕ}
use mathlib.Core.Path.{◌≡◌, sym, ap, subst, ◌∙◌}
use mathlib.Core.List.{List, []}
use lib.ListN.{replicate}
use Rattle.spec_lists.proofs.Tests.{T→true}
use Rattle.spec_table.specs.Table.{sound, decode, SameSharing}
use Rattle.spec_calls.specs.Answers.{Outcome, is_refused, said, level_yes}
use Rattle.spec_calls.specs.Calls.{Call, ask, level_check, outcome}
use Rattle.spec_calls.specs.JobBook.{Book, refused_each, InOrder, table_after, Runs, AsDefined, Start, from_level, Claim}
use Rattle.spec_calls.proofs.Blanking.{blanking_fits}
use Rattle.spec_calls.proofs.Refusals.{accepted_sound}
use Rattle.spec_calls.proofs.Questions.{level_check_level}
use Rattle.spec_calls.proofs.ChangedTables.{runs_match}
use Rattle.spec_calls.proofs.Demand3.{demand_3, runs_defined, blanking_starts}
use Rattle.board_changes.proofs.Contracts.{blank_meets, arrival_meets, closing_meets, levelling_meets}
use Rattle.board_questions.proofs.Contracts.{form_check_meets, level_check_meets, load_meets, heaviest_meets, tight_set_meets}
use Rattle.board_sheet.proofs.Contracts.{sheet_meets}
use Rattle.board_pair.proofs.Contracts.{between_meets}
use Rattle.jobboard_runs.specs.Done.{Done, byArrival, byClosing, byLevelling, byLoad, byHeaviest, byTightSet, byFormCheck, byLevelCheck, bySheet, byBetween, Started, byBlank, byLevel}

-- each function leaves what is defined
pub done_defined : (c : Call) (t : List ℕ) (o : Outcome) → Done c t o → AsDefined c t o
done_defined c t o (byArrival κs a r s p) = arrival_meets κs a r s p
done_defined c t o (byClosing κs a r s p) = closing_meets κs a r s p
done_defined c t o (byLevelling κs a r s p) = levelling_meets κs a r s p
done_defined c t o (byLoad κs a r s p) = load_meets κs a r s p
done_defined c t o (byHeaviest κs a r s p) = heaviest_meets κs a r s p
done_defined c t o (byTightSet κs a r s p) = tight_set_meets κs a r s p
done_defined c t o (byFormCheck κs a r s p) = form_check_meets κs a r s p
done_defined c t o (byLevelCheck κs a r s p) = level_check_meets κs a r s p
done_defined c t o (bySheet κs a r s p) = sheet_meets κs a r s p
done_defined c t o (byBetween κs a r s p) = between_meets κs a r s p

-- a table that the level check calls level is sound and level
pub level_start : (t : List ℕ) → (outcome (ask level_check []) t).answer ≡ said level_yes → Start t (decode t).named
level_start t e =
    let s = accepted_sound (ask level_check []) tt t (ap is_refused e) in
    from_level t (T→true (sound t) s) (level_check_level t s e)

-- what the code blanked or found level is a start of demand 3
pub board_starts : (t : List ℕ) (k : Book) → Started t k → Start t k
board_starts t k (byBlank κs a r s p e) =
    let o = blank_meets κs a r s p in
    let n = ap (λ (o : Outcome). is_refused o.answer) (sym o) ∙ ap is_refused e in
    subst (λ (u : List ℕ). Start u (replicate a.1.1.0 [])) (ap (λ (o : Outcome). o.table) (sym o)) (blanking_starts a.1.0 a.1.1.0 a.0.now (blanking_fits a.1.0 a.1.1.0 a.0.now n))
board_starts t k (byLevel κs a r s p e) =
    level_start a.0.now (ap (λ (o : Outcome). o.answer) (sym (level_check_meets κs a r s p)) ∙ e)

-- 02: "Two counters hold the same sharing": their tables are the same bytes, if each was in order to begin with or its functions
-- accepted a change since
pub board_match : (t u : List ℕ) (cs ds : List Call) (os ps : List Outcome) → Runs Done t cs os → Runs Done u ds ps →
    InOrder t cs (refused_each os) → InOrder u ds (refused_each ps) → SameSharing (table_after t os) (table_after u ps) →
    table_after t os ≡ table_after u ps
board_match t u cs ds os ps r s =
    runs_match t u cs ds os ps (runs_defined Done done_defined t cs os r) (runs_defined Done done_defined u ds ps s)

-- demand 3: whatever calls are made of the board's functions, in whatever order
pub board_demand_3 : (t : List ℕ) (k : Book) → Start t k → (cs : List Call) (os : List Outcome) → Runs Done t cs os → Claim t k cs os
board_demand_3 t k s cs os r = demand_3 Done done_defined t k s cs os r
