-- Demand 3 of the C calls, by their own contracts.
use Prim.Native.Nat.{ℕ}
use native.Mathlib.Omega.{arith}
use mathlib.Core.Path.{◌≡◌, refl, sym, ap, subst, ◌∙◌}
use mathlib.Core.Bool.{Bool, true, false, cond, not}
use mathlib.Core.List.{List, [], ◌∷◌}
use lib.Dec.{eqb}
use lib.ListN.{replicate, get_or}
use borrow.Author.Tests.{ne_eqb}
use Rattle.spec_table.specs.Table.{decode, SameSharing}
use Rattle.spec_sharing.specs.Sharing.{level}
use Rattle.spec_calls.specs.Answers.{Answer, Outcome, is_refused, refused, arrived, closed, said, level_yes, level_no}
use Rattle.spec_calls.specs.Calls.{Call, ask, level_check, outcome, blanking, asked, accepted}
use Rattle.spec_calls.specs.JobBook.{Book, refused_each, InOrder, run, table_after, Start}
use Rattle.spec_calls.proofs.Blanking.{blanking_fits}
use Rattle.spec_calls.proofs.Refusals.{accepted_by, refusal_positive}
use Rattle.spec_calls.proofs.ChangedTables.{runs_match}
use Rattle.spec_calls.proofs.Demand3.{blanking_starts}
use Rattle.spec_calls.proofs.Instance.{run_runs, run_claim}
use Rattle.board_answers.specs.Answered.{returned}
use Rattle.jobboard_report.specs.Report.{results}
use Rattle.jobboard.specs.Desk.{Reported}
use Rattle.jobboard.proofs.Contracts.{blank_reports, check_reports, arrival_reports, closing_reports, levelling_reports, level_check_reports, load_reports, heaviest_reports, tight_set_reports, sheet_reports, between_reports}
use Rattle.jobboard_runs.specs.CCalls.{Observed, Called, byArrival, byClosing, byLevelling, byLoad, byHeaviest, byTightSet, byCheck, byLevelCheck, bySheet, byBetween, CallsMade, ReportedEach, refused_by, last_table, CStarted, byBlank, byLevel, CClaim}
use Rattle.jobboard_runs.proofs.Done.{level_start}

-- each C call reports the defined outcome
pub called_reported : (c : Call) (t : List ℕ) (v : Observed) → Called c t v → Reported (outcome c t) v.number v.table v.beside v.before v.after
called_reported c t v (byArrival κs a r s p) = arrival_reports κs a r s p
called_reported c t v (byClosing κs a r s p) = closing_reports κs a r s p
called_reported c t v (byLevelling κs a r s p) = levelling_reports κs a r s p
called_reported c t v (byLoad κs a r s p) = load_reports κs a r s p
called_reported c t v (byHeaviest κs a r s p) = heaviest_reports κs a r s p
called_reported c t v (byTightSet κs a r s p) = tight_set_reports κs a r s p
called_reported c t v (byCheck κs a r s p) = check_reports κs a r s p
called_reported c t v (byLevelCheck κs a r s p) = level_check_reports κs a r s p
called_reported c t v (bySheet κs a r s p) = sheet_reports κs a r s p
called_reported c t v (byBetween κs a r s p) = between_reports κs a r s p

-- call by call, what is observed is the definition's run ..
reported_each : (t : List ℕ) (cs : List Call) (vs : List Observed) → CallsMade t cs vs → ReportedEach (run t cs) vs
reported_each t [] [] m = tt
reported_each t [] (v ∷ vs) m = absurd m
reported_each t (c ∷ cs) [] m = absurd m
reported_each t (c ∷ cs) (v ∷ vs) m =
    let r = called_reported c t v m.0 in
    (r, subst (λ (u : List ℕ). ReportedEach (run u cs) vs) r.bytes (reported_each v.table cs vs m.1))

-- .. and the table in the end is that run's
last_table_lem : (t : List ℕ) (cs : List Call) (vs : List Observed) → CallsMade t cs vs → last_table t vs ≡ table_after t (run t cs)
last_table_lem t [] [] m = refl
last_table_lem t [] (v ∷ vs) m = absurd m
last_table_lem t (c ∷ cs) [] m = absurd m
last_table_lem t (c ∷ cs) (v ∷ vs) m =
    last_table_lem v.table cs vs m.1 ∙ ap (λ (u : List ℕ). table_after u (run u cs)) (called_reported c t v m.0).bytes

-- demand 3: whatever C calls are made, in whatever order
pub c_demand_3 : (t : List ℕ) (k : Book) → Start t k → (cs : List Call) (vs : List Observed) → CallsMade t cs vs → CClaim t k cs vs
c_demand_3 t k s cs vs m =
    record { claim = run_claim t k s cs; reported = reported_each t cs vs m; table = last_table_lem t cs vs m }

-- a call was refused exactly if another number than 0 was returned ..
refused_number : (a : Answer) → not (eqb (returned a) 0) ≡ is_refused a
refused_number (refused r) = ap not (ne_eqb (returned (refused r)) 0 (λ e. omega (arith, refusal_positive r)))
refused_number (arrived holder rose moved) = refl
refused_number (closed fell moved) = refl
refused_number (said f) = refl

-- .. so a C program knows of each call whether it was
refused_seen : (os : List Outcome) (vs : List Observed) → ReportedEach os vs → refused_by vs ≡ refused_each os
refused_seen [] [] r = refl
refused_seen [] (v ∷ vs) r = absurd r
refused_seen (o ∷ os) [] r = absurd r
refused_seen (o ∷ os) (v ∷ vs) r =
    let first = ap (λ n. not (eqb n 0)) r.0.delivered.number ∙ refused_number o.answer in
    let rest = refused_seen os vs r.1 in
    λ i. first i ∷ rest i

-- 02: "stored copies" can be matched: two tables that hold the same sharing are the same bytes, if each was in order to begin with
-- or an arrival, closing or levelling of it returned 0 since
pub c_match : (t u : List ℕ) (cs ds : List Call) (vs ws : List Observed) → CallsMade t cs vs → CallsMade u ds ws →
    InOrder t cs (refused_by vs) → InOrder u ds (refused_by ws) → SameSharing (last_table t vs) (last_table u ws) →
    last_table t vs ≡ last_table u ws
c_match t u cs ds vs ws m n p q e =
    let here = last_table_lem t cs vs m in
    let there = last_table_lem u ds ws n in
    let one = subst (InOrder t cs) (refused_seen (run t cs) vs (reported_each t cs vs m)) p in
    let other = subst (InOrder u ds) (refused_seen (run u ds) ws (reported_each u ds ws n)) q in
    let same = subst (λ x. SameSharing x (table_after u (run u ds))) here (subst (SameSharing (last_table t vs)) there e) in
    here ∙ runs_match t u cs ds (run t cs) (run u ds) (run_runs t cs) (run_runs u ds) one other same ∙ sym there

-- where 0 is returned, the call was not refused
zero_accepted : (a : Answer) → returned a ≡ 0 → is_refused a ≡ false
zero_accepted a e = sym (refused_number a) ∙ ap (λ n. not (eqb n 0)) e

-- an accepted level check that says 1 says yes
one_level : (z : Bool) (n m : ℕ) → m ∷ [] ≡ results (said (cond z level_yes level_no)) (n ∷ []) → m ≡ 1 → said (cond z level_yes level_no) ≡ said level_yes
one_level true n m e o = refl
one_level false n m e o = absurd (omega (arith, ap (λ (l : List ℕ). get_or l 0 0) e))

-- what the C calls blanked or found level is a start of demand 3
pub c_starts : (t : List ℕ) (k : Book) → CStarted t k → Start t k
unfolding asked accepted
c_starts t k (byBlank κs a r s p z) =
    let o = blank_reports κs a r s p in
    let n = zero_accepted (blanking a.1.0 a.1.1.0 a.0.now).answer (sym o.delivered.number ∙ z) in
    subst (λ (u : List ℕ). Start u (replicate a.1.1.0 [])) (sym o.bytes) (blanking_starts a.1.0 a.1.1.0 a.0.now (blanking_fits a.1.0 a.1.1.0 a.0.now n))
c_starts t k (byLevel κs a r s p z e) =
    let o = level_check_reports κs a r s p in
    let u = a.0.now in
    let n = zero_accepted (outcome (ask level_check []) u).answer (sym o.delivered.number ∙ z) in
    let is = ap (λ o. o.answer) (accepted_by (ask level_check []) u n).1 in
    level_start u (is ∙ one_level (level (decode u)) a.1.0.now s.1.0.now (o.delivered.values ∙ ap (λ b. results b (a.1.0.now ∷ [])) is) e)
