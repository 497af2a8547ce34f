-- The hypotheses of demand 3 can be met: every list of calls has a run, and the claim holds of it. And so can those of request
-- 02: there is a sound table whose chains do not rise. In request 03 the order counts: that table shows it.
use Prim.Native.Nat.{ℕ}
use mathlib.Core.Path.{◌≡◌, refl}
use mathlib.Core.Bool.{true, false}
use mathlib.Core.List.{List, [], ◌∷◌, flat_map}
use Rattle.spec_table.specs.Table.{bytes_of, sizes_fit, layout, formed, fits, sound, board_of, decode, layout_of, flat, encode, all_rise}
use Rattle.spec_pair.specs.Pair.{first_walk, second_walk, unreadable_pair, records_read, job_found}
use Rattle.spec_calls.specs.Answers.{said, job_between}
use Rattle.spec_calls.specs.Calls.{Call, levelling, between, between_conditions, between_told, refusals, accepted, outcome}
use Rattle.spec_calls.specs.JobBook.{Book, run, Runs, AsDefined, Start, Claim}
use Rattle.spec_lists.proofs.Tests.{true→T}
use Rattle.spec_calls.proofs.ChangedTables.{OnlyReorders, allowance_0_reorders}
use Rattle.spec_calls.proofs.Demand3.{demand_3}

-- the definition's own run of a list of calls is a run
pub run_runs : (t : List ℕ) (cs : List Call) → Runs AsDefined t cs (run t cs)
run_runs t [] = tt
run_runs t (c ∷ cs) = (refl, run_runs (outcome c t).table cs)

-- so the claim of demand 3 holds of it, from every start
pub run_claim : (t : List ℕ) (k : Book) → Start t k → (cs : List Call) → Claim t k cs (run t cs)
run_claim t k s cs = demand_3 AsDefined (λ c t o e. e) t k s cs (run t cs) (run_runs t cs)

-- bench 1 of two holds jobs 1 and 2, which name both; on its chain job 2 stands before job 1
abbrev falling_table : List ℕ
falling_table = bytes_of (2 ∷ 2 ∷ 2 ∷ 0 ∷ 2 ∷ 0 ∷ 1 ∷ 2 ∷ 1 ∷ 0 ∷ 1 ∷ 2 ∷ 1 ∷ 1 ∷ [])

-- the same, job 1 before job 2
abbrev rising_table : List ℕ
rising_table = bytes_of (2 ∷ 2 ∷ 2 ∷ 0 ∷ 1 ∷ 0 ∷ 1 ∷ 2 ∷ 1 ∷ 2 ∷ 1 ∷ 2 ∷ 1 ∷ 0 ∷ [])

-- both are sound, and the chains of one of them rise
pub two_orders : (sound falling_table ≡ true) × (sound rising_table ≡ true) × (all_rise falling_table ≡ false) × (all_rise rising_table ≡ true)
unfolding sound fits sizes_fit formed layout all_rise
two_orders = (refl, refl, refl, refl)

-- a levelling with allowance 0 makes the one of the other
pub falling_reordered : OnlyReorders falling_table (levelling 0) × ((outcome (levelling 0) falling_table).table ≡ rising_table)
unfolding decode board_of layout encode layout_of flat flat_map
falling_reordered =
    let r = allowance_0_reorders falling_table (true→T (sound falling_table) two_orders.0) in
    (r, r.table)

-- 02: "Here, unlike in 01, the chains' order counts": the two tables, one board in two orders, are answered with different jobs
pub order_counts : ((outcome (between 1 2) falling_table).answer ≡ said (job_between 2 1)) × ((outcome (between 1 2) rising_table).answer ≡ said (job_between 1 1))
unfolding outcome refusals between_conditions accepted between_told fits sizes_fit layout unreadable_pair first_walk second_walk records_read job_found
order_counts = (refl, refl)
