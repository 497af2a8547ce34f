use Prim.Native.Nat.{◌+◌, ◌<◌}
use native.Mathlib.Omega.{arith}
use mathlib.Core.Logic.{inl, inr}
use Rattle.spec_table.specs.Table.{most_benches}
use Rattle.table_size.specs.Sizes.{BenchIn}
use Rattle.graph_lists.specs.Arrays.{at}
use Rattle.sharing_search.proofs.OnBoard.{sweep_start, sweep_few, sweep_bench, sweep_job, sweep_turn, sweep_end}
use Rattle.sharing_search.proofs.expand_level.Goals as goal
use Rattle.sharing_search.proofs.expand_level.Goals.{In-loop-place}

-- the next place of the queue is one of the array ..
here : (c : In-loop-place) → c.loop-place.place < most_benches + 1
here c = omega (arith, c.loop-place-test.true, sweep_few c.requires.at_level c.loop-place.invariant)

-- .. and a bench stands there
bench : (c : In-loop-place) → BenchIn c.args.s (at c.loop-place.queue c.loop-place.place)
bench c = sweep_bench c.requires.at_level c.loop-place.invariant c.loop-place-test.true

pub loop-place-init : goal.loop-place-init
loop-place-init c = sweep_start

pub offset_bounds-queue-place : goal.offset_bounds-queue-place
offset_bounds-queue-place c = omega (arith, here (goal.at.offset_bounds-queue-place c).In-loop-place)

pub bounds-queue-place : goal.bounds-queue-place
bounds-queue-place c = here (goal.at.bounds-queue-place c).In-loop-place

pub first_job-job-requires-clause-bench_in : goal.first_job-job-requires-clause-bench_in
first_job-job-requires-clause-bench_in c = rw c.from-x.ensures (bench (goal.at.first_job-job-requires-clause-bench_in c).In-loop-place)

pub expand-e-requires-clause-bench_in : goal.expand-e-requires-clause-bench_in
expand-e-requires-clause-bench_in c = rw c.from-x.ensures (bench (goal.at.expand-e-requires-clause-bench_in c).In-loop-place)

pub expand-e-requires-clause-by_index : goal.expand-e-requires-clause-by_index
expand-e-requires-clause-by_index c =
    rw c.from-x.ensures (sweep_job c.requires.at_level c.loop-place.invariant c.loop-place-test.true (rw c.from-x.ensures at c.first_job-job.ensures))

pub loop-place-preserved : goal.loop-place-preserved
loop-place-preserved c =
    sweep_turn c.requires.at_level c.loop-place.invariant c.loop-place-test.true
    (rw c.from-x.ensures at c.first_job-job.ensures) c.expand-e.ensures.grown (rw c.from-x.ensures at c.expand-e.ensures.searching)

pub returns-then-came-goal-ne0-clause-level : goal.returns-then-came-goal-ne0-clause-level
returns-then-came-goal-ne0-clause-level c = (sweep_end c.requires.at_level c.loop-place.invariant c.args.goal (inr c.if-came-goal-ne0.true)).1

pub returns-after-loop-place-clause-level : goal.returns-after-loop-place-clause-level
returns-after-loop-place-clause-level c = (sweep_end c.requires.at_level c.loop-place.invariant c.args.goal (inl c.loop-place-test.false)).1
