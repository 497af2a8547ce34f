-- Each call leaves the search at bench x, one part of its jobs further (`Begun`), on every board that the contract speaks of.
use Prim.Native.Nat.{suc}
use native.Mathlib.Omega.{arith}
use mathlib.Core.Path.{refl, subst}
use Rattle.std.specs.Prelude.{Option}
use Rattle.spec_table.specs.Board.{Board}
use Rattle.spec_table.specs.Table.{decode}
use Rattle.sharing_search.specs.Searching.{started, AtBench}
use Rattle.sharing_paths_from.specs.ArrivalSearch.{WithJob, WithNew, course_from}
use Rattle.sharing_paths_from.specs.declared.new_job.NewJob.{NewJob}
use Rattle.sharing_paths_from.proofs.Beginning.{Begun, begun_start, begun_below, begun_kept, begun_few, begun_turn, begun_above, begun_all, begun_end}
use Rattle.sharing_paths_from.proofs.begin_with.Goals as goal
use Rattle.sharing_paths_from.proofs.begin_with.Goals.{In_default, In-Some, After-expand-below, After-discover-found}

-- where no job arrives, all steps from x are the table's, on each board of which the contract speaks
all : (c : In_default) (b : Board) → WithNew (decode c.args.t.now) b c.args.s c.args.x c.args.arriving → AtBench (course_from b 0 1 0) (decode c.args.t.now) c.args.s c.args.x c.first_job-first.result 0 started c.discover-start.result c.discover-start.new.queue c.discover-start.new.came
all c b k =
    let j = rw c.in_default.is at k in
    begun_all j refl c.first_job-first.ensures (begun_start j c.requires.bench_in c.told-queue c.requires.came_value c.discover-start.ensures)

-- where one does, it is the new one
joined : (c : In-Some) (b : Board) → WithNew (decode c.args.t.now) b c.args.s c.args.x c.args.arriving → WithJob (decode c.args.t.now) b c.args.s c.args.x c.in-Some.new.job c.in-Some.new.other
joined c b k = subst (λ (a : Option NewJob). WithNew (decode c.args.t.now) b c.args.s c.args.x a) c.in-Some.is k

-- what the jobs below the new one lead to is found ..
below : (c : After-expand-below) (b : Board) → WithJob (decode c.args.t.now) b c.args.s c.args.x c.in-Some.new.job c.in-Some.new.other → Begun b c.args.s.benches c.args.x c.in-Some.new.job c.expand-below.result.found c.expand-below.new.queue c.expand-below.new.came
below c b j =
    let k = begun_start j c.requires.bench_in c.told-queue c.requires.came_value c.discover-start.ensures in
    begun_kept k c.expand-below.ensures.grown (c.expand-below.ensures.searching (course_from b 0 1 0) 0 (begun_below j c.first_job-first.ensures k))

-- .. then what it leads to itself
above : (c : After-discover-found) (b : Board) → WithJob (decode c.args.t.now) b c.args.s c.args.x c.in-Some.new.job c.in-Some.new.other → Begun b c.args.s.benches c.args.x c.in-Some.new.job c.expand-below.result.found c.expand-below.new.queue c.expand-below.new.came → Begun b c.args.s.benches c.args.x (suc c.in-Some.new.job) c.discover-found.result c.discover-found.new.queue c.discover-found.new.came
above c b j k = begun_turn j (λ e. omega (arith, c.in-Some.new.job_least)) k c.discover-found.ensures

pub expand-all-requires-clause-by_index : goal.expand-all-requires-clause-by_index
expand-all-requires-clause-by_index c =
    let (b, j) = c.requires.with_job in
    (course_from b 0 1 0, 0, all (goal.at.expand-all-requires-clause-by_index c).In_default b j)

pub returns-in_default : goal.returns-in_default
returns-in_default c =
    λ b j.
    let k = begun_start j c.requires.bench_in c.told-queue c.requires.came_value c.discover-start.ensures in
    begun_end (begun_kept k c.expand-all.ensures.grown (c.expand-all.ensures.searching (course_from b 0 1 0) 0 (all (goal.at.returns-in_default c).In_default b j)))

pub expand-below-requires-clause-by_index : goal.expand-below-requires-clause-by_index
expand-below-requires-clause-by_index c =
    let (b, k) = c.requires.with_job in
    let j = joined (goal.at.expand-below-requires-clause-by_index c).In-Some b k in
    (course_from b 0 1 0, 0, begun_below j c.first_job-first.ensures (begun_start j c.requires.bench_in c.told-queue c.requires.came_value c.discover-start.ensures))

pub discover-found-requires : goal.discover-found-requires
discover-found-requires c =
    let (b, k) = c.requires.with_job in
    let at = goal.at.discover-found-requires c in
    let j = joined at.In-Some b k in
    record { y_le_most_benches = j.leads; found_le_most_benches = begun_few (below at.After-expand-below b j) }

pub expand-above-requires-clause-by_index : goal.expand-above-requires-clause-by_index
expand-above-requires-clause-by_index c =
    let (b, k) = c.requires.with_job in
    let at = goal.at.expand-above-requires-clause-by_index c in
    let j = joined at.In-Some b k in
    let m = above at.After-discover-found b j (below at.After-expand-below b j) in
    (course_from b 0 1 0, suc c.in-Some.new.job, begun_above j c.requires.bench_in c.expand-below.ensures.first_from m)

pub returns : goal.returns
returns c =
    λ b k.
    let at = goal.at.returns c in
    let j = joined at.In-Some b k in
    let m = above at.After-discover-found b j (below at.After-expand-below b j) in
    let n = begun_above j c.requires.bench_in c.expand-below.ensures.first_from m in
    begun_end (begun_kept m c.expand-above.ensures.grown (c.expand-above.ensures.searching (course_from b 0 1 0) (suc c.in-Some.new.job) n))
