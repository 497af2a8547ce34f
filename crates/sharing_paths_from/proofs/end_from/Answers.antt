use Prim.Native.Nat.{ℕ, ◌≤◌, ◌<◌}
use native.Mathlib.Omega.{arith}
use Rattle.spec_table.specs.Board.{Board}
use Rattle.spec_table.specs.Table.{most_benches, decode}
use Rattle.sharing_paths_from.specs.ArrivalSearch.{course_from, FirstLevel}
use Rattle.sharing_paths_from.proofs.Levels.{Looked, levels_start, levels_weighed, levels_small, levels_lower, levels_same, levels_end, looked_few, looked_end, looked_level, looked_turn}
use Rattle.sharing_paths_from.proofs.end_from.Goals as goal
use Rattle.sharing_paths_from.proofs.end_from.Goals.{After-lightest_among-y, Joined-n-bound, then-n-bound, else-n-bound}

-- the level's lightest bench is small
lightest-small : (c : After-lightest_among-y) → c.lightest_among-y.result ≤ most_benches
lightest-small c =
    let (b, job, other, k) = c.requires.by_index in
    levels_small k (c.loop-begin.invariant b job other k) c.lightest_among-y.ensures

-- the level was looked at, on each such board
looked : (c : Joined-n-bound) (b : Board) (job other : ℕ) → FirstLevel (decode c.args.t.now) b c.args.s c.args.loads.now c.args.x job other c.args.goal c.args.end c.args.queue.now c.args.came.now → Looked b c.args.s.benches c.args.loads.now c.args.x c.args.goal c.if-n-bound.best c.if-n-bound.bound c.loop-begin.begin c.loop-begin.end c.loop-begin.level c.loop-begin.queue c.loop-begin.came
looked c b job other k =
    let h = c.loop-begin.invariant b job other k in
    elim c.if-n-bound.branch [
      | then-n-bound w ↦ rw (w.best-is, w.bound-is) (levels_lower k h c.loop-begin-test.true c.lightest_among-y.ensures w.if-n-bound.true)
      | else-n-bound w ↦ rw (w.best-is, w.bound-is) (levels_same k h c.loop-begin-test.true c.lightest_among-y.ensures w.if-n-bound.false)
    ]

pub loop-begin-init : goal.loop-begin-init
loop-begin-init c = λ b job other k. levels_start k

pub lightest_among-y-requires : goal.lightest_among-y-requires
lightest_among-y-requires c =
    let (b, job, other, k) = c.requires.by_index in
    levels_weighed k (c.loop-begin.invariant b job other k) c.requires.loads_in c.loop-begin-test.true

pub offset_bounds-loads-y : goal.offset_bounds-loads-y
offset_bounds-loads-y c = omega (arith, lightest-small (goal.at.offset_bounds-loads-y c).After-lightest_among-y)

pub bounds-loads-y : goal.bounds-loads-y
bounds-loads-y c = omega (arith, lightest-small (goal.at.bounds-loads-y c).After-lightest_among-y)

pub returns-then-bound-low : goal.returns-then-bound-low
returns-then-bound-low c = λ b job other k. looked_end k (looked (goal.at.returns-then-bound-low c).Joined-n-bound b job other k) c.if-bound-low.true

pub expand_level-more-requires-clause-at_level : goal.expand_level-more-requires-clause-at_level
expand_level-more-requires-clause-at_level c =
    let (b, job, other, k) = c.requires.by_index in
    (course_from b c.loop-begin.begin c.loop-begin.end c.loop-begin.level, looked_level k (looked (goal.at.expand_level-more-requires-clause-at_level c).Joined-n-bound b job other k) c.if-bound-low.false)

-- the level's number is small
few : (c : Joined-n-bound) → (c.loop-begin.level < c.loop-begin.end) × (c.loop-begin.end ≤ most_benches)
few c =
    let (b, job, other, k) = c.requires.by_index in
    looked_few k (looked c b job other k)

pub overflow_add-level : goal.overflow_add-level
overflow_add-level c = omega (arith, few (goal.at.overflow_add-level c).Joined-n-bound)

pub loop-begin-smaller : goal.loop-begin-smaller
loop-begin-smaller c = omega (arith, few (goal.at.loop-begin-smaller c).Joined-n-bound, c.loop-begin-test.true)

pub loop-begin-preserved : goal.loop-begin-preserved
loop-begin-preserved c =
    λ b job other k.
    let h = looked (goal.at.loop-begin-preserved c).Joined-n-bound b job other k in
    looked_turn k h c.if-bound-low.false c.expand_level-more.ensures.grown (c.expand_level-more.ensures.level (course_from b c.loop-begin.begin c.loop-begin.end c.loop-begin.level) (looked_level k h c.if-bound-low.false))

pub returns : goal.returns
returns c = λ b job other k. levels_end k (c.loop-begin.invariant b job other k) c.loop-begin-test.false
