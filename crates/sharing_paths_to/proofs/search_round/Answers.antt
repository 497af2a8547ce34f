use native.Mathlib.Omega.{arith}
use Rattle.spec_table.specs.Board.{Board}
use Rattle.spec_table.specs.Table.{decode}
use Rattle.sharing_paths_to.specs.ClosingSearch.{course_to, Rounds, InRound}
use Rattle.sharing_paths_to.proofs.RoundLevels.{level_short, level_less, level_begins, level_found, level_over, round_over, round_found, round_missed}
use Rattle.sharing_paths_to.proofs.search_round.Goals as goal
use Rattle.sharing_paths_to.proofs.search_round.Goals.{At-loop-begin}

-- where the round began, for a board that the search is over
seeded : (c : At-loop-begin) → (board : Board) → Rounds (decode c.args.t.now) board c.args.s c.args.loads.now c.args.x c.args.load c.args.found c.args.queue.now c.args.came.now → InRound (decode c.args.t.now) board c.args.s c.args.loads.now c.args.x c.args.load c.loop-begin.begin c.loop-begin.end c.loop-begin.level c.loop-begin.queue c.loop-begin.came
seeded c board r =
    c.loop-begin.invariant board (c.seed-end.ensures (decode c.args.t.now) board c.args.x c.requires.x_bound r)

pub expand_level-more-requires-clause-at_level : goal.expand_level-more-requires-clause-at_level
expand_level-more-requires-clause-at_level c =
    let (board, r) = c.requires.rounds in
    let k = seeded (goal.at.expand_level-more-requires-clause-at_level c).At-loop-begin board r in
    (course_to board c.args.load c.loop-begin.begin c.loop-begin.end c.loop-begin.level, level_begins k)

pub overflow_add-level : goal.overflow_add-level
overflow_add-level c =
    let (board, r) = c.requires.rounds in
    omega (arith, level_short (seeded (goal.at.overflow_add-level c).At-loop-begin board r) c.loop-begin-test.true)

pub returns-then-came-x-ne0 : goal.returns-then-came-x-ne0
returns-then-came-x-ne0 c =
    λ board r.
    let k = seeded (goal.at.returns-then-came-x-ne0 c).At-loop-begin board r in
    let course = course_to board c.args.load c.loop-begin.begin c.loop-begin.end c.loop-begin.level in
    round_found c.loop-begin.level (level_found k c.expand_level-more.ensures.grown (c.expand_level-more.ensures.level course (level_begins k)) (omega (arith, c.if-came-x-ne0.true)))

pub loop-begin-smaller : goal.loop-begin-smaller
loop-begin-smaller c =
    let (board, r) = c.requires.rounds in
    level_less (seeded (goal.at.loop-begin-smaller c).At-loop-begin board r) c.loop-begin-test.true

pub loop-begin-preserved : goal.loop-begin-preserved
loop-begin-preserved c =
    λ board r.
    let k = c.loop-begin.invariant board r in
    let course = course_to board c.args.load c.loop-begin.begin c.loop-begin.end c.loop-begin.level in
    level_over k c.expand_level-more.ensures.grown (c.expand_level-more.ensures.level course (level_begins k)) c.if-came-x-ne0.false

pub returns : goal.returns
returns c = λ board r. round_missed (round_over (seeded (goal.at.returns c).At-loop-begin board r) c.loop-begin-test.false)
