use native.Mathlib.Omega.{arith}
use Rattle.sharing_search.proofs.Steps.{search_most}
use Rattle.sharing_start.proofs.Starting.{seeking_start, seeking_level, seeking_end, level_queued, level_long, level_first, level_turn, searched_some, searched_none}
use Rattle.sharing_start.proofs.search_from.Goals as goal

pub discover-end-requires-clause-found_le_most_benches : goal.discover-end-requires-clause-found_le_most_benches
discover-end-requires-clause-found_le_most_benches c = search_most c.requires.searched.searching

pub loop-begin-init : goal.loop-begin-init
loop-begin-init c = seeking_start c.requires.loaded c.requires.bench_in c.requires.searched c.discover-end.ensures

pub expand_level-more-requires-clause-at_level : goal.expand_level-more-requires-clause-at_level
expand_level-more-requires-clause-at_level c = (_, seeking_level c.requires.loaded c.requires.bench_in c.loop-begin.invariant)

pub wanted_among-requires : goal.wanted_among-requires
wanted_among-requires c = level_queued c.requires.loaded c.requires.bench_in c.loop-begin.invariant c.expand_level-more.ensures.grown c.expand_level-more.ensures.level

pub returns-then-wanted_among : goal.returns-then-wanted_among
returns-then-wanted_among c = searched_some (level_first c.requires.loaded c.requires.bench_in c.loop-begin.invariant c.expand_level-more.ensures.grown c.expand_level-more.ensures.level c.requires.bound (rw c.if-wanted_among.true at c.wanted_among.ensures)) (level_long c.requires.loaded c.requires.bench_in c.loop-begin.invariant c.expand_level-more.ensures.grown c.expand_level-more.ensures.level)

pub loop-begin-smaller : goal.loop-begin-smaller
loop-begin-smaller c = omega (arith, c.loop-begin-test.true, search_most c.loop-begin.invariant.searching)

pub loop-begin-preserved : goal.loop-begin-preserved
loop-begin-preserved c = level_turn c.requires.loaded c.requires.bench_in c.loop-begin.invariant c.expand_level-more.ensures.grown c.expand_level-more.ensures.level (rw c.if-wanted_among.false at c.wanted_among.ensures)

pub returns : goal.returns
returns c = searched_none (seeking_end c.requires.loaded c.requires.bench_in c.loop-begin.invariant c.loop-begin-test.false)
