use native.Mathlib.Omega.{arith}
use borrow.Author.Rules.{rules}
use Rattle.graph_lists.specs.Arrays.{at}
use Rattle.sharing_visits.specs.ArrayChains.{chain_on}
use Rattle.sharing_visits.proofs.Visiting.{chain_next, walk_most, walk_leads, walk_rest, falls_marked, falls_visit, falls_walk, closed_marked, closed_chain, closed_end, closed_job}
use Rattle.sharing_visits.proofs.+visit_walk.Goals as goal

pub visit-returns-then-marks-x : goal.visit-returns-then-marks-x
visit-returns-then-marks-x t c = closed_marked c.args.x c.args.marks.now (record { long = search rules }) c.if-marks-x.true

pub visit-walk-requires : goal.visit-walk-requires
visit-walk-requires t c =
    let m = c.args.marks.now in
    let x = c.args.x in
    let w = c.requires.bench_chains.bench x c.requires.t in
    let fall = falls_marked m x (chain_on c.args.next.now (at c.args.head.now x)) (record { long = search rules }) c.requires.t c.if-marks-x.false w.ends in
    rw c.from.ensures (rw c.decreases at fall, (c.requires.bench_chains, w))

pub visit-returns : goal.visit-returns
visit-returns t c =
    closed_chain c.args.head.now c.args.next.now c.args.to.now c.args.x c.args.marks.now c.walk.new.marks
    (search rules) c.if-marks-x.false (rw c.from.ensures at c.walk.ensures)

pub walk-returns-then-j-eq0 : goal.walk-returns-then-j-eq0
walk-returns-then-j-eq0 t c =
    closed_end c.args.head.now c.args.next.now c.args.to.now c.args.j c.args.marks.now (record { long = search rules }) c.if-j-eq0.true

-- there is a next job and a bench for the job
pub walk-offset_bounds-to-j : goal.walk-offset_bounds-to-j
walk-offset_bounds-to-j t c = omega (arith, walk_most c.requires.walkable)

pub walk-bounds-to-j : goal.walk-bounds-to-j
walk-bounds-to-j t c = omega (arith, walk_most c.requires.walkable)

pub walk-visit-requires : goal.walk-visit-requires
walk-visit-requires t c =
    let w = c.requires.walkable in
    let d = c.if-j-eq0.false in
    let fall = falls_visit c.args.marks.now w d in
    rw c.from.ensures (rw c.decreases at fall, (c.requires.bench_chains, walk_leads w d))

pub walk-offset_bounds-next-j : goal.walk-offset_bounds-next-j
walk-offset_bounds-next-j t c = omega (arith, walk_most c.requires.walkable)

pub walk-bounds-next-j : goal.walk-bounds-next-j
walk-bounds-next-j t c = omega (arith, walk_most c.requires.walkable)

pub walk-walk-requires : goal.walk-walk-requires
walk-walk-requires t c =
    let w = c.requires.walkable in
    let d = c.if-j-eq0.false in
    let fall = falls_walk c.args.marks.now w d c.visit.new.marks c.visit.ensures.grows in
    rw c.from-2.ensures (rw c.decreases at fall, (c.requires.bench_chains, walk_rest w d))

pub walk-returns : goal.walk-returns
walk-returns t c =
    let rest = chain_next c.args.next.now c.args.j c.if-j-eq0.false c.requires.walkable.ends in
    closed_job c.args.head.now c.args.next.now c.args.to.now c.args.j c.args.marks.now c.visit.new.marks c.walk.new.marks
    rest (rw c.from.ensures at c.visit.ensures) (rw c.from-2.ensures at c.walk.ensures)
