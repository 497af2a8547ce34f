use native.Mathlib.Omega.{arith}
use Rattle.std.proofs.Common.{◌≡◌, ◌+◌, ◌-◌, get_or, ap, max, ◌∙◌}
use borrow.Author.Rules.{rules}
use borrow.Rule.Slice.PartMut.{mid_of}
use Rattle.graph_lists.specs.Arrays.{at}
use Rattle.sharing_loads.proofs.CountingLoads.{on_few, on_turn, more_few}
use Rattle.sharing_loads.proofs.Greatest.{part_at}
use Rattle.sharing_loads.proofs.count_on.Goals as goal
use Rattle.sharing_loads.proofs.count_on.Goals.{In-loop-n}

-- the next load is that of the next bench
read : (c : In-loop-n) → let b = c.args.c.benches in let i = c.loop-n.n-index in get_or (mid_of (b + 1) (b + c.args.more + 1 - (b + 1)) c.args.loads.now) i 0 ≡ at c.args.loads.now (b + (i + 1))
read c =
    let b = c.args.c.benches in
    let i = c.loop-n.n-index in
    let e : i + (b + 1) ≡ b + (i + 1) = omega arith in
    part_at c.args.loads.now (b + 1) (b + c.args.more + 1 - (b + 1)) i (omega arith) ∙ ap (at c.args.loads.now) e

pub overflow_sub-left : goal.overflow_sub-left
overflow_sub-left c =
    let n = (goal.at.overflow_sub-left c).In-loop-n in
    rw (read n) (on_few c.loop-n.invariant (omega arith) (more_few c.requires.count_of c.args.more c.requires.more_bound))

pub loop-n-preserved : goal.loop-n-preserved
loop-n-preserved c =
    let n = (goal.at.loop-n-preserved c).In-loop-n in
    let most : c.max-best.result ≡ max c.loop-n.best (get_or (mid_of (c.args.c.benches + 1) (c.args.c.benches + c.args.more + 1 - (c.args.c.benches + 1)) c.args.loads.now) c.loop-n.n-index 0) = search rules in
    rw (read n)
    (on_turn c.loop-n.invariant (omega arith) (more_few c.requires.count_of c.args.more c.requires.more_bound) (most ∙ ap (max c.loop-n.best) (read n)))
