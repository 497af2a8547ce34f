use native.Mathlib.Omega.{arith}
use mathlib.Core.Path.{◌≡◌}
use borrow.Author.Rules.{rules}
use Rattle.std.proofs.Common.{◌+◌, ◌-◌}
use Rattle.table_chains.proofs.Rebuilding.{pushing_start, pushing_turn, pushing_end, pushing_few}
use Rattle.table_chains.proofs.push_all.Goals as goal

pub loop-j-init : goal.loop-j-init
loop-j-init c =
    let all : c.jobs-j.result + 1 - 1 ≡ c.args.s.jobs = omega (arith, c.jobs-j.ensures) in
    rw all (pushing_start c.args.t.now c.args.s c.requires)

pub loop-j-preserved : goal.loop-j-preserved
loop-j-preserved c = pushing_turn (search rules) c.loop-j.invariant c.push.ensures c.from-count.ensures

pub overflow_add-count : goal.overflow_add-count
overflow_add-count c = omega (arith, pushing_few (loop-j-preserved c))

pub returns : goal.returns
returns c =
    let last : c.loop-j.j - 1 ≡ 0 = omega arith in
    pushing_end (rw last at c.loop-j.invariant)
