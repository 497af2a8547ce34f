use Prim.Native.Nat.{◌+◌}
use native.Mathlib.Omega.{arith}
use Rattle.spec_table.specs.Table.{decode}
use Rattle.sharing_paths.proofs.HandingAlong.{Handing, handing_start, handing_job, handing_named, handing_turn, handing_end}
use Rattle.sharing_paths.proofs.hand_along.Goals as goal
use Rattle.sharing_paths.proofs.hand_along.Goals.{At-loop-place}

pub loop-place-init : goal.loop-place-init
loop-place-init c = λ x r k. handing_start c.requires.in_order k

-- the route that there is, as far as it has gone
handing : (c : At-loop-place) → Handing (decode c.args.t.now) c.requires.by_index.1 c.loop-place.t c.args.s c.args.path.now c.loop-place.place c.args.n c.args.end
handing c = c.loop-place.invariant c.requires.by_index.0 c.requires.by_index.1 c.requires.by_index.2

pub bench_after-y-requires-clause-job_at : goal.bench_after-y-requires-clause-job_at
bench_after-y-requires-clause-job_at c =
    handing_job (handing (goal.at.bench_after-y-requires-clause-job_at c).At-loop-place) (c.loop-place.place + 1) (omega arith)

pub hand_job-requires-clause-t : goal.hand_job-requires-clause-t
hand_job-requires-clause-t c =
    rw c.from.ensures (handing_named (handing (goal.at.hand_job-requires-clause-t c).At-loop-place) c.loop-place-test.true c.bench_after-y.ensures)

pub loop-place-preserved : goal.loop-place-preserved
loop-place-preserved c = λ x r k.
    handing_turn (c.loop-place.invariant x r k) c.loop-place-test.true c.bench_after-y.ensures (rw c.from.ensures at c.hand_job.ensures)

pub returns : goal.returns
returns c = λ x r k. handing_end (c.loop-place.invariant x r k) c.loop-place-test.false
